-- Addresses of the call's region and of the root's span, in pages of the root's tree.
use Rattle.std.specs.Prelude.{◌≡◌, true, ℕ, suc, ◌-◌, ◌/◌, ◌^◌, ◌≤◌, ◌<◌}
use Rattle.std.proofs.Common.{ap, ◌∙◌, leb-true, ltb-true}
use native.Mathlib.Omega.{arith}
use Rattle.laws.specs.Size.{span}
use Rattle.region.specs.Chunks.{Holds}
use Rattle.region.specs.declared.MemoryRegion.{MemoryRegion}
use Rattle.pool.specs.declared.Handle.{Handle}
use Rattle.pool.specs.declared.VaRange.{VaRange}
use Rattle.pool.specs.declared.VaRange.TheVariants.{Lower, Upper}
use Rattle.look_up.specs.Call.{spanned}
use Rattle.theory_tree.specs.Page.{pages_in, first, In, in_of}
use Rattle.theory_tree.specs.Chunks.{Inside}
use Rattle.theory_tree.specs.Root.{lower-span, upper-span}
use Rattle.theory_tree.specs.Demands.{OfRegion}
use Rattle.theory_map.specs.Terms.{InSpan, depth_of, root_of, root_in}

-- ---- the pages of a region

-- the addresses of a region are those of the pages `from` to `upto`, and they lie in the root's span
pub record Paged (h : Handle) (InRegion : ℕ → Type 0) (from upto : ℕ) : Type 0 where
  pub page : (va : ℕ) → InRegion va → OfRegion from upto (va / 4096)
  pub address : (va : ℕ) → OfRegion from upto (va / 4096) → InRegion va
  pub spans : (va : ℕ) → InRegion va → In (suc (depth_of h)) (root_in h) (va / 4096)

pub paged : (h : Handle) (r : MemoryRegion) {p : ℕ}
    → Inside (first (suc (depth_of h)) (root_in h)) (pages_in (suc (depth_of h))) r.start.0 r.end.0 p
    → Paged h (Holds r) (r.start.0 / 4096) (r.end.0 / 4096)
paged h r I = record {
  page = λ va at. record { from = omega (arith, at.from, I.start_page); below = omega (arith, at.below, I.end_page) };
  address = λ va of. record { from = omega (arith, of.from, I.start_page); below = omega (arith, of.below, I.end_page) };
  spans = λ va at. in_of (suc (depth_of h)) (root_in h) (va / 4096) (omega (arith, I.low, at.from, I.start_page))
      (omega (arith, I.high, at.below, I.end_page));
}

-- ---- the root's span

root_spans : (range : VaRange) (depth va : ℕ) → depth ≤ 3 → spanned range (3 - depth) va ≡ true → va < 2 ^ 64
    → In (suc depth) (root_of range depth) (va / 4096)
unfolding root_of spanned
root_spans Lower depth va low e word = lower-span depth va low (ltb-true va (span (3 - depth)) e)
root_spans Upper depth va low e word = upper-span depth va low (leb-true (2 ^ 64 - span (3 - depth)) va e) word

pub span_spans : (h : Handle) (va : ℕ) → h.level ≤ 3 → InSpan h va → In (suc (depth_of h)) (root_in h) (va / 4096)
span_spans h va low at =
    let e : 3 - (3 - h.level) ≡ h.level = omega arith in
    root_spans h.range (depth_of h) va (omega arith) (ap (λ (l : ℕ). spanned h.range l va) e ∙ at.spans) at.word
