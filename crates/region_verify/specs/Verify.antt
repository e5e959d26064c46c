-- Refusals 2, 5 and 6 (document 01, "The refusal slip"), and a law for each way through the code.
use Rattle.std.specs.Prelude.{◌≡◌, Bool, ◌&&◌, ◌||◌, ◌⊎◌, ℕ, ◌*◌, ◌-◌, ◌^◌, ◌≤◌, ◌<◌, leb, ltb, Err}
use Rattle.std.proofs.Math.Path.{refl}
use Rattle.std.proofs.Common.{◌∙◌, inl, inr, ⊎_elim, arith}
use Rattle.std.proofs.Math.Bool.{true, false, cond}
use borrow.Author.Tests.{le-leb, lt-leb, le-ltb, lt-ltb}
use Rattle.laws.specs.Size.{size_at, span, span_is, span_high}
use Rattle.laws.specs.Test.{le_or}
use Rattle.region.specs.declared.MemoryRegion.{MemoryRegion}
use Rattle.pool.specs.declared.Handle.{Handle}
use Rattle.pool.specs.declared.VaRange.{VaRange}
use Rattle.pool.specs.declared.VaRange.TheVariants.{Lower, Upper}
use Rattle.pool.specs.declared.Refusal.{Refusal}
use Rattle.pool.specs.declared.Refusal.TheVariants.{RegionBackwards, AddressRange}
use Rattle.pool.specs.Refuse.{Outcome, granted}

-- refusal 2 is given exactly when this fails: end is 0 or above 2^64 - 4096
unfoldable pub end_fits : ℕ → Bool
end_fits end = leb 1 end && leb end (2 ^ 64 - 4096)

-- refusal 6, as `verify_region` tests it: a lower region starts below 2^63 and ends in the span; an upper one starts at or above 2^63, in
-- the span
unfoldable pub in_range : VaRange → ℕ → MemoryRegion → Outcome
in_range Lower level r =
    cond (leb (2 ^ 63) r.start.0) (Err (AddressRange r.start))
    (cond (ltb (span level) r.end.0) (Err (AddressRange r.end)) granted)
in_range Upper level r =
    cond (ltb r.start.0 (2 ^ 63) || ltb r.start.0 (2 ^ 64 - span level)) (Err (AddressRange r.start)) granted

-- `verify_region`: refusals 5, 6 of a rounded region
unfoldable pub verify : Handle → MemoryRegion → Outcome
verify h r = cond (ltb r.end.0 r.start.0) (Err (RegionBackwards r)) (in_range h.range h.level r)

-- ---- laws: one for each way through the code

pub end_zero : (end : ℕ) → end ≡ 0 → false ≡ end_fits end
unfolding end_fits
end_zero end e = rw e

pub end_some : (end : ℕ) → (end ≡ 0 → ⊥) → leb end (2 ^ 64 - 4096) ≡ end_fits end
unfolding end_fits
end_some end n = rw (le-leb 1 end (omega arith))

module _ (range : VaRange) (level : ℕ) (r : MemoryRegion) {g : ℕ} (size : g ≡ size_at level) where
  pub lower_start : range ≡ Lower → 2 ^ 63 ≤ r.start.0 → Err (AddressRange r.start) ≡ in_range range level r
  unfolding in_range
  lower_start e l = rw (e, le-leb (2 ^ 63) r.start.0 l)

  pub lower_end : range ≡ Lower → r.start.0 < 2 ^ 63 → 512 * g < r.end.0 → Err (AddressRange r.end) ≡ in_range range level r
  unfolding in_range
  lower_end e l m = rw (e, lt-leb (2 ^ 63) r.start.0 l, span_is level size, lt-ltb (512 * g) r.end.0 m)

  pub lower_in : range ≡ Lower → r.start.0 < 2 ^ 63 → r.end.0 ≤ 512 * g → granted ≡ in_range range level r
  unfolding in_range
  lower_in e l m = rw (e, lt-leb (2 ^ 63) r.start.0 l, span_is level size, le-ltb (512 * g) r.end.0 m)

  pub upper_start : range ≡ Upper → r.start.0 ≤ 2 ^ 64 - 1 - 512 * g → Err (AddressRange r.start) ≡ in_range range level r
  unfolding in_range
  upper_start e l =
      let h = span_high level in
      let q = span_is level size in
      rw (e, lt-ltb r.start.0 (2 ^ 64 - span level) (omega arith)) (either (ltb r.start.0 (2 ^ 63)))
    where
      either : (b : Bool) → Err (AddressRange r.start) ≡ cond (b || true) (Err (AddressRange r.start)) granted
      either true = refl
      either false = refl

  pub upper_in : range ≡ Upper → 2 ^ 64 - 1 - 512 * g < r.start.0 → granted ≡ in_range range level r
  unfolding in_range
  upper_in e l =
      let h = span_high level in
      let q = span_is level size in
      rw (e, le-ltb r.start.0 (2 ^ 63) (omega arith), le-ltb r.start.0 (2 ^ 64 - span level) (omega arith))

pub verify_backwards : (h : Handle) (r : MemoryRegion) → r.end.0 < r.start.0 → Err (RegionBackwards r) ≡ verify h r
unfolding verify
verify_backwards h r l = rw (lt-ltb r.end.0 r.start.0 l)

pub verify_forwards : (h : Handle) (r : MemoryRegion) → r.start.0 ≤ r.end.0 → in_range h.range h.level r ≡ verify h r
unfolding verify
verify_forwards h r l = rw (le-ltb r.end.0 r.start.0 l)

-- ---- what an accepted region is

-- no refusal is an acceptance
pub refused_never : {x : Refusal} → ◌≡◌ {A = Outcome} (Err x) granted → ⊥
refused_never q = let z : ◌≡◌ {A = ℕ} 0 1 = cc in omega arith

pub verified_forwards : (h : Handle) (r : MemoryRegion) → verify h r ≡ granted → r.start.0 ≤ r.end.0
verified_forwards h r e = ⊎_elim (λ h. h) (λ l. absurd (refused_never (verify_backwards h r l ∙ e))) (le_or r.start.0 r.end.0)

-- a region lies in the root's span
abbrev pub RegionInSpan : VaRange → ℕ → MemoryRegion → Type 0
RegionInSpan Lower level r = r.end.0 ≤ span level
RegionInSpan Upper level r = 2 ^ 64 - span level ≤ r.start.0

ranged_span : (range : VaRange) (level : ℕ) (r : MemoryRegion) → in_range range level r ≡ granted → RegionInSpan range level r
unfolding in_range
ranged_span Lower level r e = go (le_or (2 ^ 63) r.start.0) (le_or r.end.0 (span level))
  where
    go : (2 ^ 63 ≤ r.start.0) ⊎ (r.start.0 < 2 ^ 63) → (r.end.0 ≤ span level) ⊎ (span level < r.end.0) → r.end.0 ≤ span level
    go (inl l) m = absurd (refused_never (rw (le-leb (2 ^ 63) r.start.0 l) at e))
    go (inr l) (inr m) = absurd (refused_never (rw (lt-leb (2 ^ 63) r.start.0 l, lt-ltb (span level) r.end.0 m) at e))
    go (inr l) (inl m) = m
ranged_span Upper level r e = go (le_or (2 ^ 64 - span level) r.start.0)
  where
    either : (b : Bool) → cond (b || true) (Err (AddressRange r.start)) granted ≡ granted → ⊥
    either true q = let z : ◌≡◌ {A = ℕ} 0 1 = cc in omega arith
    either false q = let z : ◌≡◌ {A = ℕ} 0 1 = cc in omega arith

    go : (2 ^ 64 - span level ≤ r.start.0) ⊎ (r.start.0 < 2 ^ 64 - span level) → 2 ^ 64 - span level ≤ r.start.0
    go (inl l) = l
    go (inr l) = absurd (either (ltb r.start.0 (2 ^ 63)) (rw (lt-ltb r.start.0 (2 ^ 64 - span level) l) at e))

pub verified_span : (h : Handle) (r : MemoryRegion) → verify h r ≡ granted → RegionInSpan h.range h.level r
verified_span h r e = ranged_span h.range h.level r (verify_forwards h r (verified_forwards h r e) ∙ e)

-- a region in the span is no longer than the largest span
pub span-length : (range : VaRange) (level : ℕ) (r : MemoryRegion) → RegionInSpan range level r → r.end.0 < 2 ^ 64
    → r.end.0 - r.start.0 ≤ 2 ^ 48
span-length Lower level r l below = let b = span_high level in omega arith
span-length Upper level r l below = let b = span_high level in omega arith
