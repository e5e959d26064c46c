-- A call as document 01 runs it: for each chunk of the region, ascending, a rule; the frame rises by the chunk's length after each; where
-- the rule goes down, the chunk's own chunks below. Over addresses and the chunks of `region`; `Sweep` proves that this is the visit of
-- `Visit`.
use Rattle.std.specs.Prelude.{◌≡◌, refl, Bool, cond, List, [], ◌∷◌, ◌⊎◌, ℕ, zero, suc, ◌+◌, ◌*◌, ◌-◌, ◌/◌, ◌%◌, ◌≤◌, ◌<◌, min, eqb}
use Rattle.std.proofs.Common.{sym, ap, subst, ◌∙◌, inl, inr, arith}
use Rattle.laws.specs.Size.{size_at, down, size_pos}
use Rattle.laws.specs.Test.{le_or}
use Rattle.address_slot.specs.Slot.{entry_last, entry_index, chunk_end}
use Rattle.region.specs.Region.{region}
use Rattle.region.specs.Chunks.{chunks, met, met-step, chunks_none, chunks-step, chunk-fits}
use Rattle.region.specs.declared.MemoryRegion.{MemoryRegion}
use Rattle.theory_forest.specs.Tree.{Tree, leaf, node}
use Rattle.theory_tree.specs.Page.{pages_in, span-size, entry-number, entry_start, first, child, slot_of_page, In, in_from, in_of}
use Rattle.theory_tree.specs.Page.{in_child}
use Rattle.theory_tree.specs.Visit.{Rule, opened, obey}
use Rattle.theory_tree.specs.Rules.{Map}

-- ---- the loop

-- slot i of a table changed
unfoldable pub at_slot : ℕ → (Tree → Tree) → Tree → Tree
at_slot i h (leaf w) = leaf w
at_slot i h (node f) = node (λ j. cond (eqb j i) (h (f j)) (f j))

-- `each` does a chunk, with its frame, to the entry; the table's entries have `depth` levels below
unfoldable pub sweep : ℕ → (MemoryRegion → ℕ → Tree → Tree) → List MemoryRegion → ℕ → Tree → Tree
sweep depth each [] frame t = t
sweep depth each (c ∷ cs) frame t =
    sweep depth each cs (frame + (c.end.0 - c.start.0)) (at_slot (entry_index (3 - depth) c.start.0) (each c frame) t)

module _ (rules : ℕ → MemoryRegion → ℕ → Tree → Rule) where
  -- the chunk c, with its frame, of an entry with `depth` levels below
  unfoldable pub chunked : ℕ → MemoryRegion → ℕ → Tree → Tree
  chunked zero c frame t = obey (rules zero c frame t) t t
  chunked (suc depth) c frame t =
      let below = sweep depth (λ d p u. chunked depth d p u) (chunks (3 - depth) c.start.0 c.end.0) frame (opened depth t) in
      obey (rules (suc depth) c frame t) t below

  -- the region c of a table whose entries have `depth` levels below
  unfoldable pub chunked_table : ℕ → MemoryRegion → ℕ → Tree → Tree
  chunked_table depth c frame t = sweep depth (λ d p u. chunked depth d p u) (chunks (3 - depth) c.start.0 c.end.0) frame t

-- ---- in pages

-- addresses as a call in pages
abbrev pub in_pages : ℕ → Bool → ℕ → ℕ → ℕ → Map
in_pages flags blocks start end frame =
    record { from = start / 4096; upto = end / 4096; frame = frame / 4096; flags = flags; blocks = blocks }

-- whole pages, in a table whose first page is b and that has n pages
pub record Inside (b n start end frame : ℕ) : Type 0 where
  pub start_page : start % 4096 ≡ 0
  pub end_page : end % 4096 ≡ 0
  pub frame_page : frame % 4096 ≡ 0
  pub low : b ≤ start / 4096
  pub high : end / 4096 ≤ b + n

-- the slot of an address
pub index_slot : (depth a : ℕ) → depth ≤ 3 → entry_index (3 - depth) a ≡ slot_of_page (a / 4096) depth
unfolding entry_index slot_of_page
index_slot depth a h = ap (λ (x : ℕ). x % 512) (entry-number depth a h)

-- where the chunk from an address ends
chunk_end_lem : (depth q s e : ℕ) → depth ≤ 3 → In depth q (s / 4096)
    → chunk_end (3 - depth) s e ≡ min e ((first depth q + pages_in depth) * 4096)
unfolding chunk_end entry_last down
chunk_end_lem depth q s e h at =
    let size = span-size depth h in
    let pos = size_pos (3 - depth) in
    let start : s / size_at (3 - depth) * size_at (3 - depth) ≡ first depth q * 4096 =
    entry_start depth s h ∙ ap (λ (x : ℕ). first depth x * 4096) at in
    let last : s / size_at (3 - depth) * size_at (3 - depth) + (size_at (3 - depth) - 1) + 1 ≡ (first depth q + pages_in depth) * 4096 =
    omega arith in
    ap (min e) last

-- ---- the first chunk of a region in a table

-- the region from s to e of table q starts with the chunk up to z, in slot i
pub record FirstCut (depth q s e p z i : ℕ) : Type 0 where
  pub chunk : Inside (first depth (child q i)) (pages_in depth) s z p
  pub rest : Inside (first (suc depth) q) (pages_in (suc depth)) z e (p + (z - s))
  pub more : s < z
  pub within : z ≤ e
  pub ends : z / 4096 ≡ min (e / 4096) (first depth (child q i) + pages_in depth)

pub cut : (depth q s e p : ℕ) → depth ≤ 3 → s < e → Inside (first (suc depth) q) (pages_in (suc depth)) s e p
    → FirstCut depth q s e p (chunk_end (3 - depth) s e) (slot_of_page (s / 4096) depth)
cut depth q s e p low some I =
    let r : ℕ = child q (slot_of_page (s / 4096) depth) in
    let in_table : In (suc depth) q (s / 4096) =
    in_of (suc depth) q (s / 4096) I.low (omega (arith, I.start_page, I.end_page, I.high)) in
    let in_entry : In depth r (s / 4096) = in_child depth q (s / 4096) in_table in
    let at = in_from depth r (s / 4096) in_entry in
    let end : chunk_end (3 - depth) s e ≡ min e ((first depth r + pages_in depth) * 4096) = chunk_end_lem depth r s e low in_entry in
    let fits = chunk-fits (3 - depth) s e some in
    let page : chunk_end (3 - depth) s e % 4096 ≡ 0 = omega (arith, I.end_page) in
    record {
      chunk = record { start_page = I.start_page; end_page = page; frame_page = I.frame_page; low = at.0; high = omega arith };
      rest = record {
        start_page = page;
        end_page = I.end_page;
        frame_page = omega (arith, I.frame_page, I.start_page);
        low = omega (arith, I.low, fits.0);
        high = I.high;
      };
      more = fits.0;
      within = fits.1;
      ends = omega arith;
    }

-- ---- the chunks of a table's region, one after the other

module _ (depth q e : ℕ) (low : depth ≤ 3) (P : ℕ → ℕ → List MemoryRegion → Type 0) (none : (s p : ℕ) → e ≤ s → P s p [])
    (more : (s z p : ℕ) (cs : List MemoryRegion) → FirstCut depth q s e p z (slot_of_page (s / 4096) depth) → P z (p + (z - s)) cs
    → P s p (region s z ∷ cs)) where
  cut_off : (s p : ℕ) → Inside (first (suc depth) q) (pages_in (suc depth)) s e p
      → ((z : ℕ) → s < e → z ≡ chunk_end (3 - depth) s e → Inside (first (suc depth) q) (pages_in (suc depth)) z e (p + (z - s))
      → P z (p + (z - s)) (chunks (3 - depth) z e))
      → P s p (chunks (3 - depth) s e)
  cut_off s p I ih = go (le_or e s)
    where
      go : (e ≤ s) ⊎ (s < e) → P s p (chunks (3 - depth) s e)
      go (inl h) = subst (P s p) (sym (chunks_none (3 - depth) s e h)) (none s p h)
      go (inr h) =
          let z : ℕ = chunk_end (3 - depth) s e in
          let c = cut depth q s e p low h I in
          subst (P s p) (sym (chunks-step (3 - depth) s e h)) (more s z p (chunks (3 - depth) z e) c (ih z h refl c.rest))

  fewer : (s z : ℕ) {n : ℕ} → s < e → z ≡ chunk_end (3 - depth) s e → met (3 - depth) s e ≡ suc n → met (3 - depth) z e ≡ n
  fewer s z h is k = let m = met-step (3 - depth) s e h in let same = ap (λ (x : ℕ). met (3 - depth) x e) is in omega arith

  from-met : (n s p : ℕ) → met (3 - depth) s e ≡ n → Inside (first (suc depth) q) (pages_in (suc depth)) s e p
      → P s p (chunks (3 - depth) s e)
  from-met zero s p k I = cut_off s p I (λ z h is J. absurd (let m = met-step (3 - depth) s e h in omega arith))
  from-met (suc n) s p k I =
      cut_off s p I
      (λ z h is J. from-met n z (p + (z - s)) (fewer s z h is k) J)

  -- what holds where no page is left, and of a first chunk before the others, holds of all
  pub by_chunks : (s p : ℕ) → Inside (first (suc depth) q) (pages_in (suc depth)) s e p → P s p (chunks (3 - depth) s e)
  by_chunks s p I = from-met (met (3 - depth) s e) s p refl I
