-- Something done with each chunk of a region at a level, ascending (document 01, "Putting down a map"), and laws of the loop that does it.
-- Leans on `Chunks`.
use Rattle.std.specs.Prelude.{◌≡◌, refl, Some, None, List, [], ◌∷◌, ℕ, ◌+◌, ◌*◌, ◌-◌, ◌≤◌, ◌<◌}
use Rattle.std.proofs.Common.{sym, ap, ◌∙◌, add-mul, arith}
use Rattle.address_slot.specs.Slot.{chunk_end}
use Rattle.region.specs.Region.{region_of, parted, next_chunk}
use Rattle.region.specs.Chunks.{chunks, chunks_of, next_gives, chunks-step, chunks_none, Tiles, none, more, chunks_tile}
use Rattle.region.specs.declared.MemoryRegion.{MemoryRegion}
use Rattle.region.specs.declared.ChunkedIterator.{ChunkedIterator}

-- something done with each of these chunks, one after the other
unfoldable pub each_of {ℓ} : {S : Type ℓ} → (MemoryRegion → S → S) → List MemoryRegion → S → S
each_of f [] s = s
each_of f (c ∷ cs) s = each_of f cs (f c s)

-- "for each chunk, ascending"
unfoldable pub each_chunk {ℓ} : {S : Type ℓ} → ℕ → (MemoryRegion → S → S) → MemoryRegion → S → S
each_chunk level f r s = each_of f (chunks level r.start.0 r.end.0) s

module _ {ℓ} {S : Type ℓ} (level : ℕ) (f : MemoryRegion → S → S) (at end : ℕ) (s : S) where
  pub each_done : end ≤ at → each_chunk level f (region_of at end) s ≡ s
  unfolding each_chunk each_of
  each_done h = rw (chunks_none level at end h)

  pub each_step : at < end
      → each_chunk level f (region_of at end) s
      ≡ each_chunk level f (region_of (chunk_end level at end) end) (f (region_of at (chunk_end level at end)) s)
  unfolding each_chunk each_of
  each_step h = rw (chunks-step level at end h)

-- what is left to do where an iterator stands in such a loop: all of it at first, one chunk less after each step, nothing at the end
module _ {ℓ} {S : Type ℓ} (f : MemoryRegion → S → S) where
  abbrev pub each_left : ChunkedIterator → S → S
  each_left c s = each_of f (chunks_of c) s

  pub left_all : (level : ℕ) (r : MemoryRegion) {c : ChunkedIterator} → c ≡ record { range = r; level = level } → (s : S)
      → each_left c s ≡ each_chunk level f r s
  unfolding each_chunk
  left_all level r e s = rw e refl

  module _ (c d : ChunkedIterator) where
    pub left_step : {r : MemoryRegion} → parted (Some r) d ≡ next_chunk c → (s : S) {x : S} → x ≡ f r s → each_left d x ≡ each_left c s
    unfolding each_of
    left_step is s e = rw (next_gives c d is, e)

    pub left_done : parted None d ≡ next_chunk c → (s : S) → s ≡ each_left c s
    unfolding each_of
    left_done is s = rw (next_gives c d is).0

-- where each chunk adds no more than k for each of its bytes, the region does
of_most {ℓ} : {S : Type ℓ} (m : S → ℕ) (k : ℕ) (f : MemoryRegion → S → S)
    → ((c : MemoryRegion) (s : S) → c.start.0 < c.end.0 → m (f c s) ≤ m s + (c.end.0 - c.start.0) * k)
    → {level e a : ℕ} {rs : List MemoryRegion} → Tiles level e a rs → (s : S) → m (each_of f rs s) ≤ m s + (e - a) * k
unfolding each_of
of_most m k f h (none l) s = omega arith
of_most m k f h {e = e} (more {s = a} {m = b} p q r t) s =
    let here = h (region_of a b) s p in
    let later = of_most m k f h t (f (region_of a b) s) in
    let whole : b - a + (e - b) ≡ e - a = omega arith in
    let both : (e - a) * k ≡ (b - a) * k + (e - b) * k = ap (λ (x : ℕ). x * k) (sym whole) ∙ add-mul (b - a) (e - b) k in
    omega arith

pub each_most {ℓ} : {S : Type ℓ} (m : S → ℕ) (k level : ℕ) (f : MemoryRegion → S → S)
    → ((c : MemoryRegion) (s : S) → c.start.0 < c.end.0 → m (f c s) ≤ m s + (c.end.0 - c.start.0) * k)
    → (r : MemoryRegion) (s : S) → m (each_chunk level f r s) ≤ m s + (r.end.0 - r.start.0) * k
unfolding each_chunk
each_most m k level f h r s = of_most m k f h (chunks_tile level r.start.0 r.end.0) s
