-- Regions and the next chunk, and a law for each way through the code.
use Rattle.std.specs.Prelude.{◌≡◌, refl, Option, Some, None, Bool, cond, ◌&&◌, ◌⊎◌, ℕ, ◌%◌, ◌≤◌, ◌<◌, eqb, ltb}
use Rattle.std.proofs.Common.{ap, sym, ◌∙◌, inl, inr, lt-ltb, le-ltb}
use Rattle.laws.specs.Test.{le_or}
use Rattle.laws.specs.Size.{size_at, down}
use Rattle.address.specs.Address.{align_up}
use Rattle.address_slot.specs.Slot.{chunk_end}
use Rattle.region.specs.declared.MemoryRegion.{MemoryRegion}
use Rattle.region.specs.declared.ChunkedIterator.{ChunkedIterator}

-- the addresses from s up to e
abbrev pub region : ℕ → ℕ → MemoryRegion
region s e = record { start = record { 0 = s }; end = record { 0 = e } }

-- the same, for what this crate says of regions: it rests on no `region`, so that a wrong `region` is refused by itself
abbrev pub region_of : ℕ → ℕ → MemoryRegion
region_of s e = record { start = record { 0 = s }; end = record { 0 = e } }

-- document 01, "Putting down a map": start is rounded down and end up to 4096
unfoldable pub rounded : ℕ → ℕ → MemoryRegion
rounded start end = region_of (down start 4096) (align_up end 4096)

-- the chunk is the whole entry
unfoldable pub whole : ℕ → MemoryRegion → Bool
whole level r = eqb (r.start.0 % size_at level) 0 && eqb (r.end.0 % size_at level) 0

-- a chunk, if there is one, and what remains
pub record Parted : Type 0 where
  pub chunk : Option MemoryRegion
  pub rest : ChunkedIterator

abbrev pub parted : Option MemoryRegion → ChunkedIterator → Parted
parted r c = record { chunk = r; rest = c }

-- the chunk from s to m, and what remains up to e
abbrev pub cut_at : ℕ → ℕ → ℕ → ℕ → Parted
cut_at level s m e = parted (Some (region_of s m)) (record { range = region_of m e; level = level })

-- the next chunk of what remains; none, and nothing changes, where nothing does
unfoldable pub next_chunk : ChunkedIterator → Parted
next_chunk c =
    let s = c.range.start.0 in
    let e = c.range.end.0 in
    cond (ltb s e) (cut_at c.level s (chunk_end c.level s e) e) (parted None c)

-- ---- laws

pub next_done : (c : ChunkedIterator) → c.range.end.0 ≤ c.range.start.0 → parted None c ≡ next_chunk c
unfolding next_chunk
next_done c h = rw (le-ltb c.range.start.0 c.range.end.0 h)

pub next_cut : (c : ChunkedIterator) (m : ℕ) → c.range.start.0 < c.range.end.0
    → m ≡ chunk_end c.level c.range.start.0 c.range.end.0
    → cut_at c.level c.range.start.0 m c.range.end.0 ≡ next_chunk c
unfolding next_chunk
next_cut c m h e =
    rw (lt-ltb c.range.start.0 c.range.end.0 h) (ap (λ (x : ℕ). cut_at c.level c.range.start.0 x c.range.end.0) e)

-- ---- a loop over the chunks, `for chunk in region.split(level)`: what each call of `next` says of the iterator before it and after it

-- the iterator c gave the chunk r, and d is what is left: for the step of such a loop
pub record ChunkStep (c : ChunkedIterator) (r : MemoryRegion) (d : ChunkedIterator) : Type 0 where
  pub left : c.range.start.0 < c.range.end.0
  pub starts : r.start.0 ≡ c.range.start.0
  pub stops : r.end.0 ≡ chunk_end c.level c.range.start.0 c.range.end.0
  pub rest : d ≡ record { range = region_of r.end.0 c.range.end.0; level = c.level }

module _ (c d : ChunkedIterator) where
  -- from what `next` ensures (`steps`) where it gives a chunk
  pub step_of : {r : MemoryRegion} → parted (Some r) d ≡ next_chunk c → ChunkStep c r d
  step_of {r} is = go (le_or c.range.end.0 c.range.start.0)
    where
      m : ℕ
      m = chunk_end c.level c.range.start.0 c.range.end.0

      cut : Some r ≡ Some (region_of c.range.start.0 m) → d ≡ record { range = region_of m c.range.end.0; level = c.level }
          → c.range.start.0 < c.range.end.0 → ChunkStep c r d
      cut p q h = let same : r ≡ region_of c.range.start.0 m = cc in rw same (record { left = h; starts = refl; stops = refl; rest = q })

      go : (c.range.end.0 ≤ c.range.start.0) ⊎ (c.range.start.0 < c.range.end.0) → ChunkStep c r d
      go (inl h) = absurd (let none : Some r ≡ None = ap (λ (p : Parted). p.chunk) (is ∙ sym (next_done c h)) in cc)
      go (inr h) =
          let e : parted (Some r) d ≡ cut_at c.level c.range.start.0 m c.range.end.0 = is ∙ sym (next_cut c m h refl) in
          cut (ap (λ (p : Parted). p.chunk) e) (ap (λ (p : Parted). p.rest) e) h

  -- from the same where it gives none: nothing is left, and nothing changed
  pub none_left : parted None d ≡ next_chunk c → (c.range.end.0 ≤ c.range.start.0) × (d ≡ c)
  none_left is = go (le_or c.range.end.0 c.range.start.0)
    where
      go : (c.range.end.0 ≤ c.range.start.0) ⊎ (c.range.start.0 < c.range.end.0) → (c.range.end.0 ≤ c.range.start.0) × (d ≡ c)
      go (inl h) = (h, ap (λ (p : Parted). p.rest) (is ∙ sym (next_done c h)))
      go (inr h) = absurd (let z = ap (λ (p : Parted). p.chunk) (is ∙ sym (next_cut c _ h refl)) in cc)
