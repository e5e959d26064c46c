-- A sum over a map's chunks, one step after the other: what both loops know before each chunk, of the chunk, and after it.
use Rattle.std.proofs.Common.{◌≡◌, ℕ, ◌+◌, ◌-◌, ◌≤◌, sym, ap, ap₂, ◌∙◌, arith}
use Rattle.address_slot.specs.Slot.{chunk_end}
use Rattle.region.specs.Region.{region, ChunkStep}
use Rattle.region.specs.Chunks.{step_fits}
use Rattle.region.specs.declared.MemoryRegion.{MemoryRegion}
use Rattle.region.specs.declared.ChunkedIterator.{ChunkedIterator}
use Rattle.map_rules.specs.declared.Map.{Map}
use Rattle.map_rules.specs.declared.Rule.{Rule}
use Rattle.map_rules.specs.Rules.{rule_of, chunk_map}
use Rattle.map_rules.specs.Fit.{Fit, chunk_fit, chunk_paged, rest_paged}
use Rattle.map_count_spec.specs.Needed.{sum_chunks, sum_none, sum_first}
use Rattle.map_count_spec.specs.Count.{Chunk}

-- what is left of the map m, from a frame on, where an iterator of its chunks stands
abbrev pub left : Map → ChunkedIterator → ℕ → Map
left m c frame = chunk_map m c.range frame

-- what the loop keeps: what is left of the map fits as the map did, and the count n with the sum over what is left is the whole sum
pub record Counting (level : ℕ) (f : Map → ℕ) (m : Map) (n : ℕ) (c : ChunkedIterator) (frame : ℕ) : Type 0 where
  pub here : c.level ≡ level
  pub fit : Fit (left m c frame)
  pub sum : n + sum_chunks level f (left m c frame) ≡ sum_chunks level f m

module _ (level : ℕ) (f : Map → ℕ) (m : Map) (n : ℕ) {c d : ChunkedIterator} {r : MemoryRegion} (step : ChunkStep c r d) (frame : ℕ)
    (before : Counting level f m n c frame) where
  cut : region c.range.start.0 (chunk_end c.level c.range.start.0 c.range.end.0) ≡ r
  cut = sym (ap₂ region step.starts step.stops)

  -- the chunk's own map
  pub step_chunk : Chunk level (chunk_map m r frame)
  step_chunk = let f = step_fits step in rw (← before.here) (record { some = f.0; within = f.2 })

  pub step_fit : Fit (chunk_map m r frame)
  step_fit =
      let p = before.fit in
      rw (← cut) (chunk_fit c.level c.range.start.0 c.range.end.0 frame (left m c frame) p step.left p.from p.to p.frame p.room)

  level_kept : d.level ≡ level
  level_kept = ap (λ (i : ChunkedIterator). i.level) step.rest ∙ before.here

  -- what is left after it
  module _ {size : ℕ} (is : size ≡ r.end.0 - r.start.0) where
    rest_fit : Fit (left m d (frame + size))
    rest_fit =
        let p = before.fit in
        let f = step_fits step in
        let paged = rest_paged c.level c.range.start.0 c.range.end.0 frame (left m c frame) p step.left p.from p.to p.frame p.room in
        rw (step.rest, is)
        (record {
          from = rw step.stops (chunk_paged c.level c.range.start.0 c.range.end.0 p.to);
          to = p.to;
          some = f.1;
          frame = rw (step.starts, step.stops) paged;
          room = omega (arith, step.starts, f.0, f.1, p.room);
          flags = p.flags;
        })

    sums : f (chunk_map m r frame) + sum_chunks level f (left m d (frame + size)) ≡ sum_chunks level f (left m c frame)
    sums = rw (← before.here, step.rest, is, ← cut) (sym (sum_first c.level f (left m c frame) step.left))

    -- the chunk's summand is what the code adds
    pub step_adds : {x : ℕ} → f (chunk_map m r frame) ≡ x → Counting level f m (n + x) d (frame + size)
    step_adds e = record { here = level_kept; fit = rest_fit; sum = omega (arith, sums, before.sum) }

    pub step_skips : f (chunk_map m r frame) ≡ 0 → Counting level f m n d (frame + size)
    step_skips e = record { here = level_kept; fit = rest_fit; sum = omega (arith, sums, before.sum) }

    pub step_most : {x : ℕ} → f (chunk_map m r frame) ≡ x → n + x ≤ sum_chunks level f m
    step_most e = omega (arith, sums, before.sum)

-- at the end nothing is left
pub counted : (level : ℕ) (f : Map → ℕ) (m : Map) (n : ℕ) (c : ChunkedIterator) (frame : ℕ) → Counting level f m n c frame
    → c.range.end.0 ≤ c.range.start.0 → n ≡ sum_chunks level f m
counted level f m n c frame before h = let none = sum_none level f (left m c frame) h in omega (arith, before.sum)

-- what is said of a chunk's record, said of its map
pub ruled : (level w : ℕ) (m n : Map) {r : Rule} → r ≡ rule_of level m w → m ≡ n → r ≡ rule_of level n w
ruled level w m n e q = e ∙ ap (λ (x : Map). rule_of level x w) q
