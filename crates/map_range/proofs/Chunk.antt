-- One step of the loop over a map's chunks: the chunk's map and what is left fit, and the loop goes on with what is left.
use Rattle.std.proofs.Common.{◌≡◌, ℕ, ◌+◌, ◌-◌, sym, ap, ap₂, ◌∙◌, arith}
use mathlib.Core.Path.{subst⁻¹}
use Rattle.address_slot.specs.Slot.{chunk_end}
use Rattle.region.specs.Region.{region, ChunkStep}
use Rattle.region.specs.Chunks.{step_fits}
use Rattle.region.specs.declared.MemoryRegion.{MemoryRegion}
use Rattle.region.specs.declared.ChunkedIterator.{ChunkedIterator}
use Rattle.pool.specs.State.{St}
use Rattle.map_rules.specs.declared.Map.{Map}
use Rattle.map_rules.specs.Rules.{chunk_map}
use Rattle.map_rules.specs.Fit.{Fit, chunk_fit}
use Rattle.map_put.specs.Put.{each_map_chunk}
use Rattle.map_put.specs.Range.{map-each-step}

-- the iterator `it`, with the map of what is left, gave the chunk r, and `on` is what is left then
module _ (m : Map) (frame : ℕ) {it on : ChunkedIterator} {r : MemoryRegion} (fit : Fit (chunk_map m it.range frame))
    (step : ChunkStep it r on) where
  pub chunk_fits : Fit (chunk_map m r frame)
  chunk_fits =
      let from = it.range.start.0 in
      let end = it.range.end.0 in
      let cut = chunk_fit it.level from end frame (chunk_map m it.range frame) fit step.left fit.from fit.to fit.frame fit.room in
      subst⁻¹ (λ (x : ℕ). Fit (chunk_map m (region x r.end.0) frame)) step.starts
      (subst⁻¹ (λ (x : ℕ). Fit (chunk_map m (region from x) frame)) step.stops cut)

  -- the frame rises by the chunk's length
  pub rest_fits : Fit (chunk_map m on.range (frame + (r.end.0 - r.start.0)))
  rest_fits =
      let c = chunk_fits in
      let within = step_fits step in
      let left : Fit (chunk_map m (region r.end.0 it.range.end.0) (frame + (r.end.0 - r.start.0))) = record {
        from = c.to;
        to = fit.to;
        some = within.1;
        frame = omega (arith, c.from, c.to, c.frame, within.0);
        room = omega (arith, within.0, within.1, fit.room, step.starts);
        flags = fit.flags;
      } in
      subst⁻¹ (λ (d : ChunkedIterator). Fit (chunk_map m d.range (frame + (r.end.0 - r.start.0)))) step.rest left

  pub each_next : (level : ℕ) (f : Map → St → St) (s : St) → it.level ≡ level
      → each_map_chunk level f (chunk_map m on.range (frame + (r.end.0 - r.start.0))) (f (chunk_map m r frame) s)
      ≡ each_map_chunk level f (chunk_map m it.range frame) s
  each_next level f s at =
      let from = it.range.start.0 in
      let end = it.range.end.0 in
      let stops : r.end.0 ≡ chunk_end level from end = step.stops ∙ ap (λ (l : ℕ). chunk_end l from end) at in
      let after = f (chunk_map m r frame) s in
      ap (λ (d : ChunkedIterator). each_map_chunk level f (chunk_map m d.range (frame + (r.end.0 - r.start.0))) after) step.rest
      ∙ ap₂ (λ (x y : ℕ). each_map_chunk level f (chunk_map m (region y end) (frame + (y - x))) (f (chunk_map m (region x y) frame) s))
      step.starts stops
      ∙ sym (map-each-step level f m from end frame s step.left)
