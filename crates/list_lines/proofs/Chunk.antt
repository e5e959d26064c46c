-- What both walks of a region know of its chunks.
use mathlib.Core.List.{List}
use mathlib.Core.Path.{◌≡◌, sym, ap, ◌∙◌}
use Prim.Native.Nat.{ℕ, ◌-◌, ◌≤◌}
use Rattle.region.specs.Chunks.{chunks_of}
use Rattle.region.specs.declared.MemoryRegion.{MemoryRegion}
use Rattle.region.specs.declared.ChunkedIterator.{ChunkedIterator}
use Rattle.list_lines.specs.Lines.{each, lines_from, lines_at, lines-each}

-- all the lines, by the chunks at entry
pub lines_split : (base n : ℕ) (words : List ℕ) (k level : ℕ) (r : MemoryRegion) {it : ChunkedIterator} → level ≤ 3
    → it ≡ record { range = r; level = level }
    → lines_from base n words (3 - level) k r ≡ each (lines_at base n words k level) (chunks_of it)
lines_split base n words k level r h e =
    lines-each base n words k level r h ∙ ap (λ (it : ChunkedIterator). each (lines_at base n words k level) (chunks_of it)) (sym e)
