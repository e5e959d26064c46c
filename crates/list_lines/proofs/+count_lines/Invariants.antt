use mathlib.Core.Path.{◌≡◌}
use Prim.Native.Nat.{◌+◌, ◌-◌}
use lib.ListN.{length}
use Rattle.region.specs.Chunks.{chunks_of}
use Rattle.list_lines.specs.Lines.{each, lines_at}
use Rattle.list_lines.proofs.+count_lines.Given as goal

abbrev pub invariant-loop-chunk : goal.invariant-loop-chunk
invariant-loop-chunk l =
    l.count + length (each (lines_at l.handle.base.0 l.tables l.words l.k l.level) (chunks_of l.chunk-iterator))
    ≡ length (each (lines_at l.handle.base.0 l.tables l.words l.k l.level) (chunks_of l.initial.chunk-iterator))

abbrev pub decreases-count_lines : goal.decreases-count_lines
decreases-count_lines l = 3 - l.level
