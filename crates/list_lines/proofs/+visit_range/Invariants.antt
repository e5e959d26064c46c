use mathlib.Core.Path.{◌≡◌}
use Prim.Native.Nat.{◌+◌, ◌*◌, ◌-◌}
use lib.ListN.{length}
use Rattle.laws.specs.Part.{put_part}
use Rattle.region.specs.Chunks.{chunks_of}
use Rattle.list_lines.specs.Lines.{each, numbers, lines_at}
use Rattle.list_lines.proofs.+visit_range.Given as goal

abbrev pub invariant-loop-chunk : goal.invariant-loop-chunk
invariant-loop-chunk l =
    (l.to + 4 * length (each (lines_at l.handle.base.0 l.tables l.words l.k l.level) (chunks_of l.chunk-iterator))
    ≡ l.from + 4 * length (each (lines_at l.handle.base.0 l.tables l.words l.k l.level) (chunks_of l.initial.chunk-iterator)))
    × (length l.list ≡ length l.initial.list)
    × (put_part l.to (numbers (each (lines_at l.handle.base.0 l.tables l.words l.k l.level) (chunks_of l.chunk-iterator))) l.list
    ≡ put_part l.from (numbers (each (lines_at l.handle.base.0 l.tables l.words l.k l.level) (chunks_of l.initial.chunk-iterator))) l.initial.list)

abbrev pub decreases-visit_range : goal.decreases-visit_range
decreases-visit_range l = 3 - l.level
