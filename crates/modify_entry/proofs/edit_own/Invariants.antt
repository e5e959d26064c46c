use Rattle.std.proofs.Common.{◌≡◌, length}
use Rattle.region.specs.Each.{each_left}
use Rattle.modify_entry.specs.Own.{noted, own_chunk}
use Rattle.modify_entry.proofs.edit_own.Given as goal

abbrev pub invariant-loop-chunk : goal.invariant-loop-chunk
invariant-loop-chunk l =
    (length l.words ≡ length l.initial.words)
    × (each_left (own_chunk l.k l.level l.edit) l.chunk-iterator (noted l.words l.list l.count)
    ≡ each_left (own_chunk l.k l.level l.edit) l.initial.chunk-iterator (noted l.initial.words l.initial.list l.before))
