use Rattle.std.proofs.Common.{◌≡◌, ◌-◌}
use Rattle.region.specs.Each.{each_left}
use Rattle.pool.specs.Lent.{lent, KeepsLent}
use Rattle.modify_range.specs.Range.{work, down_step}
use Rattle.modify_range.proofs.+modify_range.Given as goal

abbrev pub invariant-loop-chunk : goal.invariant-loop-chunk
invariant-loop-chunk l =
    KeepsLent l.initial.pool l.pool
    × (each_left (down_step l.initial.pool.handle l.k l.level l.edit) l.chunk-iterator (work (lent l.pool) l.list l.count)
    ≡ each_left (down_step l.initial.pool.handle l.k l.level l.edit) l.initial.chunk-iterator
    (work (lent l.initial.pool) l.initial.list l.before))

abbrev pub decreases-modify_range : goal.decreases-modify_range
decreases-modify_range l = 3 - l.level
