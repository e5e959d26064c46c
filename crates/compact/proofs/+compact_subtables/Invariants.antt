use Rattle.std.proofs.Common.{◌≡◌, ◌+◌, ◌-◌}
use Rattle.laws.specs.Slot.{iter}
use Rattle.pool.specs.Lent.{lent, KeepsLent}
use Rattle.compact_spec.specs.Compact.{compact_entry, compact_table}
use Rattle.compact.proofs.+compact_subtables.Given as goal

abbrev pub decreases-compact_subtables : goal.decreases-compact_subtables
decreases-compact_subtables l = 3 - l.level

-- one call of the level below is `compact_table` there
abbrev pub invariant-loop-i : goal.invariant-loop-i
invariant-loop-i l =
    let first = l.initial.pool in
    record {
      keeps : KeepsLent first l.pool;
      compacts :
          lent l.pool
          ≡ iter (compact_entry (λ j t. compact_table (3 - (l.level + 1)) first.handle j t) first.handle l.k l.level) l.i (lent first);
    }
