use mathlib.Core.Path.{◌≡◌}
use Prim.Native.Nat.{ℕ, ◌-◌, ◌+◌}
use Rattle.laws.specs.Slot.{iter}
use Rattle.pool.specs.State.{St}
use Rattle.pool.specs.Lent.{lent, KeepsLent}
use Rattle.pool.specs.declared.Handle.{Handle}
use Rattle.pool_table.specs.Table.{free_slot, free_tree}
use Rattle.pool_table.proofs.+free.Given as goal

-- what the call one level down does
abbrev pub below : ℕ → Handle → ℕ → St → St
below level handle = λ j t. free_tree (3 - (level + 1)) handle j t

abbrev pub invariant-loop-i : goal.invariant-loop-i
invariant-loop-i l =
    let first = l.initial.pool in
    record {
      keeps : KeepsLent first l.pool;
      frees : lent l.pool ≡ iter (free_slot (below l.level first.handle) first.handle l.k l.level) l.i (lent first);
    }

abbrev pub decreases-free : goal.decreases-free
decreases-free l = 3 - l.level
