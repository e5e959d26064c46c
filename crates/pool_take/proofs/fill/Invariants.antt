use mathlib.Core.List.{◌++◌}
use mathlib.Core.Path.{◌≡◌}
use Prim.Native.Nat.{◌+◌, ◌*◌, ◌%◌, ◌^◌}
use lib.ListN.{take, drop}
use Rattle.pool_table.specs.Table.{rising}
use Rattle.pool_take.proofs.fill.Given as goal

abbrev pub invariant-loop-i : goal.invariant-loop-i
invariant-loop-i l =
    (l.table ≡ take l.i (rising 512 l.first l.step) ++ drop l.i l.initial.table)
    × (l.word ≡ (l.first + l.step * l.i) % 2 ^ 64)
