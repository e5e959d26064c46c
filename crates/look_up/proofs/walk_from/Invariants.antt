use mathlib.Core.Path.{◌≡◌}
use Prim.Native.Nat.{◌-◌, ◌≤◌, ◌<◌}
use lib.ListN.{length}
use Rattle.arm.specs.Arm.{reach_from, says, walk}
use Rattle.arm.specs.Walk.{slots_of}
use Rattle.look_up.proofs.walk_from.Given as goal

abbrev pub invariant-loop-j : goal.invariant-loop-j
invariant-loop-j l =
    (l.level ≤ 3) × (l.k < length l.pool.ledger.now) × (l.slots ≡ slots_of l.va.0)
    × (says l.va.0 (reach_from l.pool.handle.base.0 (length l.pool.ledger.now) l.pool.words.now l.va.0 (3 - l.level) l.k)
    ≡ walk l.pool.handle.base.0 (length l.pool.ledger.now) l.pool.words.now l.va.0 l.pool.handle.level)

abbrev pub decreases-loop-j : goal.decreases-loop-j
decreases-loop-j l = 4 - l.level
