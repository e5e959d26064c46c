use mathlib.Core.Path.{◌≡◌}
use Prim.Native.Nat.{◌+◌, ◌≤◌}
use lib.ListN.{drop}
use Rattle.pool.specs.Number.{used}
use Rattle.pool_ledger.proofs.count_used.Given as goal

abbrev pub invariant-loop-number : goal.invariant-loop-number
invariant-loop-number l = (l.count ≤ l.number-index) × (l.count + used (drop l.number-index l.ledger) ≡ used l.ledger)
