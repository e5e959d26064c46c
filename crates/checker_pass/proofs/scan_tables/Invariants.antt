use mathlib.Core.Path.{◌≡◌}
use Prim.Native.Nat.{◌+◌, ◌*◌, ◌-◌, ◌≤◌}
use lib.Dec.{T}
use lib.ListN.{length}
use Rattle.laws.specs.Sum.{sum}
use Rattle.laws.specs.Test.{all_below}
use Rattle.pool.specs.Lent.{read_state}
use Rattle.checker_pass.specs.Pass.{run_passes, run_links, table_passes, table_links}
use Rattle.checker_pass.proofs.scan_tables.Given as goal

abbrev pub invariant-loop-r : goal.invariant-loop-r
invariant-loop-r l =
    T (all_below l.r (run_passes l.pool.handle (read_state l.pool) l.k))
    × (l.links ≡ sum l.k (table_links (read_state l.pool)) + sum l.r (run_links (read_state l.pool) l.k))
    × (l.links ≤ 512 * l.k + 128 * l.r)

abbrev pub invariant-tables : goal.invariant-tables
invariant-tables l =
    (l.k ≤ length l.pool.ledger.now) × T (all_below l.k (table_passes l.pool.handle (read_state l.pool)))
    × (l.links ≡ sum l.k (table_links (read_state l.pool))) × (l.links ≤ 512 * l.k)

abbrev pub decreases-tables : goal.decreases-tables
decreases-tables l = length l.pool.ledger.now - l.k
