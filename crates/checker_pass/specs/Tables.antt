-- Laws that the pass cites: one for each way through a table and all tables. Leans on `Pass`.
use Rattle.std.specs.Prelude.{◌≡◌, true, false, ◌&&◌, ℕ, ◌<◌, T}
use Rattle.std.proofs.Common.{ap}
use Rattle.laws.specs.Sum.{sum}
use Rattle.laws.specs.Test.{is_true, is_false, and_r, all_below, all_fails}
use Rattle.pool.specs.State.{St, tables}
use Rattle.pool.specs.Sound.{tableb}
use Rattle.checker_pass.specs.Pass.{run_passes, table_passes, table_links, tables_run}
use Rattle.pool.specs.declared.Handle.{Handle}
use Rattle.std.specs.Prelude.{None, Some}

pub tables_passed : (h : Handle) (s : St) (links : ℕ) → T (all_below (tables s) (table_passes h s)) → links ≡ sum (tables s) (table_links s)
    → Some links ≡ tables_run h s
unfolding tables_run
tables_passed h s links t e = rw (is_true (all_below (tables s) (table_passes h s)) t) (ap Some e)

-- a table whose number is wrong, or one of whose runs fails
pub tables_failed : (h : Handle) (s : St) (k : ℕ) → k < tables s → table_passes h s k ≡ false → None ≡ tables_run h s
unfolding tables_run
tables_failed h s k l e = rw (all_fails (tables s) (table_passes h s) k l e)

pub number_fails : (h : Handle) (s : St) (k : ℕ) → tableb h s k ≡ false → table_passes h s k ≡ false
unfolding table_passes
number_fails h s k e = rw e

pub run_fails : (h : Handle) (s : St) (k r : ℕ) → r < 4 → run_passes h s k r ≡ false → table_passes h s k ≡ false
unfolding table_passes
run_fails h s k r l e =
    is_false (tableb h s k && all_below 4 (run_passes h s k))
    (λ t. rw (all_fails 4 (run_passes h s k) r l e) at (and_r (tableb h s k) (all_below 4 (run_passes h s k)) t))

pub table_passes_lem : (h : Handle) (s : St) (k : ℕ) → tableb h s k ≡ true → T (all_below 4 (run_passes h s k)) → T (table_passes h s k)
unfolding table_passes
table_passes_lem h s k e t = rw e t
