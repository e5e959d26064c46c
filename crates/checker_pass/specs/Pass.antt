-- The pass of the pool check: every table's number, then its words in four runs.
use Rattle.std.specs.Prelude.{Bool, cond, ◌&&◌, List, ℕ, ◌+◌, ◌*◌}
use Rattle.laws.specs.Part.{part_of}
use Rattle.laws.specs.Sum.{sum}
use Rattle.laws.specs.Test.{all_below}
use Rattle.pool.specs.State.{St, tables, number_at}
use Rattle.pool.specs.Sound.{flag_set, tableb}
use Rattle.checker_words.specs.Words.{pass_all, count_all}
use Rattle.pool.specs.declared.Handle.{Handle}
use Rattle.std.specs.Prelude.{None, Option, Some}

-- a table is read in four runs of 128 words
abbrev pub run_words : St → ℕ → ℕ → List ℕ
run_words s k r = part_of (512 * k + 128 * r) 128 s.words

unfoldable pub run_passes : Handle → St → ℕ → ℕ → Bool
run_passes h s k r = pass_all (flag_set h) (number_at s k) (run_words s k r)

unfoldable pub run_links : St → ℕ → ℕ → ℕ
run_links s k r = count_all (number_at s k) (run_words s k r)

unfoldable pub table_passes : Handle → St → ℕ → Bool
table_passes h s k = tableb h s k && all_below 4 (run_passes h s k)

unfoldable pub table_links : St → ℕ → ℕ
table_links s k = sum 4 (run_links s k)

-- the links of all tables, if all pass
unfoldable pub tables_run : Handle → St → Option ℕ
tables_run h s = cond (all_below (tables s) (table_passes h s)) (Some (sum (tables s) (table_links s))) None
