-- From the pass to soundness. Leans on `Counted`.
use Rattle.std.specs.Prelude.{◌≡◌, true, ℕ, ◌+◌, ◌*◌, ◌≤◌, ◌<◌, length}
use Rattle.std.proofs.Math.Path.{sym, ap}
use Rattle.std.proofs.Common.{◌∙◌, arith}
use Rattle.std.proofs.Math.Bool.{false}
use Rattle.std.proofs.Math.Dec.{eqb}
use Rattle.laws.specs.Part.{length_part}
use Rattle.laws.specs.Sum.{sum, sum_most}
use Rattle.laws.specs.Test.{all_below}
use Rattle.pool.specs.State.{St, tables, number_at}
use Rattle.pool.specs.Number.{used}
use Rattle.pool.specs.Refuse.{Shaped}
use Rattle.pool.specs.Sound.{soundb}
use Rattle.checker_words.specs.Answer.{count-below, passed_says, failed_says}
use Rattle.checker_pass.specs.Pass.{run_words, run_links, table_passes, table_links, tables_run}
use Rattle.checker.specs.Counted.{streamb, stream_sound}
use Rattle.pool.specs.declared.Handle.{Handle}
use Rattle.std.specs.Prelude.{None, Option, Some}

-- at most 512 links a table
links_few : (s : St) (k : ℕ) → length s.words ≡ 512 * tables s → k < tables s → table_links s k ≤ 512
unfolding table_links run_links
links_few s k sized l = sum_most 4 128 (run_links s k) (λ r h.
    let few = count-below (number_at s k) (run_words s k r) in
    let long = length_part (512 * k + 128 * r) 128 s.words (omega arith) in
    omega arith)

module _ (h : Handle) (s : St) (shape : Shaped h s) {r : Option ℕ} (is : r ≡ tables_run h s) where
  scan_says : (links : ℕ) → r ≡ Some links → (all_below (tables s) (table_passes h s) ≡ true) × (links ≡ sum (tables s) (table_links s))
  unfolding tables_run
  scan_says links e = passed_says (all_below (tables s) (table_passes h s)) (sum (tables s) (table_links s)) links (sym e ∙ is)

  pub scan_few : (links : ℕ) → r ≡ Some links → links ≤ 512 * tables s
  scan_few links e = omega (arith, (scan_says links e).1, sum_most (tables s) 512 (table_links s) (λ k l. links_few s k shape.sized l))

  pub scan_counted : (links : ℕ) → r ≡ Some links → eqb (links + 1) (used s.ledger) ≡ soundb h s
  unfolding streamb
  scan_counted links e =
      let says = scan_says links e in
      let same : streamb h s ≡ eqb (sum (tables s) (table_links s) + 1) (used s.ledger) = rw says.0 in
      ap (λ (x : ℕ). eqb (x + 1) (used s.ledger)) says.1 ∙ sym same ∙ stream_sound h s shape

  pub scan_unsound : r ≡ None → false ≡ soundb h s
  unfolding tables_run streamb
  scan_unsound e =
      let fails = failed_says (all_below (tables s) (table_passes h s)) (sum (tables s) (table_links s)) (sym e ∙ is) in
      let same : streamb h s ≡ false = rw fails in
      sym same ∙ stream_sound h s shape
