-- `scan_tables`: each way through the code by its law.
use Rattle.checker_pass.proofs.scan_tables.Goals.{In-Some}
use mathlib.Core.Path.{◌≡◌, sym, ap, ap₂, ◌∙◌, subst⁻¹}
use Prim.Native.Nat.{ℕ, ◌+◌, ◌*◌, ◌-◌, ◌≤◌}
use native.Mathlib.Omega.{arith}
use lib.Dec.{T}
use Rattle.laws.specs.Part.{part_of, length_part}
use Rattle.laws.specs.Sum.{sum, sum_empty, sum_more}
use Rattle.laws.specs.Test.{all_none, all_more}
use Rattle.pool.specs.State.{tables, number_at}
use Rattle.pool.specs.Lent.{read_state}
use Rattle.pool.specs.Refuse.{max_tables}
use Rattle.pool.specs.Sound.{flag_set}
use Rattle.checker_pass.specs.Pass.{run_words, run_passes, run_links, table_passes, table_links}
use Rattle.checker_words.specs.Words.{run_of}
use Rattle.checker_words.specs.Mask.{PlainSet, el1_plain}
use Rattle.checker_words.specs.Answer.{count-below, run_passed, run_failed}
use Rattle.checker_pass.specs.Tables.{tables_passed, tables_failed, number_fails, run_fails, table_passes_lem}
use Rattle.checker_pass.proofs.scan_tables.Goals as goal

-- a run that passed: its words pass, its count is theirs and at most 128
passed : (c : In-Some)
    → let a = c.args in
    let s = read_state a.pool.now in
    let k = c.tables.k in
    let r = c.loop-r.r in
    T (run_passes a.pool.now.handle s k r) × (c.in-Some.count ≡ run_links s k r) × (c.in-Some.count ≤ 128)
unfolding run_passes run_links
passed c =
    let a = c.args in
    let s = read_state a.pool.now in
    let k = c.tables.k in
    let r = c.loop-r.r in
    let size : 512 * k + 128 * r + 128 - (512 * k + 128 * r) ≡ 128 = omega arith in
    let set = c.flag_set-set.ensures in
    let run = c.scan_run-run.ensures
    ∙ ap₂ (λ (m l : ℕ). run_of m (number_at s k) (part_of (512 * k + 128 * r) l a.pool.now.words.now)) set size in
    let p = run_passed (flag_set a.pool.now.handle) (number_at s k) (run_words s k r) run _ c.in-Some.is in
    let long = length_part (512 * k + 128 * r) 128 a.pool.now.words.now (omega (arith, c.requires.sized)) in
    (rw p.0 tt, p.1, omega (arith, p.1, count-below (number_at s k) (run_words s k r)))

pub tables-init : goal.tables-init
tables-init c = (omega arith, all_none _, sym (sum_empty _), omega arith)

pub loop-r-init : goal.loop-r-init
loop-r-init c =
    let a = c.args in
    let e = sum_empty (run_links (read_state a.pool.now) c.tables.k) in
    (all_none _, (let q = c.tables.invariant.2 in omega arith), omega arith)

pub scan_run-run-requires : goal.scan_run-run-requires
unfolding flag_set
scan_run-run-requires c = subst⁻¹ PlainSet c.flag_set-set.ensures el1_plain

pub overflow_add-links : goal.overflow_add-links
unfolding max_tables
overflow_add-links c =
    let p = c.requires in
    let few = (passed (goal.at.overflow_add-links c).In-Some).2 in
    omega (arith, p.limit, c.loop-r.invariant.2)

pub loop-r-preserved : goal.loop-r-preserved
loop-r-preserved c =
    let a = c.args in
    let s = read_state a.pool.now in
    let k = c.tables.k in
    let run = passed (goal.at.loop-r-preserved c).In-Some in
    let more = sum_more c.loop-r.r (run_links s k) in (
      all_more c.loop-r.r (run_passes a.pool.now.handle s k) c.loop-r.invariant.0 run.0,
      omega (arith, c.loop-r.invariant.1, run.1),
      omega (arith, c.loop-r.invariant.2, run.2),
    )

pub tables-preserved : goal.tables-preserved
unfolding table_links
tables-preserved c =
    let a = c.args in
    let s = read_state a.pool.now in
    let four : c.loop-r.r ≡ 4 = omega arith in
    let more = sum_more c.tables.k (table_links s) in
    let known = c.loop-r.invariant.1 in (
      omega arith,
      all_more c.tables.k (table_passes a.pool.now.handle s) c.tables.invariant.1
          (table_passes_lem a.pool.now.handle s c.tables.k
          (sym c.table_holds.ensures ∙ c.if-not-table_holds.false)
          (rw four at c.loop-r.invariant.0)),
      omega (arith, rw four at known),
      omega (arith, c.loop-r.invariant.2),
    )

pub returns-then-n-k : goal.returns-then-n-k
returns-then-n-k c =
    let a = c.args in
    let s = read_state a.pool.now in
    let all : c.tables.k ≡ tables s = omega arith in
    tables_passed a.pool.now.handle s c.tables.links (rw all at c.tables.invariant.1)
    (c.tables.invariant.2 ∙ ap (λ (n : ℕ). sum n (table_links s)) all)

pub returns-then-not-table_holds : goal.returns-then-not-table_holds
returns-then-not-table_holds c =
    let a = c.args in
    let s = read_state a.pool.now in
    let k = c.tables.k in
    let fails = sym c.table_holds.ensures ∙ c.if-not-table_holds.true in
    tables_failed a.pool.now.handle s k (omega arith) (number_fails a.pool.now.handle s k fails)

pub returns-in_default : goal.returns-in_default
unfolding run_passes
returns-in_default c =
    let a = c.args in
    let s = read_state a.pool.now in
    let k = c.tables.k in
    let r = c.loop-r.r in
    let size : 512 * k + 128 * r + 128 - (512 * k + 128 * r) ≡ 128 = omega arith in
    let set = c.flag_set-set.ensures in
    let run = c.scan_run-run.ensures
    ∙ ap₂ (λ (m l : ℕ). run_of m (number_at s k) (part_of (512 * k + 128 * r) l a.pool.now.words.now)) set size in
    let fails = run_failed (flag_set a.pool.now.handle) (number_at s k) (run_words s k r) run c.in_default.is in
    tables_failed a.pool.now.handle s k (omega arith) (run_fails a.pool.now.handle s k r (omega arith) fails)
