-- `scan_pages`: each way through the code by its law.
use Rattle.checker_words.proofs.scan_pages.Goals.{After-loop-word}
use mathlib.Core.Path.{◌≡◌, sym, ap, ◌∙◌}
use Prim.Native.Nat.{ℕ, ◌%◌}
use native.Mathlib.Omega.{arith}
use lib.Seq.{take_all}
use lib.Bits.{bit_and}
use borrow.Author.Tests.{eq-eqb, ne_eqb}
use Rattle.entry.specs.Word.{only}
use Rattle.checker_words.specs.Words.{pages_run, union, strays}
use Rattle.checker_words.specs.Mask.{union_none, union_more, strays_none, strays-more}
use Rattle.checker_words.proofs.scan_pages.Goals as goal

-- after the loop the unions are the run's
all : (c : After-loop-word) → c.loop-word.any ≡ union c.args.run.now
all c = c.loop-word.invariant.0 ∙ ap union (take_all c.loop-word.word-index c.args.run.now (omega arith))

odd : (c : After-loop-word) → c.loop-word.stray ≡ strays c.args.run.now
odd c = c.loop-word.invariant.1 ∙ ap strays (take_all c.loop-word.word-index c.args.run.now (omega arith))

pub loop-word-init : goal.loop-word-init
loop-word-init c = (sym (union_none c.args.run.now), sym (strays_none c.args.run.now))

pub loop-word-preserved : goal.loop-word-preserved
loop-word-preserved c = grind (arith, union_more, strays-more)

pub returns-then-any-allowed : goal.returns-then-any-allowed
unfolding pages_run only
returns-then-any-allowed c =
    let a = c.args in
    let end = (goal.at.returns-then-any-allowed c).After-loop-word in
    rw (ne_eqb (bit_and (union a.run.now) a.allowed) (union a.run.now)
    (λ e. c.if-any-allowed.true (ap (λ (x : ℕ). bit_and x a.allowed) (all end) ∙ e ∙ sym (all end))))

pub returns-then-stray-eq0 : goal.returns-then-stray-eq0
unfolding pages_run only
returns-then-stray-eq0 c =
    let a = c.args in
    let end = (goal.at.returns-then-stray-eq0 c).After-loop-word in
    rw (
      eq-eqb (bit_and (union a.run.now) a.allowed) (union a.run.now)
          (sym (ap (λ (x : ℕ). bit_and x a.allowed) (all end)) ∙ c.if-any-allowed.false ∙ all end),
      eq-eqb (strays a.run.now % 2) 0 (sym (ap (λ (x : ℕ). x % 2) (odd end)) ∙ c.if-stray-eq0.true),
    )

pub returns-else-stray-eq0 : goal.returns-else-stray-eq0
unfolding pages_run only
returns-else-stray-eq0 c =
    let a = c.args in
    let end = (goal.at.returns-else-stray-eq0 c).After-loop-word in
    rw (
      eq-eqb (bit_and (union a.run.now) a.allowed) (union a.run.now)
          (sym (ap (λ (x : ℕ). bit_and x a.allowed) (all end)) ∙ c.if-any-allowed.false ∙ all end),
      ne_eqb (strays a.run.now % 2) 0 (λ e. c.if-stray-eq0.false (ap (λ (x : ℕ). x % 2) (odd end) ∙ e)),
    )
