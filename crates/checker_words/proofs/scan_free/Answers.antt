-- `scan_free`: the loop takes the union word by word; after it, it is the run's.
use Rattle.checker_words.proofs.scan_free.Goals.{After-loop-word}
use mathlib.Core.Path.{◌≡◌, sym, ap, ◌∙◌}
use native.Mathlib.Omega.{arith}
use lib.Seq.{take_all}
use borrow.Author.Tests.{eq-eqb, ne_eqb}
use Rattle.checker_words.specs.Words.{free_run, union}
use Rattle.checker_words.specs.Mask.{union_none, union_more}
use Rattle.checker_words.proofs.scan_free.Goals as goal

-- after the loop the union is the run's
whole : (c : After-loop-word) → c.loop-word.any ≡ union c.args.run.now
whole c = c.loop-word.invariant ∙ ap union (take_all c.loop-word.word-index c.args.run.now (omega arith))

pub loop-word-init : goal.loop-word-init
loop-word-init c = sym (union_none c.args.run.now)

pub loop-word-preserved : goal.loop-word-preserved
loop-word-preserved c = grind (arith, union_more)

pub returns-then-any-eq0 : goal.returns-then-any-eq0
unfolding free_run
returns-then-any-eq0 c =
    let end = (goal.at.returns-then-any-eq0 c).After-loop-word in
    rw (eq-eqb (union c.args.run.now) 0 (sym (whole end) ∙ c.if-any-eq0.true))

pub returns-else-any-eq0 : goal.returns-else-any-eq0
unfolding free_run
returns-else-any-eq0 c =
    let end = (goal.at.returns-else-any-eq0 c).After-loop-word in
    rw (ne_eqb (union c.args.run.now) 0 (λ e. c.if-any-eq0.false (whole end ∙ e)))
