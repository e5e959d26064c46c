-- `scan_links`: each way through the code by its law.
use Rattle.checker_words.proofs.scan_links.Goals.{After-loop-word}
use mathlib.Core.Path.{◌≡◌, sym, ap, ◌∙◌}
use Prim.Native.Nat.{ℕ}
use native.Mathlib.Omega.{arith}
use lib.Seq.{take_all}
use lib.Bits.{bit_and}
use borrow.Author.Tests.{eq-eqb, ne_eqb}
use Rattle.entry.specs.Word.{only}
use Rattle.checker_words.specs.Words.{links_run, leaves, links as linksIn}
use Rattle.checker_words.specs.Mask.{leaves_none, links_none, leaves_table, leaves_leaf, links-table, links_leaf}
use Rattle.checker_words.proofs.scan_links.Goals as goal
use Rattle.std.specs.Prelude.{Some}

-- after the loop the union and the count are the run's
all : (c : After-loop-word) → c.loop-word.any ≡ leaves c.args.run.now
all c = c.loop-word.invariant.1 ∙ ap leaves (take_all c.loop-word.word-index c.args.run.now (omega arith))

count : (c : After-loop-word) → c.loop-word.links ≡ linksIn c.args.run.now
count c = c.loop-word.invariant.2 ∙ ap linksIn (take_all c.loop-word.word-index c.args.run.now (omega arith))

pub loop-word-init : goal.loop-word-init
loop-word-init c = (omega arith, sym (leaves_none c.args.run.now), sym (links_none c.args.run.now))

pub loop-word-preserved : goal.loop-word-preserved
loop-word-preserved c = grind (arith, leaves_table, leaves_leaf, links-table, links_leaf)

pub returns-then-any-allowed : goal.returns-then-any-allowed
unfolding links_run only
returns-then-any-allowed c =
    let a = c.args in
    let end = (goal.at.returns-then-any-allowed c).After-loop-word in
    rw (eq-eqb (bit_and (leaves a.run.now) a.allowed) (leaves a.run.now)
    (sym (ap (λ (x : ℕ). bit_and x a.allowed) (all end)) ∙ c.if-any-allowed.true ∙ all end))
    (ap Some (count end))

pub returns-else-any-allowed : goal.returns-else-any-allowed
unfolding links_run only
returns-else-any-allowed c =
    let a = c.args in
    let end = (goal.at.returns-else-any-allowed c).After-loop-word in
    rw (ne_eqb (bit_and (leaves a.run.now) a.allowed) (leaves a.run.now)
    (λ e. c.if-any-allowed.false (ap (λ (x : ℕ). bit_and x a.allowed) (all end) ∙ e ∙ sym (all end))))
