-- `leaf_word`: each way through the code by its law.
use native.Mathlib.Omega.{arith}
use Rattle.map_rules.specs.Fit.{word_fits, leaf_hole, leaf_page, leaf_block}
use Rattle.map_rules.proofs.leaf_word.Goals as goal

pub returns-then-flags-ne1 : goal.returns-then-flags-ne1
returns-then-flags-ne1 c = let a = c.args in leaf_hole a.level a.frame.0 a.flags c.if-flags-ne1.true

pub overflow_add-result : goal.overflow_add-result
overflow_add-result c =
    let p = c.requires in
    omega (arith, word_fits c.args.frame.0 c.args.flags p.0 p.1 p.2)

pub overflow_add-result-then-level-ge-LEAF_LEVEL : goal.overflow_add-result-then-level-ge-LEAF_LEVEL
overflow_add-result-then-level-ge-LEAF_LEVEL c =
    let p = c.requires in
    omega (arith, word_fits c.args.frame.0 c.args.flags p.0 p.1 p.2)

pub returns-then-level-ge-LEAF_LEVEL : goal.returns-then-level-ge-LEAF_LEVEL
returns-then-level-ge-LEAF_LEVEL c =
    let a = c.args in
    leaf_page a.level a.frame.0 a.flags c.if-flags-ne1.false c.if-level-ge-LEAF_LEVEL.true

pub overflow_add-result-2 : goal.overflow_add-result-2
overflow_add-result-2 c =
    let p = c.requires in
    omega (arith, word_fits c.args.frame.0 c.args.flags p.0 p.1 p.2)

pub returns : goal.returns
returns c =
    let a = c.args in leaf_block a.level a.frame.0 a.flags c.if-flags-ne1.false (omega arith)
