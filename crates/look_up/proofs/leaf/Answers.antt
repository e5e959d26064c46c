-- `leaf`: each way through the code by its law.
use Rattle.look_up.proofs.Tags.{both_set}
use mathlib.Core.Path.{sym, ◌∙◌}
use Rattle.look_up.specs.Call.{leaf_hole, leaf_block, leaf_page}
use Rattle.look_up.proofs.leaf.Goals as goal

pub returns-in-Hole : goal.returns-in-Hole
returns-in-Hole c =
    let a = c.args in
    leaf_hole a.level a.word a.va.0 c.plain_flags-flags.ensures
    (sym c.kind_of-kind.ensures ∙ c.in-Hole.is)

pub returns-in-Block : goal.returns-in-Block
returns-in-Block c =
    let a = c.args in
    leaf_block a.level a.word a.va.0 c.plain_flags-flags.ensures c.frame.ensures
    (sym c.kind_of-kind.ensures ∙ c.in-Block.is)

pub returns-in_default : goal.returns-in_default
returns-in_default c =
    let a = c.args in
    leaf_page a.level a.word a.va.0 c.plain_flags-flags.ensures c.frame-in_default.ensures
    (both_set _ a.level a.word c.kind_of-kind.ensures c.in_default.not-Hole c.in_default.not-Block)
