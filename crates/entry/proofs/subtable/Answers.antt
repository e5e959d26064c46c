-- `subtable`: each way through the code by its law.
use Rattle.std.proofs.Common.{ℕ, ◌-◌, ◌/◌, ap, ◌∙◌, arith}
use Rattle.entry.specs.declared.Sub.TheVariants.{Table}
use Rattle.entry.specs.Sub.{sub_leaf, sub_low, sub_high, sub_in}
use Rattle.entry.specs.Word.{mask_address}
use Rattle.entry.proofs.subtable.Goals as goal

pub returns-then-level-ge-LEAF_LEVEL : goal.returns-then-level-ge-LEAF_LEVEL
returns-then-level-ge-LEAF_LEVEL c = let a = c.args in sub_leaf a.base.0 a.tables a.level a.word (λ t. omega (arith, t.0))

pub returns-then-word-ne3 : goal.returns-then-word-ne3
returns-then-word-ne3 c = let a = c.args in sub_leaf a.base.0 a.tables a.level a.word (λ t. c.if-word-ne3.true t.1)

pub returns-then-at-base : goal.returns-then-at-base
returns-then-at-base c =
    let a = c.args in
    let at = mask_address a.word in
    sub_low a.base.0 a.tables a.level a.word (omega arith) c.if-word-ne3.false (omega arith)

pub returns-then-table-tables : goal.returns-then-table-tables
returns-then-table-tables c =
    let a = c.args in
    let at = mask_address a.word in
    ap (λ (x : ℕ). Table ((x - a.base.0) / 4096)) at
    ∙ sub_in a.base.0 a.tables a.level a.word (omega arith) c.if-word-ne3.false (omega arith)
    (omega arith)

pub returns-else-table-tables : goal.returns-else-table-tables
returns-else-table-tables c =
    let a = c.args in
    let at = mask_address a.word in
    sub_high a.base.0 a.tables a.level a.word (omega arith) c.if-word-ne3.false (omega arith)
    (omega arith)
