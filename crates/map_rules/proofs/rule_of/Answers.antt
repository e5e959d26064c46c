-- `rule_of`: each way through the code by its law.
use Rattle.map_rules.proofs.rule_of.Goals.{Else-is_already_mapped, Else-not-is_block, Start}
use mathlib.Core.Path.{◌≡◌, sym, ap, ◌∙◌}
use mathlib.Core.Bool.{true, false}
use Prim.Native.Nat.{◌%◌, ◌^◌, ◌<◌}
use native.Mathlib.Omega.{arith}
use Rattle.entry.specs.Word.{Plain}
use Rattle.region.specs.Region.{whole}
use Rattle.map_rules.specs.declared.Rule.TheVariants.{Write}
use Rattle.map_rules.specs.Rules.{rule2}
use Rattle.map_rules.specs.Laws.{rule_page, rule_keep, rule_part, rule-drop, rule-into, rule_block, rule-split}
use Rattle.map_rules.proofs.rule_of.Goals as goal

-- the chunk has a page, so its frame lies below 2^48
leaf_needs : (c : Start) → (c.args.map.frame.0 % 4096 ≡ 0) × (c.args.map.frame.0 < 2 ^ 48) × Plain c.args.map.flags
leaf_needs c = let p = c.requires.0 in (p.frame, omega (arith, p.room, c.requires.1), p.flags)

-- past the second test rule 2 does not hold
not-mapped : (c : Else-is_already_mapped) → let a = c.args in rule2 a.level a.map a.word ≡ false
not-mapped c = sym c.is_already_mapped.ensures ∙ c.if-is_already_mapped.false

-- past the third test the chunk is a block
block : (c : Else-not-is_block) → let a = c.args in whole a.level a.map.region ≡ true
block c = sym c.is_block.ensures ∙ c.if-not-is_block.false

pub leaf_word-requires : goal.leaf_word-requires
leaf_word-requires c = leaf_needs (goal.at.leaf_word-requires c).Start

pub returns-then-level-ge-LEAF_LEVEL : goal.returns-then-level-ge-LEAF_LEVEL
returns-then-level-ge-LEAF_LEVEL c =
    let a = c.args in ap Write c.leaf_word.ensures ∙ rule_page a.level a.map a.word c.if-level-ge-LEAF_LEVEL.true

pub returns-then-is_already_mapped : goal.returns-then-is_already_mapped
returns-then-is_already_mapped c =
    let a = c.args in
    rule_keep a.level a.map a.word (omega arith) (sym c.is_already_mapped.ensures ∙ c.if-is_already_mapped.true)

pub returns-then-not-is_block : goal.returns-then-not-is_block
returns-then-not-is_block c =
    let a = c.args in
    let part = sym c.is_block.ensures ∙ c.if-not-is_block.true in
    rule_part a.level a.map a.word (omega arith) (not-mapped (goal.at.returns-then-not-is_block c).Else-is_already_mapped) part

pub returns-then-map-ne1 : goal.returns-then-map-ne1
returns-then-map-ne1 c =
    let other = not-mapped (goal.at.returns-then-map-ne1 c).Else-is_already_mapped in
    let all = block (goal.at.returns-then-map-ne1 c).Else-not-is_block in
    let a = c.args in
    rule-drop a.level a.map a.word (omega arith) other all
    c.if-word-eq3.true c.if-map-ne1.true

pub returns-then-word-eq3 : goal.returns-then-word-eq3
returns-then-word-eq3 c =
    let other = not-mapped (goal.at.returns-then-word-eq3 c).Else-is_already_mapped in
    let all = block (goal.at.returns-then-word-eq3 c).Else-not-is_block in
    let a = c.args in
    rule-into a.level a.map a.word (omega arith) other all
    c.if-word-eq3.true c.if-map-ne1.false

pub leaf_word-requires-then-is_blockable : goal.leaf_word-requires-then-is_blockable
leaf_word-requires-then-is_blockable c = leaf_needs (goal.at.leaf_word-requires-then-is_blockable c).Start

pub returns-then-is_blockable : goal.returns-then-is_blockable
returns-then-is_blockable c =
    let other = not-mapped (goal.at.returns-then-is_blockable c).Else-is_already_mapped in
    let all = block (goal.at.returns-then-is_blockable c).Else-not-is_block in
    let a = c.args in
    ap Write c.leaf_word-then-is_blockable.ensures
    ∙ rule_block a.level a.map a.word (omega arith) other all
    c.if-word-eq3.false (sym c.is_blockable.ensures ∙ c.if-is_blockable.true)

pub returns : goal.returns
returns c =
    let other = not-mapped (goal.at.returns c).Else-is_already_mapped in
    let all = block (goal.at.returns c).Else-not-is_block in
    let a = c.args in
    rule-split a.level a.map a.word (omega arith) other all
    c.if-word-eq3.false (sym c.is_blockable.ensures ∙ c.if-is_blockable.false)
