-- The rules on words are the rules on trees: for an entry that is no table, and for a table. And what a split fills.
use Rattle.std.specs.Prelude.{◌≡◌, refl, true, false, List, ◌⊎◌, ◌≢◌, ℕ, suc, ◌+◌, ◌*◌, ◌-◌, ◌%◌, ◌≤◌, ◌<◌, length, get_or}
use Rattle.std.proofs.Common.{sym, ap, ◌∙◌, inl, inr, arith, ne_eqb}
use Rattle.std.proofs.Math.ListN.{get_or-eq_default}
use Rattle.laws.specs.Size.{size_at, down}
use Rattle.laws.specs.Test.{by_bool, eq_or, le_or}
use Rattle.entry.specs.Word.{address_of, flags_of, valid, valid_yes, valid_no, valid_of, valid_none, leaf_word}
use Rattle.region.specs.Region.{whole}
use Rattle.pool_table.specs.Table.{length-rising, rising_at}
use Rattle.map_rules.specs.declared.Map.{Map}
use Rattle.map_rules.specs.declared.Rule.TheVariants.{Write, Keep, Drop, Down}
use Rattle.map_rules.specs.Rules.{table_word, rule2, blockable, rule_of, fill_of}
use Rattle.map_rules.specs.Laws.{rule_page, rule_keep, rule_part, rule-drop, rule-into, rule_block, rule-split, same-table, fill_hole}
use Rattle.map_rules.specs.Laws.{fill_leaf}
use Rattle.theory_forest.specs.Tree.{Tree, leaf, node, node_ext}
use Rattle.theory_tree.specs.Word.{fill_word}
use Rattle.theory_tree.specs.Visit.{Rule as Says, keep, write, down as goDown, fill_tree}
use Rattle.theory_tree.specs.Slots.{fill_slot}
use Rattle.theory_tree.proofs.Slots.{fill_node, fill_slot_lem, fill_past}
use Rattle.theory_tree.specs.Document.{already, document_rule}
use Rattle.theory_tree.proofs.Split.{fill_address}

-- rule 2's test by either name
already_is : (level : ℕ) (m : Map) (w : ℕ) → w % 4 ≢ 3 → rule2 level m w ≡ already level m.region m.frame.0 m.flags w
unfolding rule2 already table_word
already_is level m w plain = rw (ne_eqb (w % 4) 3 plain)

-- what the document's rule says of an entry that shows t, for the chunk and the frame of m
abbrev pub says_of : Map → ℕ → Tree → Says
says_of m depth t = document_rule m.flags m.blocks depth m.region m.frame.0 t

module _ (m : Map) (depth : ℕ) where
  abbrev level : ℕ
  level = 3 - suc depth

  -- ---- an entry that is no table

  module _ (w : ℕ) (high : level < 3) (plain : w % 4 ≢ 3) where
    said_same : rule2 level m w ≡ true → says_of m (suc depth) (leaf w) ≡ keep
    unfolding document_rule
    said_same e = rw (sym (already_is level m w plain) ∙ e)

    module _ (other : rule2 level m w ≡ false) where
      said_part : whole level m.region ≡ false → says_of m (suc depth) (leaf w) ≡ goDown
      unfolding document_rule
      said_part e = rw (sym (already_is level m w plain) ∙ other, e)

      said_block : whole level m.region ≡ true → blockable level m ≡ true
          → says_of m (suc depth) (leaf w) ≡ write (leaf_word level m.frame.0 m.flags)
      unfolding document_rule blockable
      said_block e b = rw (sym (already_is level m w plain) ∙ other, e, b)

      said_split : whole level m.region ≡ true → blockable level m ≡ false → says_of m (suc depth) (leaf w) ≡ goDown
      unfolding document_rule blockable
      said_split e b = rw (sym (already_is level m w plain) ∙ other, e, b)

  -- ---- a table

  module _ (f : ℕ → Tree) where
    said_over : whole level m.region ≡ false → says_of m (suc depth) (node f) ≡ goDown
    unfolding document_rule
    said_over e = rw e

    said_drop : whole level m.region ≡ true → valid m.flags ≡ false → says_of m (suc depth) (node f) ≡ write m.flags
    unfolding document_rule
    said_drop e v = rw (e, v)

    said_into : whole level m.region ≡ true → valid m.flags ≡ true → says_of m (suc depth) (node f) ≡ goDown
    unfolding document_rule
    said_into e v = rw (e, v)

-- ---- what both say

-- of an entry that is no table: it is kept, written, or split and gone into
pub data LeafRule (level : ℕ) (m : Map) (depth w : ℕ) : Type 0 where
  keeps : rule_of level m w ≡ Keep → says_of m depth (leaf w) ≡ keep → LeafRule level m depth w
  writes : (x : ℕ) → rule_of level m w ≡ Write x → says_of m depth (leaf w) ≡ write x → LeafRule level m depth w
  splits : rule_of level m w ≡ Down → says_of m depth (leaf w) ≡ goDown → LeafRule level m depth w

-- of a table: it is dropped, or gone into
pub data TableRule (level : ℕ) (m : Map) (depth w : ℕ) (f : ℕ → Tree) : Type 0 where
  drops : rule_of level m w ≡ Drop m.flags → says_of m depth (node f) ≡ write m.flags → TableRule level m depth w f
  enters : rule_of level m w ≡ Down → says_of m depth (node f) ≡ goDown → TableRule level m depth w f

-- rule 1
pub page_rule : (m : Map) (w : ℕ) → LeafRule 3 m 0 w
unfolding document_rule
page_rule m w = writes (leaf_word 3 m.frame.0 m.flags) (sym (rule_page 3 m w (omega arith))) refl

module _ (m : Map) (depth w : ℕ) (low : suc depth ≤ 3) where
  -- rules 2, 3, 5
  pub leaf_rule : w % 4 ≢ 3 → LeafRule (3 - suc depth) m (suc depth) w
  leaf_rule plain =
      let level : ℕ = 3 - suc depth in
      let high : level < 3 = omega arith in
      by_bool (rule2 level m w)
      (λ same. keeps (sym (rule_keep level m w high same)) (said_same m depth w high plain same))
      (λ other. by_bool (whole level m.region)
      (λ all. by_bool (blockable level m)
      (λ b. writes (leaf_word level m.frame.0 m.flags)
      (sym (rule_block level m w high other all plain b)) (said_block m depth w high plain other all b))
      (λ b. splits (sym (rule-split level m w high other all plain b)) (said_split m depth w high plain other all b)))
      (λ part. splits (sym (rule_part level m w high other part)) (said_part m depth w high plain other part)))

  -- rules 4, 5
  pub table-rule : (f : ℕ → Tree) → w % 4 ≡ 3 → TableRule (3 - suc depth) m (suc depth) w f
  table-rule f both =
      let level : ℕ = 3 - suc depth in
      let high : level < 3 = omega arith in
      let other : rule2 level m w ≡ false = sym (same-table level m w both) in
      by_bool (whole level m.region)
      (λ all. by_bool (valid m.flags)
      (λ v. enters (sym (rule-into level m w high other all both (valid_yes m.flags v))) (said_into m depth f all v))
      (λ v. drops (sym (rule-drop level m w high other all both (λ e. omega (arith, valid_no m.flags v)))) (said_drop m depth f all v)))
      (λ part. enters (sym (rule_part level m w high other part)) (said_over m depth f part))

-- ---- what a split fills

pub fill_length : (level w : ℕ) → length (fill_of level w) ≡ 512
fill_length level w = go (eq_or (w % 2) 1)
  where
    go : (w % 2 ≡ 1) ⊎ (w % 2 ≢ 1) → length (fill_of level w) ≡ 512
    go (inl v) = ap (λ (t : List ℕ). length t) (sym (fill_leaf level w v)) ∙ length-rising 512 _ _
    go (inr n) = ap (λ (t : List ℕ). length t) (sym (fill_hole level w n)) ∙ length-rising 512 _ _

module _ (depth w : ℕ) (low : suc depth ≤ 3) where
  pub fill_at : (i : ℕ) → i < 512 → get_or (fill_of (3 - suc depth) w) i 0 ≡ fill_word depth w i
  fill_at i inside = go (eq_or (w % 2) 1)
    where
      up : 3 - suc depth + 1 ≡ 3 - depth
      up = omega arith

      go : (w % 2 ≡ 1) ⊎ (w % 2 ≢ 1) → get_or (fill_of (3 - suc depth) w) i 0 ≡ fill_word depth w i
      go (inl v) =
          ap (λ (t : List ℕ). get_or t i 0) (sym (fill_leaf (3 - suc depth) w v))
          ∙ rising_at 512 _ _ i inside
          ∙ ap (λ (l : ℕ). leaf_word l (down (address_of w) (size_at (3 - suc depth))) (flags_of w) + i * size_at l) up
          ∙ sym (fill_address depth w i low ∙ rw (valid_of w v))
      go (inr n) =
          ap (λ (t : List ℕ). get_or t i 0) (sym (fill_hole (3 - suc depth) w n))
          ∙ rising_at 512 (flags_of w) 0 i inside
          ∙ (let e : flags_of w + i * 0 ≡ flags_of w = omega arith in e)
          ∙ sym (fill_address depth w i low ∙ rw (valid_none w (omega arith)))

  -- as a tree
  pub fill_tree_lem : node (λ i. leaf (get_or (fill_of (3 - suc depth) w) i 0)) ≡ fill_tree depth w
  fill_tree_lem = node_ext (λ i. go i (le_or 512 i)) ∙ sym (fill_node depth w)
    where
      go : (i : ℕ) → (512 ≤ i) ⊎ (i < 512) → leaf (get_or (fill_of (3 - suc depth) w) i 0) ≡ fill_slot depth w i
      go i (inl past) =
          ap leaf (get_or-eq_default (fill_of (3 - suc depth) w) 0 (let n = fill_length (3 - suc depth) w in omega arith))
          ∙ sym (fill_past depth w i past)
      go i (inr inside) = ap leaf (fill_at i inside) ∙ sym (fill_slot_lem depth w i inside)
