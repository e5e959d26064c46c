-- One law for each way through the code. Leans on `Rules`.
use Rattle.std.specs.Prelude.{◌≡◌, true, false, ℕ, ◌+◌, ◌-◌, ◌%◌, ◌≤◌, ◌<◌, eqb}
use Rattle.std.proofs.Common.{sym, ◌∙◌, arith, ⊎_elim}
use borrow.Author.Tests.{eq-eqb, ne_eqb, le-leb, lt-leb}
use Rattle.laws.specs.Size.{size_at, down}
use Rattle.laws.specs.Test.{le_or}
use Rattle.entry.specs.Word.{address_of, flags_of, valid, leaf_word}
use Rattle.region.specs.Region.{whole}
use Rattle.pool_table.specs.Table.{rising}
use Rattle.map_rules.specs.declared.Map.{Map}
use Rattle.map_rules.specs.declared.Rule.{Rule}
use Rattle.map_rules.specs.declared.Rule.TheVariants.{Write, Keep, Drop, Down}
use Rattle.map_rules.specs.Rules.{table_word, rule2, blockable, rule3, rule4, rule_of, fill_of}

-- ---- rule 2

module _ (level : ℕ) (m : Map) (w : ℕ) where
  pub same-table : w % 4 ≡ 3 → false ≡ rule2 level m w
  unfolding rule2 table_word
  same-table e = rw (eq-eqb (w % 4) 3 e)

  module _ (plain : w % 4 ≡ 3 → ⊥) where
    pub same_flags_lem : (flags_of w ≡ m.flags → ⊥) → false ≡ rule2 level m w
    unfolding rule2 table_word
    same_flags_lem n = rw (ne_eqb (w % 4) 3 plain, ne_eqb (flags_of w) m.flags n)

    pub same-below : flags_of w ≡ m.flags → m.frame.0 < m.region.start.0 % size_at level → false ≡ rule2 level m w
    unfolding rule2 table_word
    same-below e l =
        rw (ne_eqb (w % 4) 3 plain, eq-eqb (flags_of w) m.flags e, lt-leb (m.region.start.0 % size_at level) m.frame.0 l)

    pub same_place : flags_of w ≡ m.flags → m.region.start.0 % size_at level ≤ m.frame.0
        → eqb (m.frame.0 - m.region.start.0 % size_at level) (address_of w) ≡ rule2 level m w
    unfolding rule2 table_word
    same_place e l =
        rw (ne_eqb (w % 4) 3 plain, eq-eqb (flags_of w) m.flags e, le-leb (m.region.start.0 % size_at level) m.frame.0 l)

-- ---- the rules in their order

module _ (level : ℕ) (m : Map) (w : ℕ) where
  abbrev written : ℕ
  written = leaf_word level m.frame.0 m.flags

  pub rule_page : 3 ≤ level → Write written ≡ rule_of level m w
  unfolding rule_of
  rule_page h = rw (le-leb 3 level h)

  module _ (h : level < 3) where
    pub rule_keep : rule2 level m w ≡ true → Keep ≡ rule_of level m w
    unfolding rule_of
    rule_keep e = rw (lt-leb 3 level h, e)

    module _ (other : rule2 level m w ≡ false) where
      pub rule_part : whole level m.region ≡ false → Down ≡ rule_of level m w
      unfolding rule_of rule3 rule4
      rule_part e = rw (lt-leb 3 level h, other, e)

      module _ (all : whole level m.region ≡ true) where
        pub rule-drop : w % 4 ≡ 3 → (m.flags % 2 ≡ 1 → ⊥) → Drop m.flags ≡ rule_of level m w
        unfolding rule_of rule3 rule4 table_word valid
        rule-drop e n = rw (lt-leb 3 level h, other, all, eq-eqb (w % 4) 3 e, ne_eqb (m.flags % 2) 1 n)

        pub rule-into : w % 4 ≡ 3 → m.flags % 2 ≡ 1 → Down ≡ rule_of level m w
        unfolding rule_of rule3 rule4 table_word valid
        rule-into e v = rw (lt-leb 3 level h, other, all, eq-eqb (w % 4) 3 e, eq-eqb (m.flags % 2) 1 v)

        pub rule_block : (w % 4 ≡ 3 → ⊥) → blockable level m ≡ true → Write written ≡ rule_of level m w
        unfolding rule_of rule3 rule4 table_word
        rule_block n e = rw (lt-leb 3 level h, other, all, ne_eqb (w % 4) 3 n, e)

        pub rule-split : (w % 4 ≡ 3 → ⊥) → blockable level m ≡ false → Down ≡ rule_of level m w
        unfolding rule_of rule3 rule4 table_word
        rule-split n e = rw (lt-leb 3 level h, other, all, ne_eqb (w % 4) 3 n, e)

-- only above level 3 is there something below
module _ (level : ℕ) (m : Map) (w : ℕ) {r : Rule} (is : r ≡ rule_of level m w) where
  rule_high : ((x : ℕ) → r ≡ Write x → ⊥) → level < 3
  rule_high other = ⊎_elim (λ h. absurd (other _ (is ∙ sym (rule_page level m w h)))) (λ h. h) (le_or 3 level)

  pub drop_high : (x : ℕ) → r ≡ Drop x → level < 3
  drop_high x e = rule_high (λ y q. let z : ◌≡◌ {A = ℕ} 0 1 = cc in omega arith)

  pub down_high : r ≡ Down → level < 3
  down_high e = rule_high (λ y q. let z : ◌≡◌ {A = ℕ} 0 1 = cc in omega arith)

-- ---- a split

pub fill_hole : (level w : ℕ) → (w % 2 ≡ 1 → ⊥) → rising 512 (flags_of w) 0 ≡ fill_of level w
unfolding fill_of valid
fill_hole level w n = rw (ne_eqb (w % 2) 1 n)

pub fill_leaf : (level w : ℕ) → w % 2 ≡ 1
    → rising 512 (leaf_word (level + 1) (down (address_of w) (size_at level)) (flags_of w)) (size_at (level + 1)) ≡ fill_of level w
unfolding fill_of valid
fill_leaf level w v = rw (eq-eqb (w % 2) 1 v)
