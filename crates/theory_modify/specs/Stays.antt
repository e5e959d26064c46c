-- A valid entry that a modify covers as a whole stays at its level, with its word edited. On trees.
use Rattle.std.specs.Prelude.{◌≡◌, true, cond, ltb}
use Rattle.std.proofs.Math.Path.{ap}
use Rattle.std.proofs.Common.{◌∙◌, arith}
use Prim.Native.Nat.{ℕ, zero, suc, ◌+◌, ◌≤◌, ◌<◌}
use borrow.Author.Tests.{le-leb, lt-ltb}
use Rattle.entry.specs.Word.{valid, edited}
use Rattle.theory_forest.specs.Tree.{Tree, leaf, node, each_slot}
use Rattle.theory_forest.specs.Walk.{Ends, walk_tree}
use Rattle.theory_tree.specs.Page.{pages_in, first, child, slot_of_page, slot_lt, In, in_from, in_rest, in_child}
use Rattle.theory_tree.specs.Visit.{Rule, write, down, visit, visit_table}
use Rattle.theory_tree.proofs.Visit.{visit_write, visit-down, opens_node}
use Rattle.theory_tree.specs.Shown.{FineTree, FineTable}
use Rattle.theory_tree.specs.Rules.{Map, meets, whole, yes_meets}
use Rattle.theory_tree.specs.Modify.{Modify, pages_of, edit_rule, modify_rule, modify_tree}
use Rattle.theory_modify.specs.Found.{WithinPages}

in_slot_lem : (g : ℕ → Tree → Tree) (u : ℕ → Tree) (i : ℕ) → i < 512 → cond (ltb i 512) (g i (u i)) (u i) ≡ g i (u i)
in_slot_lem g u i l = rw (lt-ltb i 512 l)

walk-each : (f : ℕ → ℕ) (depth : ℕ) (g : ℕ → Tree → Tree) (u : ℕ → Tree) → f depth < 512
    → walk_tree f (suc depth) (each_slot g (node u)) ≡ walk_tree f depth (g (f depth) (u (f depth)))
unfolding each_slot walk_tree
walk-each f depth g u l = ap (walk_tree f depth) (in_slot_lem g u (f depth) l)

module _ (set clear : ℕ) (m : Map) (y : ℕ) (from : m.from ≤ y) (below : y < m.upto) where
  abbrev rule : ℕ → ℕ → Tree → Rule
  rule = modify_rule set clear m

  -- the word edited, at the same level
  abbrev after : Ends → Ends
  after x = record { word = edited set clear x.word; depth = x.depth }

  met_here : (depth q : ℕ) → In depth q y → meets depth (first depth q) m ≡ true
  met_here depth q at = let i = in_from depth q y at in yes_meets depth (first depth q) m y from below i.0 i.1

  whole_here : (depth q : ℕ) → In depth q y → WithinPages m.from m.upto depth y → whole depth (first depth q) m ≡ true
  unfolding whole
  whole_here depth q at W =
      let i = in_rest depth q y at in
      rw (
        le-leb m.from (first depth q) (omega (arith, W.from)),
        le-leb (first depth q + pages_in depth) m.upto
            (omega (arith, W.upto)),
      )

  rule_leaf : (depth q w : ℕ) → In depth q y → valid w ≡ true → WithinPages m.from m.upto depth y
      → rule depth (first depth q) (leaf w) ≡ write (edited set clear w)
  unfolding modify_rule edit_rule
  rule_leaf zero q w at v W = rw (met_here zero q at, v)
  rule_leaf (suc depth) q w at v W = rw (met_here (suc depth) q at, whole_here (suc depth) q at W, v)

  rule_node : (depth q : ℕ) (f : ℕ → Tree) → In (suc depth) q y → rule (suc depth) (first (suc depth) q) (node f) ≡ down
  unfolding modify_rule
  rule_node depth q f at = rw (met_here (suc depth) q at)

  table-walk : (depth q : ℕ) (f : ℕ → Tree)
      → walk_tree (slot_of_page y) (suc depth) (visit_table rule depth q (node f))
      ≡ walk_tree (slot_of_page y) depth (visit rule depth (child q (slot_of_page y depth)) (f (slot_of_page y depth)))
  unfolding visit_table
  table-walk depth q f = walk-each (slot_of_page y) depth (λ i u. visit rule depth (child q i) u) f (slot_lt y depth)

  visit_stays : (depth q : ℕ) (t : Tree) → FineTree depth t → In depth q y
      → let x = walk_tree (slot_of_page y) depth t in valid x.word ≡ true → WithinPages m.from m.upto x.depth y
      → walk_tree (slot_of_page y) depth (visit rule depth q t) ≡ after x
  unfolding walk_tree
  visit_stays zero q (leaf w) fine at v W =
      ap (walk_tree (slot_of_page y) zero) (visit_write rule zero q (leaf w) (edited set clear w) (rule_leaf zero q w at v W))
  visit_stays (suc depth) q (leaf w) fine at v W =
      ap (walk_tree (slot_of_page y) (suc depth))
      (visit_write rule (suc depth) q (leaf w) (edited set clear w) (rule_leaf (suc depth) q w at v W))
  visit_stays zero q (node f) fine at v W = absurd fine
  visit_stays (suc depth) q (node f) fine at v W =
      ap (walk_tree (slot_of_page y) (suc depth))
      (visit-down rule depth q (node f) (rule_node depth q f at) ∙ ap (visit_table rule depth q) (opens_node depth f))
      ∙ table-walk depth q f
      ∙ visit_stays depth (child q (slot_of_page y depth)) (f (slot_of_page y depth)) (fine (slot_of_page y depth) (slot_lt y depth))
      (in_child depth q y at) v W

  table_stays : (depth q : ℕ) (t : Tree) → FineTable depth t → In (suc depth) q y
      → let x = walk_tree (slot_of_page y) (suc depth) t in valid x.word ≡ true
      → WithinPages m.from m.upto x.depth y → walk_tree (slot_of_page y) (suc depth) (visit_table rule depth q t) ≡ after x
  unfolding walk_tree
  table_stays depth q (leaf w) fine at v W = absurd fine
  table_stays depth q (node f) fine at v W =
      table-walk depth q f
      ∙ visit_stays depth (child q (slot_of_page y depth)) (f (slot_of_page y depth)) (fine (slot_of_page y depth) (slot_lt y depth))
      (in_child depth q y at) v W

-- A CALL ON A ROOT'S TREE
pub modify_stays : (depth r : ℕ) (e : Modify) (t : Tree) (y : ℕ) → FineTable depth t → In (suc depth) r y → e.from ≤ y → y < e.upto
    → let x = walk_tree (slot_of_page y) (suc depth) t in
    valid x.word ≡ true → WithinPages e.from e.upto x.depth y
    → walk_tree (slot_of_page y) (suc depth) (modify_tree depth r e t)
    ≡ record { word = edited e.set e.clear x.word; depth = x.depth }
unfolding modify_tree
modify_stays depth r e t y fine at from below v W = table_stays e.set e.clear (pages_of e) y from below depth r t fine at v W
