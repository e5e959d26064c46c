-- Theorems about the definitions of specs/Visit.
use Rattle.std.specs.Prelude.{◌≡◌, refl}
use Prim.Native.Nat.{ℕ, zero, suc}
use Rattle.theory_forest.specs.Tree.{Tree, leaf, node}
use Rattle.theory_tree.specs.Page.{first}
use Rattle.theory_tree.specs.Visit.{Rule, fill_tree, opened, obey, visit, visit_table, keep, write, down}

pub opens_leaf : (depth w : ℕ) → opened depth (leaf w) ≡ fill_tree depth w
unfolding opened
opens_leaf depth w = refl

pub opens_node : (depth : ℕ) (f : ℕ → Tree) → opened depth (node f) ≡ node f
unfolding opened
opens_node depth f = refl

-- ---- the visit: `rule depth b t` for an entry with `depth` levels below, whose first page is b and which shows t

module _ (rule : ℕ → ℕ → Tree → Rule) where
  -- ---- by the rule's word

  pub visit_keep : (depth q : ℕ) (t : Tree) → rule depth (first depth q) t ≡ keep → visit rule depth q t ≡ t
  unfolding visit obey
  visit_keep zero q t e = rw e
  visit_keep (suc depth) q t e = rw e

  pub visit_write : (depth q : ℕ) (t : Tree) (x : ℕ) → rule depth (first depth q) t ≡ write x → visit rule depth q t ≡ leaf x
  unfolding visit obey
  visit_write zero q t x e = rw e
  visit_write (suc depth) q t x e = rw e

  pub visit-down : (depth q : ℕ) (t : Tree) → rule (suc depth) (first (suc depth) q) t ≡ down
      → visit rule (suc depth) q t ≡ visit_table rule depth q (opened depth t)
  unfolding visit obey visit_table
  visit-down depth q t e = rw e
