-- Compact on trees (document 01, "Putting down a map", Compact): from the leaves up each table below the root whose words are all zero
-- becomes a word of 0. The test on words is the test on trees; one slot's step on states is its step on trees.
use Rattle.std.specs.Prelude.{◌≡◌, Bool, false, ◌&&◌, ◌⊎◌, ◌≢◌, ℕ, zero, suc, ◌%◌, eqb}
use Rattle.std.proofs.Math.Path.{refl, sym, ap}
use Rattle.std.proofs.Common.{◌∙◌, inl, inr, arith, eqb→eq}
use Rattle.std.proofs.Math.Bool.{cond}
use Rattle.laws.specs.Test.{eq_or, all_below, is_false}
use Rattle.theory_forest.specs.Tree.{Tree, leaf, node, each_slot, tree_at, entry, entry_low, entry-table, entry_leaf}

-- ---- a table whose 512 words are all 0

unfoldable pub empty_words : (ℕ → ℕ) → Bool
empty_words g = all_below 512 (λ i. eqb (g i) 0)

abbrev pub zero_leaf : Tree → Bool
zero_leaf (leaf w) = eqb w 0
zero_leaf (node f) = false

unfoldable pub empty_tree : Tree → Bool
empty_tree (leaf w) = false
empty_tree (node f) = all_below 512 (λ i. zero_leaf (f i))

all_ext : (n : ℕ) (f g : ℕ → Bool) → ((i : ℕ) → f i ≡ g i) → all_below n f ≡ all_below n g
unfolding all_below
all_ext zero f g same = refl
all_ext (suc n) f g same = ap (λ (b : Bool). b && all_below n f) (same n) ∙ ap (λ (b : Bool). g n && b) (all_ext n f g same)

-- the words of a table are all 0 exactly when its tree is empty
pub empty_tree_lem : (child : ℕ → ℕ) (depth : ℕ) (w : ℕ → ℕ → ℕ) (k : ℕ) → empty_tree (tree_at child depth w k) ≡ empty_words (w k)
unfolding empty_tree empty_words tree_at
empty_tree_lem child depth w k = all_ext 512 (λ i. zero_leaf (entry child depth w (w k i))) (λ i. eqb (w k i) 0) (λ i. at depth (w k i))
  where
    table : (depth x : ℕ) → (x % 4 ≡ 3) ⊎ (x % 4 ≢ 3) → zero_leaf (entry child (suc depth) w x) ≡ eqb x 0
    table depth x (inl both) =
        ap zero_leaf (entry-table child depth w x both) ∙ sym (is_false (eqb x 0) (λ t. let z : x ≡ 0 = eqb→eq x 0 t in omega arith))
    table depth x (inr other) = ap zero_leaf (entry_leaf child (suc depth) w x other)

    at : (depth x : ℕ) → zero_leaf (entry child depth w x) ≡ eqb x 0
    at zero x = ap zero_leaf (entry_low child w x)
    at (suc depth) x = table depth x (eq_or (x % 4) 3)

-- ---- compact

-- a table with `rec` done to it, or a word of 0 where that leaves it empty
unfoldable pub squash : (Tree → Tree) → Tree → Tree
squash rec (leaf w) = leaf w
squash rec (node f) = let t = rec (node f) in cond (empty_tree t) (leaf 0) t

-- a table with `depth` levels below its own
unfoldable pub compact_tree : ℕ → Tree → Tree
compact_tree zero t = t
compact_tree (suc depth) t = each_slot (λ i t. squash (λ u. compact_tree depth u) t) t
