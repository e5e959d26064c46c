-- Something done to each slot of a table: when two such tables are the same, and the slots of a split's fill.
use Rattle.std.specs.Prelude.{◌≡◌, refl, cond, ℕ, ◌≤◌, ◌<◌, ltb}
use Rattle.std.proofs.Common.{lt-ltb, le-ltb, ltb-true}
use Rattle.laws.specs.Test.{by_bool}
use Rattle.theory_forest.specs.Tree.{Tree, leaf, node, node_ext, each_slot}
use Rattle.theory_tree.specs.Word.{fill_word}

-- the slot i after h is done to each
unfoldable pub slot_after : (ℕ → Tree → Tree) → (ℕ → Tree) → ℕ → Tree
slot_after h f i = cond (ltb i 512) (h i (f i)) (f i)

pub each_node : (h : ℕ → Tree → Tree) (f : ℕ → Tree) → each_slot h (node f) ≡ node (slot_after h f)
unfolding each_slot slot_after
each_node h f = refl

pub each_leaf : (h : ℕ → Tree → Tree) (w : ℕ) → each_slot h (leaf w) ≡ leaf w
unfolding each_slot
each_leaf h w = refl

pub slot_after_lem : (h : ℕ → Tree → Tree) (f : ℕ → Tree) (i : ℕ) → i < 512 → slot_after h f i ≡ h i (f i)
unfolding slot_after
slot_after_lem h f i l = rw (lt-ltb i 512 l)

pub slot_past : (h : ℕ → Tree → Tree) (f : ℕ → Tree) (i : ℕ) → 512 ≤ i → slot_after h f i ≡ f i
unfolding slot_after
slot_past h f i l = rw (le-ltb i 512 l)

-- where two functions do the same to each slot, they do the same to the table
pub each_same : (h g : ℕ → Tree → Tree) (f : ℕ → Tree) → ((i : ℕ) → i < 512 → h i (f i) ≡ g i (f i))
    → each_slot h (node f) ≡ each_slot g (node f)
unfolding each_slot
each_same h g f same = node_ext (λ i. by_bool (ltb i 512) (λ e. rw e (same i (ltb-true i 512 e))) (λ e. rw e))

-- nothing done to any
pub each_none : (h : ℕ → Tree → Tree) (f : ℕ → Tree) → ((i : ℕ) → i < 512 → h i (f i) ≡ f i) → each_slot h (node f) ≡ node f
unfolding each_slot
each_none h f same = node_ext (λ i. by_bool (ltb i 512) (λ e. rw e (same i (ltb-true i 512 e))) (λ e. rw e))

-- two things done one after the other
pub each_both : (h g : ℕ → Tree → Tree) (t : Tree) → each_slot h (each_slot g t) ≡ each_slot (λ i u. h i (g i u)) t
unfolding each_slot
each_both h g (leaf w) = refl
each_both h g (node f) = node_ext (λ i. by_bool (ltb i 512) (λ e. rw e) (λ e. rw e))

-- ---- the fill

unfoldable pub fill_slot : ℕ → ℕ → ℕ → Tree
fill_slot depth w i = cond (ltb i 512) (leaf (fill_word depth w i)) (leaf 0)
