-- Trees of words, and how a tree is read off the words of a pool. Nothing here knows the ledger or asks that the pool be sound.
use Rattle.std.specs.Prelude.{◌≡◌, true, false, cond, ◌⊎◌, ◌≢◌, eqb, ltb}
use Rattle.std.proofs.Math.Path.{refl, fun_ext}
use Rattle.std.proofs.Common.{ap, inl, inr, ltb→lt, nltb→le}
use Prim.Native.Nat.{ℕ, zero, suc, ◌%◌, ◌≤◌, ◌<◌}
use Rattle.laws.specs.Test.{by_bool, eqb_cases}

-- A leaf holds its word; a node, which is a table, holds a tree for each slot. Slots from 512 on read as `leaf 0`, so two trees are equal
-- when their slots are.
pub data Tree : Type 0 where
  leaf : ℕ → Tree
  node : (ℕ → Tree) → Tree

pub node_ext : {f g : ℕ → Tree} → ((i : ℕ) → f i ≡ g i) → node f ≡ node g
node_ext same = ap node (fun_ext same)

-- ---- something done to each slot of a table

unfoldable pub each_slot : (ℕ → Tree → Tree) → Tree → Tree
each_slot h (leaf w) = leaf w
each_slot h (node f) = node (λ i. cond (ltb i 512) (h i (f i)) (f i))

pub each_slot_lem : {f g : ℕ → Tree} (h : ℕ → Tree → Tree) → ((i : ℕ) → i < 512 → g i ≡ h i (f i)) → ((i : ℕ) → 512 ≤ i → g i ≡ f i)
    → node g ≡ each_slot h (node f)
unfolding each_slot
each_slot_lem {f} {g} h low high =
    node_ext (λ i. by_bool (ltb i 512) (λ e. rw e (low i (ltb→lt i 512 (rw e tt)))) (λ e. rw e (high i (nltb→le i 512 (rw e tt)))))

-- ---- the tree that the words show: `w k i` is the word in slot i of table k, `child x` the table that a table word x names

module _ (child : ℕ → ℕ) where
  -- What the word x shows in a table with `depth` levels below its own: a word with bits 0 and 1 set is a table, any other a leaf; at the
  -- lowest level all are leaves.
  unfoldable pub entry : ℕ → (ℕ → ℕ → ℕ) → ℕ → Tree
  entry zero w x = leaf x
  entry (suc depth) w x = let t = node (λ i. entry depth w (w (child x) i)) in cond (eqb (x % 4) 3) t (leaf x)

  -- the tree of table k with `depth` levels below its own
  unfoldable pub tree_at : ℕ → (ℕ → ℕ → ℕ) → ℕ → Tree
  tree_at depth w k = node (λ i. entry depth w (w k i))

  pub tree_at_node : (depth : ℕ) (w : ℕ → ℕ → ℕ) (k : ℕ) → tree_at depth w k ≡ node (λ i. entry depth w (w k i))
  unfolding tree_at
  tree_at_node depth w k = refl

  pub entry_low : (w : ℕ → ℕ → ℕ) (x : ℕ) → entry zero w x ≡ leaf x
  unfolding entry
  entry_low w x = refl

  pub entry-table : (depth : ℕ) (w : ℕ → ℕ → ℕ) (x : ℕ) → x % 4 ≡ 3 → entry (suc depth) w x ≡ tree_at depth w (child x)
  unfolding entry tree_at
  entry-table depth w x both = rw both

  pub entry_leaf : (depth : ℕ) (w : ℕ → ℕ → ℕ) (x : ℕ) → x % 4 ≢ 3 → entry depth w x ≡ leaf x
  unfolding entry
  entry_leaf zero w x other = refl
  entry_leaf (suc depth) w x other = go (eqb_cases (x % 4) 3)
    where
      go : ((x % 4 ≡ 3) × (eqb (x % 4) 3 ≡ true)) ⊎ ((x % 4 ≢ 3) × (eqb (x % 4) 3 ≡ false)) → entry (suc depth) w x ≡ leaf x
      go (inl e) = absurd (other e.0)
      go (inr e) = rw e.1
