-- A walk of the words is a walk of the tree that they show. Nothing is asked of the pool.
use Rattle.std.specs.Prelude.{◌≡◌, Bool, true, false, cond, eqb}
use Rattle.std.proofs.Math.Path.{refl}
use Prim.Native.Nat.{ℕ, zero, suc, ◌%◌}
use Rattle.theory_forest.specs.Tree.{Tree, leaf, node, tree_at, entry}

-- the word that a walk ends in, and how many levels lie below the table of that word
pub record Ends : Type 0 where
  pub word : ℕ
  pub depth : ℕ

-- `slots depth` is the slot that the walk takes in a table with `depth` levels below its own
module _ (slots : ℕ → ℕ) where
  -- on from a tree that stands in a slot of a table with `depth` levels below; below the lowest level there are no tables
  unfoldable pub walk_tree : ℕ → Tree → Ends
  walk_tree depth (leaf w) = record { word = w; depth = depth }
  walk_tree zero (node f) = record { word = 0; depth = 0 }
  walk_tree (suc depth) (node f) = walk_tree depth (f (slots depth))

  module _ (child : ℕ → ℕ) where
    -- on from the word x of a table with `depth` levels below
    unfoldable pub walk_word : ℕ → (ℕ → ℕ → ℕ) → ℕ → Ends
    walk_word zero w x = record { word = x; depth = 0 }
    walk_word (suc depth) w x =
        let e = walk_word depth w (w (child x) (slots depth)) in
        cond (eqb (x % 4) 3) e (record { word = x; depth = suc depth })

    pub walk-entry : (depth : ℕ) (w : ℕ → ℕ → ℕ) (x : ℕ) → walk_word depth w x ≡ walk_tree depth (entry child depth w x)
    unfolding walk_word walk_tree entry
    walk-entry zero w x = refl
    walk-entry (suc depth) w x = go (eqb (x % 4) 3) (walk-entry depth w (w (child x) (slots depth)))
      where
        t : Tree
        t = node (λ i. entry child depth w (w (child x) i))

        go : (b : Bool) → walk_word depth w (w (child x) (slots depth)) ≡ walk_tree depth (entry child depth w (w (child x) (slots depth)))
            → cond b (walk_word depth w (w (child x) (slots depth))) (record { word = x; depth = suc depth })
            ≡ walk_tree (suc depth) (cond b t (leaf x))
        go true ih = ih
        go false ih = refl

    -- down from table k
    pub walk_tree_lem : (depth : ℕ) (w : ℕ → ℕ → ℕ) (k : ℕ)
        → walk_word depth w (w k (slots depth)) ≡ walk_tree (suc depth) (tree_at child depth w k)
    unfolding walk_tree tree_at
    walk_tree_lem depth w k = walk-entry depth w (w k (slots depth))
