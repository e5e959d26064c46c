-- A walk of a compacted tree ends where it ended, or in a word of 0 where it did: what is read off its end is as before, if a word of 0
-- reads alike at each level. Leans on `Compact`, `Walk`.
use Rattle.std.specs.Prelude.{◌≡◌, Bool, true, false, cond, T}
use Rattle.std.proofs.Math.Path.{refl, ap}
use Rattle.std.proofs.Common.{sym, subst, ◌∙◌, true≢false, eqb→eq, lt-ltb}
use Prim.Native.Nat.{ℕ, zero, suc, ◌<◌}
use Rattle.laws.specs.Test.{by_bool, all_to}
use Rattle.theory_forest.specs.Tree.{Tree, leaf, node, each_slot}
use Rattle.theory_forest.specs.Walk.{Ends, walk_tree}
use Rattle.theory_forest.specs.Compact.{zero_leaf, empty_tree, squash, compact_tree}

-- ---- an empty table

zero_leaf_lem : (u : Tree) → T (zero_leaf u) → u ≡ leaf 0
zero_leaf_lem (leaf w) t = ap leaf (eqb→eq w 0 t)
zero_leaf_lem (node f) t = absurd t

-- the slots of an empty table hold 0
pub empty_slot : (f : ℕ → Tree) → empty_tree (node f) ≡ true → (i : ℕ) → i < 512 → f i ≡ leaf 0
unfolding empty_tree
empty_slot f e i l = zero_leaf_lem (f i) (all_to 512 (λ i. zero_leaf (f i)) (subst T (sym e) tt) i l)

pub not_empty : (w : ℕ) → empty_tree (leaf w) ≡ false
unfolding empty_tree
not_empty w = refl

-- ---- what is done with a slot

module _ (rec : Tree → Tree) where
  pub squash_leaf : (w : ℕ) → squash rec (leaf w) ≡ leaf w
  unfolding squash
  squash_leaf w = refl

  pub squash-drops : (f : ℕ → Tree) → empty_tree (rec (node f)) ≡ true → squash rec (node f) ≡ leaf 0
  unfolding squash
  squash-drops f e = rw e

  pub squash_stays : (f : ℕ → Tree) → empty_tree (rec (node f)) ≡ false → squash rec (node f) ≡ rec (node f)
  unfolding squash
  squash_stays f e = rw e

-- ---- the walk

module _ {A : Type 0} (slots : ℕ → ℕ) (inside : (depth : ℕ) → slots depth < 512) (read : Ends → A) (none : A)
    (nothing : (depth : ℕ) → read (record { word = 0; depth = depth }) ≡ none) where
  zero-walk : (depth : ℕ) → read (walk_tree slots depth (leaf 0)) ≡ none
  unfolding walk_tree
  zero-walk depth = nothing depth

  empty_walk : (depth : ℕ) (c : Tree) → empty_tree c ≡ true → read (walk_tree slots (suc depth) c) ≡ none
  unfolding walk_tree
  empty_walk depth (leaf w) e = absurd (true≢false (sym e ∙ not_empty w))
  empty_walk depth (node f) e =
      ap (λ (u : Tree). read (walk_tree slots depth u)) (empty_slot f e (slots depth) (inside depth)) ∙ zero-walk depth

  slot_walk : (depth : ℕ) (u : Tree)
      → ((f : ℕ → Tree) → read (walk_tree slots (suc depth) (compact_tree depth (node f))) ≡ read (walk_tree slots (suc depth) (node f)))
      → read (walk_tree slots (suc depth) (squash (λ v. compact_tree depth v) u)) ≡ read (walk_tree slots (suc depth) u)
  slot_walk depth (leaf w) ih = ap (λ (v : Tree). read (walk_tree slots (suc depth) v)) (squash_leaf (λ v. compact_tree depth v) w)
  slot_walk depth (node f) ih = by_bool (empty_tree (compact_tree depth (node f)))
      (λ e. ap (λ (v : Tree). read (walk_tree slots (suc depth) v)) (squash-drops (λ v. compact_tree depth v) f e) ∙ zero-walk (suc depth)
      ∙ sym (empty_walk depth (compact_tree depth (node f)) e) ∙ ih f)
      (λ e. ap (λ (v : Tree). read (walk_tree slots (suc depth) v)) (squash_stays (λ v. compact_tree depth v) f e) ∙ ih f)

  pub compact_walk : (depth : ℕ) (t : Tree)
      → read (walk_tree slots (suc depth) (compact_tree depth t)) ≡ read (walk_tree slots (suc depth) t)
  unfolding compact_tree each_slot walk_tree
  compact_walk zero t = refl
  compact_walk (suc depth) (leaf w) = refl
  compact_walk (suc depth) (node f) =
      let u = f (slots (suc depth)) in
      ap (λ (b : Bool). read (walk_tree slots (suc depth) (cond b (squash (λ v. compact_tree depth v) u) u)))
      (lt-ltb (slots (suc depth)) 512 (inside (suc depth)))
      ∙ slot_walk depth u (λ g. compact_walk depth (node g))
