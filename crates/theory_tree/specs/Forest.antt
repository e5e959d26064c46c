-- The trees of a sound pool are fine, where the codec's leaves are fine words: so the demands speak of the trees of `theory_forest`.
use Rattle.std.specs.Prelude.{◌≡◌, refl, ◌⊎◌, ◌≢◌, ℕ, zero, suc, ◌-◌, ◌%◌, ◌<◌}
use Rattle.std.proofs.Common.{sym, subst, inl, inr, arith}
use Rattle.laws.specs.Test.{eq_or}
use Rattle.theory_forest.specs.Tree.{tree_at_node}
use Rattle.theory_forest.specs.Sound.{State, Codec, Used, level_in, IsTable, Refers, Sound}
use Rattle.theory_forest.specs.Under.{LevelsLeft}
use Rattle.theory_forest.proofs.Under.{refers_level}
use Rattle.theory_forest.specs.Frame.{tree_of, slot_tree}
use Rattle.theory_forest.proofs.Frame.{slot_refers}
use Rattle.theory_forest.specs.Keep.{slot_leaf}
use Rattle.theory_tree.specs.Fine.{Fine}
use Rattle.theory_tree.specs.Shown.{FineTree, FineTable, table_fine}

module _ {C : Codec} {s : State} (S : Sound C s) (good : (x w : ℕ) → C.Leaf x w → Fine (3 - C.level x) w) where
  -- a slot that holds no table
  slot_fine : (depth k i : ℕ) → i < 512 → Used s k → LevelsLeft C s k depth → ¬ (IsTable C s k i) → FineTree depth (slot_tree C s depth k i)
  slot_fine depth k i inside used low plain =
      let same : 3 - level_in C s k ≡ depth = omega arith in
      let fine : Fine depth (s.word k i) =
      subst (λ (l : ℕ). Fine l (s.word k i)) same (good (s.ledger k) (s.word k i) (S.leaves k i used inside plain)) in
      subst (FineTree depth) (sym (slot_leaf C s depth k i low refl plain)) fine

  pub tree_fine : (depth k : ℕ) → Used s k → LevelsLeft C s k depth → FineTable depth (tree_of C s depth k)
  tree_fine zero k used low =
      subst (FineTable 0) (sym (tree_at_node C.child 0 s.word k))
      (λ i l. slot_fine 0 k i l used low (λ table. omega (arith, table.0)))
  tree_fine (suc depth) k used low =
      subst (FineTable (suc depth)) (sym (tree_at_node C.child (suc depth) s.word k))
      (λ i l. go i l (λ c r. tree_fine depth c r.used (omega (arith, refers_level r))) (eq_or (s.word k i % 4) 3))
    where
      go : (i : ℕ) → i < 512 → ((c : ℕ) → Refers C s k i c → FineTable depth (tree_of C s depth c))
          → (s.word k i % 4 ≡ 3) ⊎ (s.word k i % 4 ≢ 3)
          → FineTree (suc depth) (slot_tree C s (suc depth) k i)
      go i l ih (inl both) =
          let c = S.names k i used (omega arith, both) in
          subst (FineTree (suc depth)) (sym (slot_refers depth c.1)) (table_fine depth (tree_of C s depth c.0) (ih c.0 c.1))
      go i l ih (inr other) = slot_fine (suc depth) k i l used low (λ table. other table.1)
