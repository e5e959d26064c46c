-- Theorems about the definitions of specs/Frame.
use Rattle.std.specs.Prelude.{◌≡◌, ◌⊎◌, ◌≢◌, ℕ, zero, suc, ◌%◌}
use Rattle.std.proofs.Common.{sym, ap, ◌∙◌, inl, inr, arith}
use Rattle.laws.specs.Test.{eq_or}
use Rattle.theory_forest.specs.Tree.{leaf, node_ext, tree_at, entry, tree_at_node, entry_low, entry-table, entry_leaf}
use Rattle.theory_forest.specs.Sound.{State, Codec, Used, Refers, Sound}
use Rattle.theory_forest.specs.Under.{Under, LevelsLeft, under_self}
use Rattle.theory_forest.proofs.Under.{refers_level, refers_under, refers_table, refers_child}
use Rattle.theory_forest.proofs.Under.{refers_over, refers_one}
use Rattle.theory_forest.specs.Frame.{tree_of, slot_tree, Change, Outside}

module _ {C : Codec} {s : State} where
  -- a slot that refers to a table shows its tree
  pub slot_refers : (depth : ℕ) {k i c : ℕ} → Refers C s k i c → slot_tree C s (suc depth) k i ≡ tree_of C s depth c
  slot_refers depth {k} {i} r =
      entry-table C.child depth s.word (s.word k i) (refers_table r).1 ∙ ap (tree_at C.child depth s.word) (refers_child r)

-- ---- the frame lemma

module _ {C : Codec} {s : State} (S : Sound C s) (s' : State) where
  -- a slot's tree stays if its word stays, and the tree of the table that it refers to
  slot_same : (depth k i : ℕ) → Used s k → LevelsLeft C s k depth → s'.word k i ≡ s.word k i
      → ((c l : ℕ) → Refers C s k i c → LevelsLeft C s c l → tree_of C s' l c ≡ tree_of C s l c)
      → slot_tree C s' depth k i ≡ slot_tree C s depth k i
  slot_same zero k i used low word below =
      entry_low C.child s'.word (s'.word k i) ∙ ap leaf word ∙ sym (entry_low C.child s.word (s.word k i))
  slot_same (suc l) k i used low word below = ap (entry C.child (suc l) s'.word) word ∙ go (eq_or (s.word k i % 4) 3)
    where
      x : ℕ
      x = s.word k i

      go : (x % 4 ≡ 3) ⊎ (x % 4 ≢ 3) → entry C.child (suc l) s'.word x ≡ entry C.child (suc l) s.word x
      go (inl both) =
          let n = S.names k i used (omega arith, both) in
          rw (entry-table C.child l s'.word x both, entry-table C.child l s.word x both, refers_child n.1)
          (below n.0 l n.1 (omega (arith, low, refers_level n.1)))
      go (inr other) = rw (entry_leaf C.child (suc l) s'.word x other, entry_leaf C.child (suc l) s.word x other)

  tree_same : (depth k : ℕ) → ((i : ℕ) → slot_tree C s' depth k i ≡ slot_tree C s depth k i) → tree_of C s' depth k ≡ tree_of C s depth k
  tree_same depth k same = tree_at_node C.child depth s'.word k ∙ node_ext same ∙ sym (tree_at_node C.child depth s.word k)

  -- FRAME: if the words of the tables under c stay, so does the tree of c
  pub frame : (depth c : ℕ) → Used s c → LevelsLeft C s c depth → ((d j : ℕ) → Under C s c d j → (i : ℕ) → s'.word j i ≡ s.word j i)
      → tree_of C s' depth c ≡ tree_of C s depth c
  frame zero c used low same =
      tree_same 0 c
      (λ i. slot_same 0 c i used low (same 0 c (under_self used) i) (λ e l r low'. absurd (omega (arith, low, low', refers_level r))))
  frame (suc depth) c used low same =
      tree_same (suc depth) c (λ i. slot_same (suc depth) c i used low (same 0 c (under_self used) i) (λ e l r low'.
      let at : l ≡ depth = omega (arith, low, low', refers_level r) in
      rw at (frame depth e r.used (omega (arith, low, refers_level r)) (λ d j under. same (suc d) j (refers_under r under)))))

  -- ---- a change at one slot

  -- the trees of the other slots stay
  pub change_slot : (depth : ℕ) {k i i' : ℕ} → Change C s s' k i → Used s k → LevelsLeft C s k depth → i' ≢ i
      → slot_tree C s' depth k i' ≡ slot_tree C s depth k i'
  change_slot depth {k} {i} {i'} change used low other = slot_same depth k i' used low (change.slots i' other) (λ e l r low'.
      frame l e r.used low' (λ d j under.
      change.others j under.used (λ same. refers_over r d (rw (← same) under))
      (λ e' d' r' under'. other (refers_one r r' under under'))))

  -- a change at a slot of k is one in table k and under it
  pub change_outside : {k i : ℕ} → Used s k → Change C s s' k i → Outside C s s' k
  change_outside used change j used' off =
      change.others j used' (λ same. off 0 (rw same (under_self used))) (λ c d r under. off (suc d) (refers_under r under))
