-- Theorems about the definitions of specs/Compact.
use Rattle.std.specs.Prelude.{◌≡◌, Bool, true, false, ◌⊎◌, ℕ, suc, ◌≤◌, ◌<◌, eqb}
use Rattle.std.proofs.Math.Path.{refl, sym, ap}
use Rattle.std.proofs.Common.{◌∙◌, inl, inr, eqb→eq}
use Rattle.std.proofs.Math.Bool.{cond}
use Rattle.laws.specs.Test.{le_or, all_to}
use Rattle.theory_forest.specs.Tree.{Tree, leaf, tree_at}
use Rattle.theory_forest.specs.Sound.{State, Codec, Used, IsTable, Refers, Sound}
use Rattle.theory_forest.specs.Under.{LevelsLeft}
use Rattle.theory_forest.specs.Frame.{tree_of, slot_tree}
use Rattle.theory_forest.proofs.Frame.{slot_refers}
use Rattle.theory_forest.specs.Keep.{zero-fits, slot_leaf}
use Rattle.theory_forest.specs.Free.{Clears}
use Rattle.theory_forest.specs.Move.{Move, TableMove}
use Rattle.theory_forest.proofs.Move.{move_skip, move_down, move_clear}
use Rattle.theory_forest.specs.Compact.{empty_words, empty_tree, empty_tree_lem, squash}

pub empty_words_lem : {C : Codec} {s : State} → Sound C s → (k : ℕ) → empty_words (s.word k) ≡ true → (i : ℕ) → s.word k i ≡ 0
unfolding empty_words
empty_words_lem {C} {s} S k empty i = go (le_or 512 i)
  where
    go : (512 ≤ i) ⊎ (i < 512) → s.word k i ≡ 0
    go (inl l) = S.wide k i l
    go (inr l) = eqb→eq (s.word k i) 0 (all_to 512 (λ i. eqb (s.word k i) 0) (rw empty tt) i l)

-- ---- one slot: the step on states is the step on trees

module _ {C : Codec} {s : State} (S : Sound C s) (rec : Tree → Tree) (depth : ℕ) {k i : ℕ} where
  pub compact_leaf : LevelsLeft C s k (suc depth) → ¬ (IsTable C s k i)
      → Move C s s (suc depth) k i (squash rec (slot_tree C s (suc depth) k i))
  unfolding squash
  compact_leaf low old =
      let shows = slot_leaf C s (suc depth) k i low refl old in
      record { at = (move_skip S (suc depth) k i).at; tree = shows ∙ sym (ap (squash rec) shows) }

  module _ {s' : State} {c : ℕ} (used : Used s k) (r : Refers C s k i c) (work : TableMove C s s' depth c (rec (tree_of C s depth c))) where
    squashed : {b : Bool} → empty_words (s'.word c) ≡ b
        → squash rec (slot_tree C s (suc depth) k i) ≡ cond b (leaf 0) (rec (tree_of C s depth c))
    unfolding squash tree_at
    squashed {b} test =
        ap (squash rec) (slot_refers depth r)
        ∙ ap (λ (b : Bool). cond b (leaf 0) (rec (tree_of C s depth c)))
        (ap empty_tree (sym work.tree) ∙ empty_tree_lem C.child depth s'.word c ∙ test)

    -- the table is not empty: it stays
    pub compact_keep : empty_words (s'.word c) ≡ false → Move C s s' (suc depth) k i (squash rec (slot_tree C s (suc depth) k i))
    compact_keep test = let move = move_down S depth used r work in record { at = move.at; tree = move.tree ∙ sym (squashed test) }

    -- the table is empty: it is cleared, and its slot zeroed
    pub compact_drop : {s'' : State} → i < 512 → LevelsLeft C s k (suc depth) → empty_words (s'.word c) ≡ true → Clears s' s'' k i c 0
        → Move C s s'' (suc depth) k i (squash rec (slot_tree C s (suc depth) k i))
    compact_drop inside low test clears =
        let zeros = empty_words_lem work.over.sound c test in
        let move = move_clear S depth used inside low (zero-fits C (s.ledger k)) r work zeros clears in
        record { at = move.at; tree = move.tree ∙ sym (squashed test) }
