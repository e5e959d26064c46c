-- Theorems about the definitions of specs/Move.
use Rattle.std.specs.Prelude.{◌≡◌, refl, ◌⊎◌, ◌≢◌, ℕ, suc, ◌<◌}
use Rattle.std.proofs.Common.{ap, ◌∙◌, inl, inr, arith}
use Rattle.std.proofs.Math.Path.{subst⁻¹}
use Rattle.laws.specs.Test.{eq_or}
use Rattle.theory_forest.specs.Tree.{Tree, leaf, each_slot, each_slot_lem, tree_at_node}
use Rattle.theory_forest.specs.Sound.{State, Codec, Used, level_in, IsTable, Refers, Sound}
use Rattle.theory_forest.specs.Under.{LevelsLeft}
use Rattle.theory_forest.proofs.Under.{refers_over}
use Rattle.theory_forest.specs.Frame.{tree_of, slot_tree}
use Rattle.theory_forest.proofs.Frame.{slot_refers, change_slot}
use Rattle.theory_forest.specs.Keep.{Fits, slot_leaf}
use Rattle.theory_forest.specs.Store.{Stored}
use Rattle.theory_forest.proofs.Store.{store_change, store_sound}
use Rattle.theory_forest.specs.Split.{Splits, SplitFits}
use Rattle.theory_forest.proofs.Split.{split_change, split_sound, new_refers}
use Rattle.theory_forest.specs.Free.{Frees, Clears}
use Rattle.theory_forest.proofs.Free.{free_change, free_sound, free_empty_frees}
use Rattle.theory_forest.specs.Place.{At, below_self}
use Rattle.theory_forest.proofs.Place.{slot_self, at_refl, at_trans, at_used, at_over, over_refl, over_trans}
use Rattle.theory_forest.proofs.Place.{over_at, over_refers}
use Rattle.theory_forest.specs.Move.{Move, TableMove, Runs}

-- ---- the moves

module _ {C : Codec} {s : State} (S : Sound C s) where
  pub move_skip : (depth k i : ℕ) → Move C s s depth k i (slot_tree C s depth k i)
  move_skip depth k i = record { at = at_refl S; tree = refl }

  pub work_skip : (depth k : ℕ) → TableMove C s s depth k (tree_of C s depth k)
  work_skip depth k = record { over = over_refl S; tree = refl }

module _ {C : Codec} {s s' : State} (S : Sound C s) where
  module _ (depth : ℕ) {k i v : ℕ} (used : Used s k) (inside : i < 512) (low : LevelsLeft C s k depth) (fits : Fits C (s.ledger k) v) where
    pub move_store : Stored s s' k i v → ¬ (IsTable C s k i) → Move C s s' depth k i (leaf v)
    move_store stored old = record {
      at =
          record {
            sound = store_sound S stored used inside old fits;
            words = store_change S stored used inside old fits;
            ledger = λ j u off. stored.ledger j;
          };
      tree = slot_leaf C s' depth k i low stored.here fits.plain;
    }

    pub move_free : {e : ℕ} → Frees C s s' k i e v → Refers C s k i e → Move C s s' depth k i (leaf v)
    move_free {e} frees r = record {
      at =
          record {
            sound = free_sound S frees used inside r fits;
            words = free_change S frees used inside r fits;
            ledger = λ j u off. frees.ledger j (λ d. off e d r);
          };
      tree = slot_leaf C s' depth k i low frees.here fits.plain;
    }

  -- work in a child is a move at its slot
  pub move_down : (depth : ℕ) {k i c : ℕ} {t : Tree} → Used s k → Refers C s k i c → TableMove C s s' depth c t
      → Move C s s' (suc depth) k i t
  move_down depth used r work =
      record { at = over_at S used r work.over; tree = slot_refers depth (over_refers S used r work.over) ∙ work.tree }

-- a split, and then work in the new table
module _ {C : Codec} {s s' : State} {k i f x : ℕ} {g : ℕ → ℕ} (S : Sound C s) (splits : Splits C s s' k i f x g)
    (fit : SplitFits C s k i f x g)
    (used : Used s k) (inside : i < 512) (old : ¬ (IsTable C s k i)) (fresh : s.ledger f ≡ 0) where
  pub split_at : At C s s' k i
  split_at = record {
    sound = split_sound S splits fit used inside old fresh;
    words = split_change S splits fit used inside old fresh;
    ledger = λ j u off. splits.ledger j (λ e. omega (arith, u, fresh, ap s.ledger e));
  }

  pub move_split : (depth : ℕ) {s'' : State} {t : Tree} → TableMove C s' s'' depth f t → Move C s s'' (suc depth) k i t
  move_split depth work =
      let move = move_down split_at.sound depth (at_used S split_at used slot_self)
      (new_refers S splits fit used inside old fresh) work in
      record { at = at_trans S split_at move.at; tree = move.tree }

-- work in a child that leaves it all zero, and then the child cleared
module _ {C : Codec} {s s' s'' : State} (S : Sound C s) where
  pub move_clear : (depth : ℕ) {k i c v : ℕ} {t : Tree} → Used s k → i < 512 → LevelsLeft C s k (suc depth) → Fits C (s.ledger k) v
      → Refers C s k i c
      → TableMove C s s' depth c t → ((j : ℕ) → s'.word c j ≡ 0) → Clears s' s'' k i c v → Move C s s'' (suc depth) k i (leaf v)
  move_clear depth {k} {v = v} used inside low fits r work zeros clears =
      let S' = work.over.sound in
      let r' = over_refers S used r work.over in
      let own : s'.ledger k ≡ s.ledger k = work.over.ledger k used (λ d. refers_over r (suc d)) in
      let used' : Used s' k = rw own used in
      let fits' : Fits C (s'.ledger k) v = rw own fits in
      let move = move_free S' (suc depth) used' inside (rw (own, level_in) low) fits' (free_empty_frees S' r'.used zeros clears) r' in
      record { at = at_trans S (over_at S used r work.over) move.at; tree = move.tree }

-- ---- a run over the slots of a table

module _ {C : Codec} {s : State} (S : Sound C s) where
  pub runs_zero : (depth k : ℕ) (done : ℕ → Tree) → Runs C s s depth k 0 done
  runs_zero depth k done = record { over = over_refl S; low = λ i h. absurd (omega arith); high = λ i h. refl }

  pub runs_suc : {s' s'' : State} {depth k n : ℕ} {done : ℕ → Tree} → Used s k → LevelsLeft C s k depth
      → Runs C s s' depth k n done → Move C s' s'' depth k n (done n) → Runs C s s'' depth k (suc n) done
  runs_suc {s'} {s''} {depth} {k} {n} {done} used low runs move = record {
    over = over_trans S runs.over (at_over S' used' move.at);
    low = λ i h. at i h (eq_or i n);
    high = λ i h. stays i (omega arith) ∙ runs.high i (omega arith);
  }
    where
      S' : Sound C s'
      S' = runs.over.sound

      own : s'.ledger k ≡ s.ledger k
      own = runs.over.ledger k used below_self

      used' : Used s' k
      used' = rw own used

      stays : (i : ℕ) → i ≢ n → slot_tree C s'' depth k i ≡ slot_tree C s' depth k i
      stays i other = change_slot S' s'' depth move.at.words used' (rw (own, level_in) low) other

      at : (i : ℕ) → i < suc n → (i ≡ n) ⊎ (i ≢ n) → slot_tree C s'' depth k i ≡ done i
      at i h (inl e) = rw e move.tree
      at i h (inr other) = stays i other ∙ runs.low i (omega arith)

module _ {C : Codec} {s s' : State} where
  -- a run over all 512 slots does h to each
  pub runs_work : {depth k : ℕ} (h : ℕ → Tree → Tree) → Runs C s s' depth k 512 (λ i. h i (slot_tree C s depth k i))
      → TableMove C s s' depth k (each_slot h (tree_of C s depth k))
  runs_work {depth} {k} h runs = record {
    over = runs.over;
    tree = subst⁻¹ (λ (t : Tree). tree_of C s' depth k ≡ each_slot h t) (tree_at_node C.child depth s.word k)
        (tree_at_node C.child depth s'.word k ∙ each_slot_lem h runs.low runs.high);
  }
