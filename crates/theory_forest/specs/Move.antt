-- The steps as moves: `Move s s' depth k i t` says that s' differs from s only at slot i of table k, whose tree is now t; `TableMove` says
-- so of a whole table, `Runs` of a table's first slots.
use Rattle.std.specs.Prelude.{◌≡◌, ℕ, ◌≤◌, ◌<◌}
use Rattle.theory_forest.specs.Tree.{Tree}
use Rattle.theory_forest.specs.Sound.{State, Codec}
use Rattle.theory_forest.specs.Frame.{tree_of, slot_tree}
use Rattle.theory_forest.specs.Place.{At, Over}

module _ (C : Codec) where
  pub record Move (s s' : State) (depth k i : ℕ) (t : Tree) : Type 0 where
    pub at : At C s s' k i
    pub tree : slot_tree C s' depth k i ≡ t

  pub record TableMove (s s' : State) (depth k : ℕ) (t : Tree) : Type 0 where
    pub over : Over C s s' k
    pub tree : tree_of C s' depth k ≡ t

  -- the slots below n show the trees `done`, the others what they showed
  pub record Runs (s s' : State) (depth k n : ℕ) (done : ℕ → Tree) : Type 0 where
    pub over : Over C s s' k
    pub low : (i : ℕ) → i < n → slot_tree C s' depth k i ≡ done i
    pub high : (i : ℕ) → n ≤ i → slot_tree C s' depth k i ≡ slot_tree C s depth k i
