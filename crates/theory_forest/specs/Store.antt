-- The first step: a leaf word stored over a leaf word, in a slot of a used table. Sound again.
use Rattle.std.specs.Prelude.{◌≡◌, ℕ}
use Rattle.theory_forest.specs.Sound.{State}
use Rattle.theory_forest.specs.Keep.{SameSlot}

-- s' is s with the word v in slot i of table p
pub record Stored (s s' : State) (p i v : ℕ) : Type 0 where
  pub here : s'.word p i ≡ v
  pub words : (k j : ℕ) → ¬ (SameSlot k j p i) → s'.word k j ≡ s.word k j
  pub ledger : (k : ℕ) → s'.ledger k ≡ s.ledger k
