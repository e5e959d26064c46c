-- The third step: a whole subtree is unlinked and freed. Sound again. The fourth step, to free a table whose
-- words are all 0, is the case with nothing below it.
use Rattle.std.specs.Prelude.{◌≡◌, ◌≢◌, ℕ}
use Rattle.theory_forest.specs.Sound.{State, Codec}
use Rattle.theory_forest.specs.Under.{Under, NotUnder}
use Rattle.theory_forest.specs.Keep.{SameSlot}

module _ (C : Codec) where
  -- s' is s with every table under e zeroed, in words and ledger, and the word v in slot i of table p, which referred to e
  pub record Frees (s s' : State) (p i e v : ℕ) : Type 0 where
    pub here : s'.word p i ≡ v
    pub gone : (j d : ℕ) → Under C s e d j → s'.ledger j ≡ 0
    pub empty : (j d : ℕ) → Under C s e d j → (k : ℕ) → s'.word j k ≡ 0
    pub words : (j k : ℕ) → NotUnder C s e j → ¬ (SameSlot j k p i) → s'.word j k ≡ s.word j k
    pub ledger : (j : ℕ) → NotUnder C s e j → s'.ledger j ≡ s.ledger j

-- ---- a table whose words are all 0 has nothing below it

-- s' is s with table e alone zeroed, in words and ledger, and the word v in slot i of table p
pub record Clears (s s' : State) (p i e v : ℕ) : Type 0 where
  pub here : s'.word p i ≡ v
  pub gone : s'.ledger e ≡ 0
  pub empty : (k : ℕ) → s'.word e k ≡ 0
  pub words : (j k : ℕ) → j ≢ e → ¬ (SameSlot j k p i) → s'.word j k ≡ s.word j k
  pub ledger : (j : ℕ) → j ≢ e → s'.ledger j ≡ s.ledger j
