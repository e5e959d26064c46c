-- The second step, a split: a free table is filled with leaves, entered in the ledger and linked in the place of a leaf. Sound again.
use Rattle.std.specs.Prelude.{◌≡◌, ◌≢◌, ℕ, suc, ◌≤◌, ◌<◌}
use Rattle.theory_forest.specs.Sound.{State, Codec, level_in}
use Rattle.theory_forest.specs.Keep.{SameSlot, Fits}

module _ (C : Codec) where
  -- s' is s with table f taken: filled with the words g, entered with the number x, linked in slot i of table p
  pub record Splits (s s' : State) (p i f x : ℕ) (g : ℕ → ℕ) : Type 0 where
    pub linked : s'.word p i ≡ C.link f
    pub filled : (j : ℕ) → s'.word f j ≡ g j
    pub number : s'.ledger f ≡ x
    pub words : (k j : ℕ) → k ≢ f → ¬ (SameSlot k j p i) → s'.word k j ≡ s.word k j
    pub ledger : (k : ℕ) → k ≢ f → s'.ledger k ≡ s.ledger k

  -- x is a number for table f in slot i of table p, and the words g may stand there as leaves
  pub record SplitFits (s : State) (p i f x : ℕ) (g : ℕ → ℕ) : Type 0 where
    pub well : C.Well x (s.ledger p)
    pub used : 0 < x
    pub level : C.level x ≡ suc (level_in C s p)
    pub over : C.over f x ≡ p
    pub slot : C.slot x ≡ i
    pub fits : (j : ℕ) → j < 512 → Fits C x (g j)
    pub wide : (j : ℕ) → 512 ≤ j → g j ≡ 0
