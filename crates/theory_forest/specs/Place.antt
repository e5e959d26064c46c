-- Where a state differs from another, so that steps compose. `At s s' k i`: s' is sound and differs only in slot i of table k and under it.
-- `Over s s' k`: only in table k and under it.
use Rattle.std.specs.Prelude.{◌≡◌, ℕ, suc}
use Rattle.std.proofs.Common.{arith}
use Rattle.theory_forest.specs.Sound.{State, Codec, Used, Sound}
use Rattle.theory_forest.specs.Under.{Under}
use Rattle.theory_forest.specs.Frame.{NotUnderSlot, Change, Outside}

module _ (C : Codec) where
  -- j is not under k, or it is k itself
  abbrev pub NotBelow : State → ℕ → ℕ → Type 0
  NotBelow s k j = (d : ℕ) → ¬ (Under C s k (suc d) j)

  pub record At (s s' : State) (k i : ℕ) : Type 0 where
    pub sound : Sound C s'
    pub words : Change C s s' k i
    pub ledger : (j : ℕ) → Used s j → NotUnderSlot C s k i j → s'.ledger j ≡ s.ledger j

  pub record Over (s s' : State) (k : ℕ) : Type 0 where
    pub sound : Sound C s'
    pub words : Outside C s s' k
    pub ledger : (j : ℕ) → Used s j → NotBelow s k j → s'.ledger j ≡ s.ledger j

module _ {C : Codec} {s : State} where
  pub below_self : {k : ℕ} → NotBelow C s k k
  below_self d under = omega (arith, under.deep)
