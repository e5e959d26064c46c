-- As many tables are in use as the trees have nodes.
use Rattle.std.specs.Prelude.{◌≡◌, refl, ◌⊎◌, eqb}
use Rattle.std.proofs.Common.{inl, inr}
use Rattle.std.proofs.Math.Bool.{cond}
use Prim.Native.Nat.{ℕ, suc}
use Rattle.laws.specs.Sum.{sum}
use Rattle.theory_forest.specs.Tree.{Tree, leaf, node}
use Rattle.theory_forest.specs.Sound.{State, Codec}
use Rattle.theory_forest.specs.Under.{Under, NotUnder, under-or}

-- the nodes of a tree: itself, if it is a table, and those in its slots
unfoldable pub nodes : Tree → ℕ
nodes (leaf w) = 0
nodes (node f) = suc (sum 512 (λ i. nodes (f i)))

-- the tables in use among the first n, counted off the ledger
unfoldable pub in_use : ℕ → State → ℕ
in_use n s = sum n (λ k. cond (eqb (s.ledger k) 0) 0 1)

-- 1 for yes, 0 for no
unfoldable pub tally_either {ℓ ℓ'} : {A : Type ℓ} {B : Type ℓ'} → A ⊎ B → ℕ
tally_either (inl a) = 1
tally_either (inr b) = 0

pub tally_yes {ℓ ℓ'} : {A : Type ℓ} {B : Type ℓ'} (t : A ⊎ B) → ¬ B → tally_either t ≡ 1
unfolding tally_either
tally_yes (inl a) never = refl
tally_yes (inr b) never = absurd (never b)

pub tally_no {ℓ ℓ'} : {A : Type ℓ} {B : Type ℓ'} (t : A ⊎ B) → ¬ A → tally_either t ≡ 0
unfolding tally_either
tally_no (inl a) never = absurd (never a)
tally_no (inr b) never = refl

module _ (C : Codec) (s : State) where
  -- 1 where table j lies under c
  unfoldable pub lies : ℕ → ℕ → ℕ
  lies c j = tally_either (under-or {C = C} {s = s} c j)

  pub lies_yes : (c d j : ℕ) → Under C s c d j → lies c j ≡ 1
  unfolding lies
  lies_yes c d j under = tally_yes (under-or {C = C} {s = s} c j) (λ off. off d under)

  pub lies_no : (c j : ℕ) → NotUnder C s c j → lies c j ≡ 0
  unfolding lies
  lies_no c j off = tally_no (under-or {C = C} {s = s} c j) (λ at. off at.0 at.1)
