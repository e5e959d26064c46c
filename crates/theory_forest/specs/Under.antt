-- Up the tree by the ledger: which tables lie under which. Since each table has one way up, subtrees are apart for free.
use Rattle.std.specs.Prelude.{◌≡◌, ◌⊎◌, ◌≢◌}
use Rattle.std.proofs.Math.Path.{refl, sym, ap}
use Rattle.std.proofs.Common.{◌∙◌, subst, inl, inr, add-zero}
use Prim.Native.Nat.{ℕ, zero, suc, ◌+◌, ◌-◌, ◌≤◌, ◌<◌}
use native.Mathlib.Omega.{arith}
use Rattle.laws.specs.Test.{eq_or, le_or}
use Rattle.theory_forest.specs.Sound.{State, Codec, Used, level_in, parent, Refers}

module _ (C : Codec) where
  -- d steps up from table j
  unfoldable pub ancestor : State → ℕ → ℕ → ℕ
  ancestor s zero j = j
  ancestor s (suc d) j = ancestor s d (parent C s j)

  -- table j lies d levels under table c: the ledger leads from j to c in d steps
  pub record Under (s : State) (c d j : ℕ) : Type 0 where
    pub used : Used s j
    pub deep : level_in C s j ≡ level_in C s c + d
    pub leads : ancestor s d j ≡ c

  -- neither c itself nor under it
  abbrev pub NotUnder : State → ℕ → ℕ → Type 0
  NotUnder s c j = (d : ℕ) → ¬ (Under s c d j)

  -- table k has `depth` levels below its own
  abbrev pub LevelsLeft : State → ℕ → ℕ → Type 0
  LevelsLeft s k depth = level_in C s k + depth ≡ 3

module _ (C : Codec) (s : State) where
  pub up_suc : (d j : ℕ) → ancestor C s (suc d) j ≡ parent C s (ancestor C s d j)
  unfolding ancestor
  up_suc zero j = refl
  up_suc (suc d) j = up_suc d (parent C s j)

  up-add : (a b j : ℕ) → ancestor C s (a + b) j ≡ ancestor C s b (ancestor C s a j)
  unfolding ancestor
  up-add a zero j = ap (λ (d : ℕ). ancestor C s d j) (add-zero a)
  up-add a (suc b) j =
      let e : a + suc b ≡ suc (a + b) = omega arith in
      ap (λ (d : ℕ). ancestor C s d j) e ∙ up_suc (a + b) j ∙ ap (parent C s) (up-add a b j) ∙ sym (up_suc b (ancestor C s a j))

module _ {C : Codec} {s : State} where
  pub under_self : {c : ℕ} → Used s c → Under C s c 0 c
  unfolding ancestor
  under_self {c} used = record { used = used; deep = sym (add-zero (level_in C s c)); leads = refl }

  pub under-zero : {c j : ℕ} → Under C s c 0 j → j ≡ c
  unfolding ancestor
  under-zero under = under.leads

  -- SEPARATION: of one level, only one table is over j
  pub under_one : {c c' d d' j : ℕ} → level_in C s c ≡ level_in C s c' → Under C s c d j → Under C s c' d' j → c ≡ c'
  under_one {c} {c'} {d} {d'} {j} level under under' =
      let same : d ≡ d' = omega (arith, under.deep, under'.deep) in
      sym under.leads ∙ ap (λ (m : ℕ). ancestor C s m j) same ∙ under'.leads

  -- of two tables over j the higher is over the lower
  under_chain : {c e x m j : ℕ} → Used s e → Under C s c (m + x) j → Under C s e m j → Under C s c x e
  under_chain {c} {e} {x} {m} {j} used under under' = record {
    used = used;
    deep = omega (arith, under.deep, under'.deep);
    leads = ap (ancestor C s x) (sym under'.leads) ∙ sym (up-add C s m x j) ∙ under.leads;
  }

  -- of two tables over j one is over the other
  pub under_either : {c e d m j : ℕ} → Used s c → Used s e → Under C s c d j → Under C s e m j
      → ((x : ℕ) × Under C s c x e) ⊎ ((x : ℕ) × Under C s e x c)
  under_either {c} {e} {d} {m} {j} used used' under under' = go (le_or d m)
    where
      go : (d ≤ m) ⊎ (m < d) → ((x : ℕ) × Under C s c x e) ⊎ ((x : ℕ) × Under C s e x c)
      go (inl h) = inr (m - d, under_chain used (subst (λ (x : ℕ). Under C s e x j) (omega arith) under') under)
      go (inr h) = inl (d - m, under_chain used' (subst (λ (x : ℕ). Under C s c x j) (omega arith) under) under')

  -- SEPARATION: what lies under one of two tables, neither of which is over the other, does not lie under the other
  pub under_apart : {c e d j : ℕ} → Used s c → Used s e → NotUnder C s c e → NotUnder C s e c → Under C s c d j → NotUnder C s e j
  under_apart {c} {e} used used' off off' under m under' = go (under_either used used' under under')
    where
      go : ((x : ℕ) × Under C s c x e) ⊎ ((x : ℕ) × Under C s e x c) → ⊥
      go (inl at) = off at.0 at.1
      go (inr at) = off' at.0 at.1

module _ (C : Codec) where
  -- the table over j that a slot of k refers to
  pub record Via (s : State) (k j : ℕ) : Type 0 where
    pub slot : ℕ
    pub top : ℕ
    pub deep : ℕ
    pub refers : Refers C s k slot top
    pub under : Under C s top deep j

module _ {C : Codec} {s : State} where
  -- does j lie under c? One number of steps is possible, so one comparison decides it.
  pub under-or : (c j : ℕ) → ((d : ℕ) × Under C s c d j) ⊎ NotUnder C s c j
  under-or c j = go (eq_or (s.ledger j) 0) (eq_or (level_in C s c + steps) (level_in C s j)) (eq_or (ancestor C s steps j) c)
    where
      steps : ℕ
      steps = level_in C s j - level_in C s c

      go : (s.ledger j ≡ 0) ⊎ (s.ledger j ≢ 0) → (level_in C s c + steps ≡ level_in C s j) ⊎ (level_in C s c + steps ≢ level_in C s j)
          → (ancestor C s steps j ≡ c) ⊎ (ancestor C s steps j ≢ c) → ((d : ℕ) × Under C s c d j) ⊎ NotUnder C s c j
      go (inl free) level leads = inr (λ d under. omega (arith, under.used, free))
      go (inr used) (inr apart) leads = inr (λ d under. apart (omega (arith, under.deep)))
      go (inr used) (inl level) (inl leads) = inl (steps, record { used = omega (arith, used); deep = sym level; leads = leads })
      go (inr used) (inl level) (inr apart) =
          inr (λ d under. let same : steps ≡ d = omega (arith, under.deep) in apart (ap (λ (m : ℕ). ancestor C s m j) same ∙ under.leads))
