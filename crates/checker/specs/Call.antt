-- The pool check as a whole: answer for every input, refusals first and in their order. It only reads.
use Rattle.std.specs.Prelude.{◌≡◌, refl, true, false, cond, ℕ}
use Rattle.std.proofs.Common.{sym, ◌∙◌, arith}
use Rattle.laws.specs.Test.{by_bool}
use Rattle.pool.specs.State.{St}
use Rattle.pool.specs.Number.{used}
use Rattle.pool.specs.Refuse.{shaped, granted}
use Rattle.pool.specs.Sound.{soundb}
use Rattle.pool.specs.declared.Handle.{Handle}
use Rattle.pool.specs.declared.Refusal.TheVariants.{Shape, Unsound}
use Rattle.std.specs.Prelude.{Err, None, Option, Some}
use Rattle.pool.specs.Refuse.{Outcome}

-- refusals 1, 8
unfoldable pub check_call : Handle → St → Outcome
check_call h s = cond (shaped h s) (cond (soundb h s) granted (Err Unsound)) (Err Shape)

-- the tables in use, where the pool is sound
unfoldable pub sound_count : Handle → St → Option ℕ
sound_count h s = cond (soundb h s) (Some (used s.ledger)) None

-- ---- laws: one for each way through the code

module _ (h : Handle) (s : St) where
  pub count_none : soundb h s ≡ false → None ≡ sound_count h s
  unfolding sound_count
  count_none e = rw e

  pub count_some : {n : ℕ} → n ≡ used s.ledger → soundb h s ≡ true → Some n ≡ sound_count h s
  unfolding sound_count
  count_some q e = rw (e, q)

  -- read back
  module _ {x : Option ℕ} (is : x ≡ sound_count h s) where
    pub count_unsound : x ≡ None → soundb h s ≡ false
    count_unsound e =
        by_bool (soundb h s)
        (λ holds. absurd
        (let q : Some (used s.ledger) ≡ None = count_some refl holds ∙ sym is ∙ e in let z : ◌≡◌ {A = ℕ} 0 1 = cc in
        omega arith))
        (λ fails. fails)

    pub count_sound : (n : ℕ) → x ≡ Some n → (soundb h s ≡ true) × (n ≡ used s.ledger)
    count_sound n e =
        by_bool (soundb h s)
        (λ holds. (holds, let q : Some n ≡ Some (used s.ledger) = sym e ∙ is ∙ sym (count_some refl holds) in cc))
        (λ fails. absurd (let q : Some n ≡ None = sym e ∙ is ∙ sym (count_none fails) in let z : ◌≡◌ {A = ℕ} 0 1 = cc in omega arith))

pub check_misshaped : (h : Handle) (s : St) → shaped h s ≡ false → Err Shape ≡ check_call h s
unfolding check_call
check_misshaped h s e = rw e

pub check_unsound : (h : Handle) (s : St) → shaped h s ≡ true → soundb h s ≡ false → Err Unsound ≡ check_call h s
unfolding check_call
check_unsound h s e q = rw (e, q)

pub check_sound : (h : Handle) (s : St) → shaped h s ≡ true → soundb h s ≡ true → granted ≡ check_call h s
unfolding check_call
check_sound h s e q = rw (e, q)
