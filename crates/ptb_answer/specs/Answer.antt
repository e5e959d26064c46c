-- What a caller outside sees of an answer: the number that is returned, and the four numbers of `answer` after the call.
use Rattle.std.specs.Prelude.{List, [], ◌∷◌, ◌≡◌, refl, ℕ, set}
use Rattle.pool.specs.Refuse.{number, carried}
use Rattle.pool.specs.declared.Refusal.{Refusal}
use Rattle.look_up.specs.Call.{LookUpAnswer, returned, values, found_values}
use Rattle.modify.specs.Call.{ModifyAnswer}
use Rattle.modify.specs.declared.Modified.{Modified}
use Rattle.modify.specs.declared.Modified.TheVariants.{Tables, Live}
use Rattle.std.specs.Prelude.{Result, Err, Ok}
use Rattle.pool.specs.Refuse.{Counted}
use Rattle.list.specs.Call.{Listed}
use Rattle.pool.specs.Refuse.{Outcome}

-- the number that is returned, and `answer` as the call leaves it
pub record Slip : Type 0 where
  pub number : ℕ
  pub answer : List ℕ

abbrev pub slip : ℕ → List ℕ → Slip
slip n a = record { number = n; answer = a }

-- values over the front of what stood in `answer`, whose rest is untouched
unfoldable pub over_front : List ℕ → List ℕ → List ℕ
over_front [] old = old
over_front (value ∷ values) [] = []
over_front (value ∷ values) (x ∷ old) = value ∷ over_front values old

-- accepted: 0, and the call's values
unfoldable pub accepted : List ℕ → List ℕ → Slip
accepted values old = slip 0 (over_front values old)

-- refused: the refusal's number, and what it carries (document 01, "The refusal slip")
unfoldable pub told_refusal : Refusal → List ℕ → Slip
told_refusal r old = slip (number r) (over_front (carried r) old)

-- an answer: accepted with the values that `values` gives, or refused
unfoldable pub told_by : {V : Type 0} → (V → List ℕ) → Result V Refusal → List ℕ → Slip
told_by values (Ok v) old = accepted (values v) old
told_by values (Err r) old = told_refusal r old

-- a call that has nothing more to say than that it was done
unfoldable pub told : Outcome → List ℕ → Slip
told outcome old = told_by (λ done. []) outcome old

-- a call that counts the tables in use
unfoldable pub told_counted : Counted → List ℕ → Slip
told_counted counted old = told_by (λ tables. tables ∷ []) counted old

-- look up: the number and the values of its answer
unfoldable pub told_looked : LookUpAnswer → List ℕ → Slip
told_looked looked old = slip (returned looked) (over_front (values looked) old)

-- list: the count of lines
unfoldable pub told_listed : Listed → List ℕ → Slip
told_listed listed old = told_by (λ lines. lines ∷ []) listed old

-- modify: the tables in use and, live, the count of numbers
abbrev pub modified_values : Modified → List ℕ
modified_values (Tables tables) = tables ∷ []
modified_values (Live tables numbers) = tables ∷ numbers ∷ []

unfoldable pub told_modified : ModifyAnswer → List ℕ → Slip
told_modified modified old = told_by modified_values modified old

-- ---- laws: what is told of a look up

pub told_looked_is : (looked : LookUpAnswer) (old : List ℕ) → told_by found_values looked old ≡ told_looked looked old
unfolding told_by told_looked accepted told_refusal
told_looked_is (Ok found) old = refl
told_looked_is (Err r) old = refl

-- ---- laws: values stored one by one

pub over-one : (old : List ℕ) (a : ℕ) → set old 0 a ≡ over_front (a ∷ []) old
unfolding over_front
over-one [] a = refl
over-one (x ∷ old) a = refl

pub over_two : (old : List ℕ) (a b : ℕ) → set (set old 0 a) 1 b ≡ over_front (a ∷ b ∷ []) old
unfolding over_front
over_two [] a b = refl
over_two (x ∷ []) a b = refl
over_two (x ∷ y ∷ old) a b = refl

pub over_four : (old : List ℕ) (a b c d : ℕ) → set (set (set (set old 0 a) 1 b) 2 c) 3 d ≡ over_front (a ∷ b ∷ c ∷ d ∷ []) old
unfolding over_front
over_four [] a b c d = refl
over_four (x ∷ []) a b c d = refl
over_four (x ∷ y ∷ []) a b c d = refl
over_four (x ∷ y ∷ z ∷ []) a b c d = refl
over_four (x ∷ y ∷ z ∷ w ∷ old) a b c d = refl
