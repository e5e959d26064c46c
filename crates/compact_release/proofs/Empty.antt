-- The words of a table are all 0 where each of them is.
use Rattle.std.specs.Prelude.{◌≡◌, refl, ◌↔◌, IsTrue, Bool, true, false, List, [], ◌∷◌, ℕ, zero, suc, EachIndex, slice_index}
use Rattle.std.proofs.Common.{sym, ◌∙◌, arith}
use Rattle.laws.specs.Test.{is_true, is_false}
use Rattle.compact_spec.specs.Compact.{all_zero, zero_some}

each : (words : List ℕ) → all_zero words ≡ true → EachIndex words (λ k. slice_index words k ≡ 0)
unfolding all_zero
each [] t i h = absurd (omega arith)
each (zero ∷ words) t zero h = refl
each (zero ∷ words) t (suc i) h = each words t i (omega arith)
each (suc word ∷ words) t i h =
    absurd (let no_zero : false ≡ true = zero_some (suc word ∷ words) 0 (omega arith) (λ e. omega arith) ∙ t in cc)

all : (words : List ℕ) → EachIndex words (λ k. slice_index words k ≡ 0) → all_zero words ≡ true
unfolding all_zero
all [] e = refl
all (zero ∷ words) e = all words (λ i h. e (suc i) (omega arith))
all (suc word ∷ words) e = absurd (let here : suc word ≡ 0 = e 0 (omega arith) in omega arith)

pub all_is : (words : List ℕ) (answer : Bool) → (IsTrue answer ↔ EachIndex words (λ k. slice_index words k ≡ 0)) → answer ≡ all_zero words
all_is words true says = sym (all words (says.0 refl))
all_is words false says =
    sym (is_false (all_zero words) (λ t. let none : false ≡ true = says.1 (each words (is_true (all_zero words) t)) in cc))
