-- The house rule bit by bit (document 01, "Putting down a map", Modify): `may_change` of modify_survey allows a change exactly if no bit
-- outside "0, 7, 10, 11, 51, 53, 54 and 55 to 58" differs.
use Rattle.std.specs.Prelude.{◌≡◌, refl, Bool, true, false, ◌&&◌, ◌||◌, ◌⊎◌, ◌≢◌, eqb, leb}
use Rattle.std.proofs.Common.{sym, ◌∙◌, inl, inr, pow-suc, mul_comm, arith}
use Rattle.std.proofs.Math.Path.{ap}
use Prim.Native.Nat.{ℕ, zero, suc, ◌/◌, ◌%◌, ◌^◌, ◌<◌, min}
use Rattle.std.proofs.Math.Nat.{div-div-eq-div-mul}
use Rattle.std.proofs.Math.Arith.{bin_ind, digits_mod}
use Rattle.std.specs.Int.Bits.{bit_and, bit_xor, differ, and_step, xor_step, and_zero_l}
use Rattle.std.proofs.lemmas.Nat.{and_shr, xor_shr}
use Rattle.std.proofs.Math.Dec.{eqb→eq}
use Rattle.std.proofs.lemmas.Bool.{eqb-false}
use Rattle.laws.specs.Bit.{and_odd}
use Rattle.laws.specs.Test.{eq_or}
use Rattle.entry.specs.Word.{only}
use Rattle.pool.specs.declared.Handle.{Handle}
use Rattle.modify_survey.specs.House.{house_rule, may_change}

-- bit i of a word
abbrev pub bit : ℕ → ℕ → ℕ
bit i w = w / 2 ^ i % 2

-- "bits 0 (clearing), 7, 10, 11, 51, 53, 54 and 55 to 58"
unfoldable pub house_bit : ℕ → Bool
house_bit i = eqb i 0 || (eqb i 7 || (eqb i 10 || (eqb i 11 || (eqb i 51 || (eqb i 53 || (eqb i 54 || (leb 55 i && leb i 58)))))))

-- ---- digits

differ_two : (x y : ℕ) → x < 2 → y < 2 → differ x y < 2
differ_two zero y a b = b
differ_two (suc zero) zero a b = a
differ_two (suc zero) (suc zero) a b = omega arith
differ_two (suc zero) (suc (suc y)) a b = absurd (omega arith)
differ_two (suc (suc x)) y a b = absurd (omega arith)

differ_same : (x y : ℕ) → x < 2 → y < 2 → differ x y ≡ 0 → x ≡ y
differ_same zero y a b e = sym e
differ_same (suc zero) zero a b e = e
differ_same (suc zero) (suc zero) a b e = refl
differ_same (suc zero) (suc (suc y)) a b e = absurd (omega arith)
differ_same (suc (suc x)) y a b e = absurd (omega arith)

differ_self : (x : ℕ) → x < 2 → differ x x ≡ 0
differ_self zero a = refl
differ_self (suc zero) a = refl
differ_self (suc (suc x)) a = absurd (omega arith)

and-bit : (a b i : ℕ) → bit i (bit_and a b) ≡ min (bit i a) (bit i b)
and-bit a b i = ap (λ (x : ℕ). x % 2) (and_shr a b i) ∙ and_odd (a / 2 ^ i) (b / 2 ^ i)

xor_odd : (a b : ℕ) → bit_xor a b % 2 ≡ differ (a % 2) (b % 2)
xor_odd a b =
    ap (λ (x : ℕ). x % 2) (xor_step a b) ∙ digits_mod (bit_xor (a / 2) (b / 2)) (differ_two (a % 2) (b % 2) (omega arith) (omega arith))

xor-bit : (a b i : ℕ) → bit i (bit_xor a b) ≡ differ (bit i a) (bit i b)
xor-bit a b i = ap (λ (x : ℕ). x % 2) (xor_shr a b i) ∙ xor_odd (a / 2 ^ i) (b / 2 ^ i)

half_bit : (n i : ℕ) → bit i (n / 2) ≡ bit (suc i) n
half_bit n i = ap (λ (x : ℕ). x % 2) (div-div-eq-div-mul n 2 (2 ^ i) ∙ ap (λ (x : ℕ). n / x) (mul_comm 2 (2 ^ i) ∙ sym (pow-suc 2 i)))

-- a number that has a bit which the mask lacks
record Lacks (f m : ℕ) : Type 0 where
  place : ℕ
  set : bit place f ≡ 1
  clear : bit place m ≡ 0

lacks : (f m : ℕ) → bit_and f m ≢ f → Lacks f m
lacks = bin_ind (λ (n : ℕ). (m : ℕ) → bit_and n m ≢ n → Lacks n m) (λ m other. absurd (other (and_zero_l m)))
    (λ n below m other. step n m other (below (m / 2)) (eq_or (bit_and (n / 2) (m / 2)) (n / 2)))
  where
    low : (n m : ℕ) → min (n % 2) (m % 2) ≢ n % 2 → Lacks n m
    low n m other = record { place = 0; set = omega arith; clear = omega arith }

    step : (n m : ℕ) → bit_and n m ≢ n → (bit_and (n / 2) (m / 2) ≢ n / 2 → Lacks (n / 2) (m / 2))
        → (bit_and (n / 2) (m / 2) ≡ n / 2) ⊎ (bit_and (n / 2) (m / 2) ≢ n / 2) → Lacks n m
    step n m other below (inl same) = low n m (λ e. other (let s = and_step n m in omega arith))
    step n m other below (inr more) =
        let l = below more in
        record { place = suc l.place; set = sym (half_bit n l.place) ∙ l.set; clear = sym (half_bit m l.place) ∙ l.clear }

-- ---- the change

module _ (h : Handle) (old new : ℕ) where
  -- what is allowed changes no bit outside the mask;
  pub may_same : may_change h old new ≡ true → (i : ℕ) → bit i (house_rule h) ≡ 0 → bit i old ≡ bit i new
  unfolding may_change only
  may_same may i out =
      let f : ℕ = bit_xor old new in
      let inside : bit_and f (house_rule h) ≡ f = eqb→eq (bit_and f (house_rule h)) f (rw may tt) in
      let b : bit i f ≡ min (bit i f) (bit i (house_rule h)) = ap (bit i) (sym inside) ∙ and-bit f (house_rule h) i in
      let z : bit i f ≡ 0 = omega (arith, b, out) in
      differ_same (bit i old) (bit i new) (omega arith) (omega arith) (sym (xor-bit old new i) ∙ z)

  -- what is not allowed changes one
  pub not_differs : may_change h old new ≡ false → (i : ℕ) × (bit i (house_rule h) ≡ 0) × (bit i old ≢ bit i new)
  unfolding may_change only
  not_differs bits =
      let f : ℕ = bit_xor old new in
      let l = lacks f (house_rule h) (eqb-false (bit_and f (house_rule h)) f bits) in (
        l.place,
        l.clear,
        λ same.
            let z : bit l.place f ≡ 0 =
            xor-bit old new l.place ∙ ap (λ (x : ℕ). differ x (bit l.place new)) same
            ∙ differ_self (bit l.place new) (omega arith) in
            omega (arith, z, l.set),
      )
