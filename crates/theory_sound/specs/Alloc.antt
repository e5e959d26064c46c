-- Counts off the ledger when a table is taken, the count as a sum, and when a free table is found.
use Rattle.std.specs.Prelude.{◌≡◌, refl, cond, List, [], ◌∷◌, ℕ, zero, suc, ◌<◌, eqb, length, get_or, set, Some}
use Rattle.std.proofs.Common.{ap, arith, length-set}
use Rattle.std.proofs.Math.Dec.{eqb-suc-zero}
use Rattle.laws.specs.Sum.{sum, sum_shift}
use Rattle.pool.specs.Number.{first_from, lowest_free, used, free, used-free}

-- ---- a free table is entered

pub used-take : (l : List ℕ) (j x : ℕ) → j < length l → get_or l j 0 ≡ 0 → 0 < x → used (set l j x) ≡ suc (used l)
unfolding used
used-take [] j x below none some = absurd (omega arith)
used-take (zero ∷ l) zero zero below none some = absurd (omega arith)
used-take (zero ∷ l) zero (suc x) below none some = refl
used-take (suc y ∷ l) zero x below none some = absurd (omega arith)
used-take (zero ∷ l) (suc j) x below none some = used-take l j x (omega arith) none some
used-take (suc y ∷ l) (suc j) x below none some = ap suc (used-take l j x (omega arith) none some)

pub free-take : (l : List ℕ) (j x : ℕ) → j < length l → get_or l j 0 ≡ 0 → 0 < x → suc (free (set l j x)) ≡ free l
free-take l j x below none some =
    let a = used-free l in
    let b = used-free (set l j x) in
    let c = used-take l j x below none some in
    let d = length-set l j x in
    omega arith

-- ---- as a sum over the tables

pub used-sum : (l : List ℕ) → used l ≡ sum (length l) (λ k. cond (eqb (get_or l k 0) 0) 0 1)
unfolding used sum
used-sum [] = refl
used-sum (zero ∷ l) = let r = used-sum l in let e = sum_shift (length l) (λ k. cond (eqb (get_or (zero ∷ l) k 0) 0) 0 1) in omega arith
used-sum (suc x ∷ l) =
    let r = used-sum l in
    let e = sum_shift (length l) (λ k. cond (eqb (get_or (suc x ∷ l) k 0) 0) 0 1) in
    let one : cond {A = ℕ} (eqb (get_or (suc x ∷ l) 0 0) 0) 0 1 ≡ 1 = rw (eqb-suc-zero x) in
    omega arith

-- ---- a free table is found exactly when there is one

first_some : (i : ℕ) (l : List ℕ) → 0 < free l → (j : ℕ) × (first_from i l ≡ Some j)
unfolding first_from free
first_some i [] some = absurd (omega arith)
first_some i (zero ∷ l) some = (i, refl)
first_some i (suc x ∷ l) some = first_some (suc i) l some

pub free_found : (l : List ℕ) → 0 < free l → (j : ℕ) × (lowest_free l ≡ Some j)
unfolding lowest_free
free_found l some = first_some 0 l some
