-- Ledger numbers, written and read; the lowest free table, and what goes on in a table that was found; how many are used
-- and free (document 01, "Pool and ledger").
use Rattle.std.specs.Prelude.{◌≡◌, refl, List, [], ◌∷◌, ℕ, zero, suc, ◌+◌, ◌*◌, ◌-◌, ◌/◌, ◌%◌, ◌≤◌, ◌<◌, length, get_or, drop}
use Rattle.std.proofs.Common.{add-one, drop_of_length-le, drop-cons}
use native.Mathlib.Omega.{arith}
use Rattle.std.specs.Prelude.{None, Option, Some}

-- a ledger number: 0 is free, the root holds 4 + level
unfoldable pub root_number : ℕ → ℕ
root_number level = 4 + level

-- a ledger number: a table that is not the root holds 4 + level + 8·(512·p + i + 1), where slot i of table p refers to it
unfoldable pub number_of : ℕ → ℕ → ℕ → ℕ
number_of p level i = 4 + level + 8 * (512 * p + i + 1)

-- a ledger number read back: the level, the table and the slot that the number names
abbrev pub level_of : ℕ → ℕ
level_of x = x % 4

abbrev pub parent_of : ℕ → ℕ
parent_of x = (x / 8 - 1) / 512

abbrev pub slot_of : ℕ → ℕ
slot_of x = (x / 8 - 1) % 512

-- a number that names a slot at all: 4 + level below 8, and at least one 8
pub record Names (x : ℕ) : Type 0 where
  pub kind : 4 ≤ x % 8
  pub some : 1 ≤ x / 8

pub level_back : (p level i : ℕ) → level < 4 → level_of (number_of p level i) ≡ level
unfolding number_of
level_back p level i low = omega arith

module _ (p level i : ℕ) (low : level < 4) (slot : i < 512) where
  pub parent_back : parent_of (number_of p level i) ≡ p
  unfolding number_of
  parent_back = omega arith

  pub slot_back : slot_of (number_of p level i) ≡ i
  unfolding number_of
  slot_back = omega arith

  pub number_names : Names (number_of p level i)
  unfolding number_of
  number_names = omega arith

-- a number that names a slot is that slot's number
pub number-whole : (x : ℕ) → Names x → x ≡ number_of (parent_of x) (level_of x) (slot_of x)
unfolding number_of
number-whole x names = omega arith

-- ---- the lowest free table: the first 0 of the ledger

unfoldable pub first_from : ℕ → List ℕ → Option ℕ
first_from i [] = None
first_from i (zero ∷ l) = Some i
first_from i (suc x ∷ l) = first_from (suc i) l

unfoldable pub lowest_free : List ℕ → Option ℕ
lowest_free l = first_from 0 l

-- `rec` goes on in the table that was found; where none was found, nothing is done
unfoldable pub in_found {ℓ} : {S : Type ℓ} → (ℕ → S → S) → Option ℕ → S → S
in_found rec (Some j) s = rec j s
in_found rec None s = s

pub first_done : (l : List ℕ) (i : ℕ) → length l ≤ i → first_from i (drop i l) ≡ None
unfolding first_from
first_done l i h = rw (drop_of_length-le l h)

pub first_hit : (l : List ℕ) (i : ℕ) → i < length l → get_or l i 0 ≡ 0 → first_from i (drop i l) ≡ Some i
unfolding first_from
first_hit l i h e = rw (drop-cons l i 0 h, e)

first_skip : (i x : ℕ) (l : List ℕ) → (x ≡ 0 → ⊥) → first_from i (x ∷ l) ≡ first_from (suc i) l
unfolding first_from
first_skip i zero l n = absurd (n refl)
first_skip i (suc x) l n = refl

pub first_miss : (l : List ℕ) (i : ℕ) → i < length l → (get_or l i 0 ≡ 0 → ⊥)
    → first_from i (drop i l) ≡ first_from (i + 1) (drop (i + 1) l)
first_miss l i h n = rw (drop-cons l i 0 h, add-one) (first_skip i (get_or l i 0) (drop (suc i) l) n)

-- what is found is free, below n, and no lower table is free
pub record LowestFree (l : List ℕ) (j : ℕ) : Type 0 where
  pub inside : j < length l
  pub free : get_or l j 0 ≡ 0
  pub lower : (k : ℕ) → k < j → 0 < get_or l k 0

first_lowest : (i : ℕ) (l : List ℕ) (j : ℕ) → first_from i l ≡ Some j → (i ≤ j) × LowestFree l (j - i)
unfolding first_from
first_lowest i [] j e = let z : ◌≡◌ {A = ℕ} 0 1 = cc in absurd (omega arith)
first_lowest i (zero ∷ l) j e =
    let q : i ≡ j = cc in
    let z : j - i ≡ 0 = omega arith in
    (omega arith, rw z (record { inside = omega arith; free = refl; lower = λ k h. absurd (omega arith) }))
first_lowest i (suc x ∷ l) j e =
    let r = first_lowest (suc i) l j e in
    let z : j - i ≡ suc (j - suc i) = omega (arith, r.0) in (
      omega (arith, r.0),
      rw z
          (record { inside = omega (arith, r.1.inside); free = r.1.free; lower = below (j - suc i) r.1.lower }),
    )
  where
    below : (m : ℕ) → ((k : ℕ) → k < m → 0 < get_or l k 0) → (k : ℕ) → k < suc m → 0 < get_or (suc x ∷ l) k 0
    below m h zero q = omega arith
    below m h (suc k) q = h k (omega arith)

pub lowest_found : (l : List ℕ) (j : ℕ) → lowest_free l ≡ Some j → LowestFree l j
unfolding lowest_free
lowest_found l j e = let z : j - 0 ≡ j = omega arith in rw z at (first_lowest 0 l j e).1

-- ---- counts off the ledger

unfoldable pub used : List ℕ → ℕ
used [] = 0
used (zero ∷ l) = used l
used (suc x ∷ l) = suc (used l)

unfoldable pub free : List ℕ → ℕ
free [] = 0
free (zero ∷ l) = suc (free l)
free (suc x ∷ l) = free l

pub used-free : (l : List ℕ) → used l + free l ≡ length l
unfolding used free
used-free [] = refl
used-free (zero ∷ l) = let r = used-free l in omega arith
used-free (suc x ∷ l) = let r = used-free l in omega arith

used_cons : (x : ℕ) (l : List ℕ) → (x ≡ 0 → ⊥) → used (x ∷ l) ≡ suc (used l)
unfolding used
used_cons zero l n = absurd (n refl)
used_cons (suc x) l n = refl

-- by what remains, for a loop that counts
pub used_hit : (l : List ℕ) (i : ℕ) → i < length l → (get_or l i 0 ≡ 0 → ⊥) → used (drop i l) ≡ suc (used (drop (i + 1) l))
used_hit l i h n = rw (add-one, drop-cons l i 0 h) (used_cons (get_or l i 0) (drop (suc i) l) n)

pub used_miss : (l : List ℕ) (i : ℕ) → i < length l → get_or l i 0 ≡ 0 → used (drop i l) ≡ used (drop (i + 1) l)
unfolding used
used_miss l i h e = rw (add-one, drop-cons l i 0 h, e)

pub used_end : (l : List ℕ) (i : ℕ) → length l ≤ i → used (drop i l) ≡ 0
unfolding used
used_end l i h = rw (drop_of_length-le l h)
