-- A part of a list that was lent and has come back: what a callee says of the part, said of the whole.
use Rattle.std.specs.Prelude.{◌≡◌, refl, List, [], ◌∷◌, ◌++◌, ℕ, zero, suc, ◌+◌, ◌-◌, ◌≤◌, ◌<◌, length, get_or, set, take, drop, replicate}
use Rattle.std.proofs.Common.{sym, ap, ◌∙◌, append-nil, add-one, arith, length-append}
use Rattle.std.proofs.Common.{length-take, length-drop, drop_of_length-le, get_or-take, get_or-drop, get_or-append-add, length-take-le, take_all}
use Rattle.std.proofs.Math.ListN.{get_or-append}
use Rattle.std.proofs.Math.Seq.{drop-length}
use borrow.Rule.Slice.PartMut.{put_mid, mid_of, Post-is, mid_len}

-- the list l with the list p in the place of its elements from a on
unfoldable pub put_part {ℓ} : {A : Type ℓ} → ℕ → List A → List A → List A
put_part a p l = take a l ++ (p ++ drop (a + length p) l)

-- the elements of l from a on, k of them
abbrev pub part_of {ℓ} : {A : Type ℓ} → ℕ → ℕ → List A → List A
part_of a k l = take k (drop a l)

pub length-put {ℓ} : {A : Type ℓ} (a : ℕ) (p l : List A) → a + length p ≤ length l → length (put_part a p l) ≡ length l
unfolding put_part
length-put a p l h = simp (length-append, length-take, length-drop) (omega arith)

pub length_part {ℓ} : {A : Type ℓ} (a k : ℕ) (l : List A) → a + k ≤ length l → length (part_of a k l) ≡ k
length_part a k l h = simp (length-take, length-drop) (omega arith)

-- what a mutable part leaves when it comes back
pub part_back : {A : Type 0} (a e : ℕ) (l p : List A) → a ≤ e → length p ≡ e - a → put_mid a (e - a) l p ≡ put_part a p l
unfolding put_part
part_back {A = A} a e l p h k =
    ap (λ (t : List A). take a l ++ (p ++ t)) (Post-is a e l h ∙ ap (λ (x : ℕ). drop x l) (let q : e ≡ a + length p = omega arith in q))

pub part_length : {A : Type 0} (a e : ℕ) (l : List A) → e ≤ length l → length (mid_of a (e - a) l) ≡ e - a
part_length a e l h = mid_len a e l h

-- ---- element by element

pub put_before {ℓ} : {A : Type ℓ} (a : ℕ) (p l : List A) (j : ℕ) (d : A) → a ≤ length l → j < a → get_or (put_part a p l) j d ≡ get_or l j d
unfolding put_part
put_before a p l j d h k =
    get_or-append (take a l) (p ++ drop (a + length p) l) d j (let q = length-take-le a l h in omega arith) ∙ get_or-take a l j d k

pub put_inside {ℓ} : {A : Type ℓ} (a : ℕ) (p l : List A) (i : ℕ) (d : A) → a ≤ length l → i < length p
    → get_or (put_part a p l) (a + i) d ≡ get_or p i d
unfolding put_part
put_inside a p l i d h k =
    ap (λ (x : ℕ). get_or (take a l ++ (p ++ drop (a + length p) l)) (x + i) d) (sym (length-take-le a l h))
    ∙ get_or-append-add (take a l) (p ++ drop (a + length p) l) i d
    ∙ get_or-append p (drop (a + length p) l) d i k

pub put-after {ℓ} : {A : Type ℓ} (a : ℕ) (p l : List A) (j : ℕ) (d : A) → a ≤ length l → a + length p ≤ j
    → get_or (put_part a p l) j d ≡ get_or l j d
unfolding put_part
put-after a p l j d h k =
    let m : ℕ = j - (a + length p) in
    let q : j ≡ a + (length p + m) = omega arith in
    ap (λ (x : ℕ). get_or (take a l ++ (p ++ drop (a + length p) l)) x d) q
    ∙ ap (λ (x : ℕ). get_or (take a l ++ (p ++ drop (a + length p) l)) (x + (length p + m)) d) (sym (length-take-le a l h))
    ∙ get_or-append-add (take a l) (p ++ drop (a + length p) l) (length p + m) d
    ∙ get_or-append-add p (drop (a + length p) l) m d
    ∙ get_or-drop (a + length p) l m d
    ∙ ap (λ (x : ℕ). get_or l x d) (let r : a + length p + m ≡ j = omega arith in r)

-- ---- a loop that writes a list from the front, one store a turn: after i turns it is `take i s ++ drop i d`

write_suc {ℓ} : {A : Type ℓ} (d s : List A) (i : ℕ) (z : A) → i < length d → i < length s
    → set (take i s ++ drop i d) i (get_or s i z) ≡ take (suc i) s ++ drop (suc i) d
write_suc [] s i z h k = absurd (omega arith)
write_suc (x ∷ d) [] i z h k = absurd (omega arith)
write_suc (x ∷ d) (y ∷ s) zero z h k = refl
write_suc (x ∷ d) (y ∷ s) (suc i) z h k = ap (λ t. y ∷ t) (write_suc d s i z (omega arith) (omega arith))

pub write_more {ℓ} : {A : Type ℓ} (d s : List A) (i : ℕ) (z : A) → i < length d → i < length s
    → set (take i s ++ drop i d) i (get_or s i z) ≡ take (i + 1) s ++ drop (i + 1) d
write_more d s i z h k = rw add-one (write_suc d s i z h k)

-- all is written
pub write_all {ℓ} : {A : Type ℓ} (d s : List A) (i : ℕ) → length d ≤ i → length s ≤ i → take i s ++ drop i d ≡ s
write_all d s i h k = rw (take_all i s k, drop_of_length-le d h, append-nil)

-- a loop that zeroes a list from the front has zeroed all
pub zeroed : (l : List ℕ) (i : ℕ) → i ≡ length l → replicate i 0 ++ drop i l ≡ replicate (length l) 0
zeroed l i e = rw (e, drop-length, append-nil)
