-- Numbers put into a lent list one after the other: not live, nothing changes; live and with room, they stand after those before, and the
-- rest of the list stays.
use Rattle.std.specs.Prelude.{◌≡◌, refl, Bool, true, false, List, [], ◌∷◌, ◌++◌, ℕ, suc, ◌+◌, ◌≤◌, length, set, drop}
use Rattle.std.proofs.Common.{sym, ap, ◌∙◌, arith, length-set}
use Rattle.std.proofs.lemmas.List.Edits.{sets, sets-eq}
use Rattle.modify_entry.specs.Own.{Numbered, numbered, put_number, number_off, number_put}

unfoldable pub put_all : Bool → List ℕ → Numbered → Numbered
put_all live [] n = n
put_all live (x ∷ xs) n = put_all live xs (put_number live x n.count n.list)

pub put_none : (live : Bool) (n : Numbered) → put_all live [] n ≡ n
unfolding put_all
put_none live n = refl

pub put_one : (live : Bool) (x : ℕ) (n : Numbered) → put_all live (x ∷ []) n ≡ put_number live x n.count n.list
unfolding put_all
put_one live x n = refl

pub put-append : (live : Bool) (xs ys : List ℕ) (n : Numbered) → put_all live (xs ++ ys) n ≡ put_all live ys (put_all live xs n)
unfolding put_all
put-append live [] ys n = refl
put-append live (x ∷ xs) ys n = put-append live xs ys (put_number live x n.count n.list)

-- "not live, the list stays untouched"
pub put_off : (xs : List ℕ) (n : Numbered) → put_all false xs n ≡ n
unfolding put_all
put_off [] n = refl
put_off (x ∷ xs) n = ap (put_all false xs) (sym (number_off x n.count n.list false refl)) ∙ put_off xs n

put_on : (xs : List ℕ) (n : ℕ) (l : List ℕ) → n + length xs ≤ length l
    → put_all true xs (numbered n l) ≡ numbered (n + length xs) (sets l n xs)
unfolding put_all
put_on [] n l h = ap (λ (k : ℕ). numbered k l) (let e : n ≡ n + 0 = omega arith in e)
put_on (x ∷ xs) n l h =
    let long = length-set l n x in
    let next : n + 1 ≡ suc n = omega arith in
    let all : suc n + length xs ≡ n + suc (length xs) = omega arith in
    ap (put_all true xs) (sym (number_put x n l true refl (omega arith)) ∙ ap (λ (k : ℕ). numbered k (set l n x)) next)
    ∙ put_on xs (suc n) (set l n x) (omega arith)
    ∙ ap (λ (k : ℕ). numbered k (sets (set l n x) (suc n) xs)) all

-- in a list that holds none yet: the numbers, and then the rest of the list
pub put_live : (xs l : List ℕ) → length xs ≤ length l → put_all true xs (numbered 0 l) ≡ numbered (length xs) (xs ++ drop (length xs) l)
put_live xs l h =
    let none : 0 + length xs ≡ length xs = omega arith in
    put_on xs 0 l (omega arith)
    ∙ ap (λ (k : ℕ). numbered k (sets l 0 xs)) none
    ∙ ap (numbered (length xs)) (sets-eq xs l 0 (omega arith) ∙ ap (λ (k : ℕ). xs ++ drop k l) none)
