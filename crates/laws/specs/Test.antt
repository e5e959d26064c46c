-- Tests that compute, and what they say: a case split on a test, `T b` through `&&`, `||` and a choice, "for all below n", "for all words".
use Rattle.std.specs.Prelude.{◌≡◌, refl, Bool, true, false, cond, ◌&&◌, ◌||◌, List, [], ◌∷◌}
use Rattle.std.specs.Prelude.{◌⊎◌, ◌≢◌, ℕ, zero, suc, ◌+◌, ◌≤◌, ◌<◌, T, eqb, length, get_or}
use Rattle.std.proofs.Common.{sym, subst, true≢false, inl, inr, add-one, arith, eqb→eq}
use Rattle.std.proofs.Math.Decide.{dec_le}
use Rattle.std.proofs.Math.Dec.{eqb_refl}

-- ---- case splits

-- a split that hands each case the test's value
pub by_bool {ℓ} : {A : Type ℓ} (b : Bool) → (b ≡ true → A) → (b ≡ false → A) → A
by_bool true f g = f refl
by_bool false f g = g refl

-- the test of two numbers: what holds, and what the test computes to
pub eqb_cases : (a b : ℕ) → ((a ≡ b) × (eqb a b ≡ true)) ⊎ ((a ≢ b) × (eqb a b ≡ false))
eqb_cases a b = by_bool (eqb a b) (λ e. inl (eqb→eq a b (rw e tt), e))
    (λ e. inr ((λ (p : a ≡ b). let t : T (eqb a b) = rw p (eqb_refl b) in rw e at t), e))

pub eq_or : (a b : ℕ) → (a ≡ b) ⊎ (a ≢ b)
eq_or a b = go (eqb_cases a b)
  where
    go : ((a ≡ b) × (eqb a b ≡ true)) ⊎ ((a ≢ b) × (eqb a b ≡ false)) → (a ≡ b) ⊎ (a ≢ b)
    go (inl e) = inl e.0
    go (inr e) = inr e.0

pub le_or : (a b : ℕ) → (a ≤ b) ⊎ (b < a)
le_or a b = go (dec_le a b)
  where
    go : Dec (a ≤ b) → (a ≤ b) ⊎ (b < a)
    go (yes h) = inl h
    go (no h) = inr (omega arith)

-- ---- what a test says

pub and_l : (a b : Bool) → T (a && b) → T a
and_l true b t = tt
and_l false b t = t

pub and_r : (a b : Bool) → T (a && b) → T b
and_r true b t = t
and_r false b t = absurd t

pub and_i : (a b : Bool) → T a → T b → T (a && b)
and_i true b t u = u
and_i false b t u = t

pub both : (a b : Bool) → (a && b) ≡ true → (a ≡ true) × (b ≡ true)
both true b e = (refl, e)
both false b e = absurd (true≢false (sym e))

pub or-e : (a b : Bool) → T (a || b) → T a ⊎ T b
or-e true b t = inl tt
or-e false b t = inr t

pub or_l : (a b : Bool) → T a → T (a || b)
or_l true b t = tt
or_l false b t = absurd t

pub or_r : (a b : Bool) → T b → T (a || b)
or_r true b t = tt
or_r false b t = t

pub cond_true : (c a b : Bool) → T c → T (cond c a b) → T a
cond_true true a b u t = t
cond_true false a b u t = absurd u

pub cond_false : (c a b : Bool) → ¬ (T c) → T (cond c a b) → T b
cond_false true a b u t = absurd (u tt)
cond_false false a b u t = t

pub cond_of : (c a b : Bool) → (T c → T a) → (¬ (T c) → T b) → T (cond c a b)
cond_of true a b u v = u tt
cond_of false a b u v = v (λ t. t)

pub eq→eqb : (a b : ℕ) → a ≡ b → T (eqb a b)
eq→eqb a b e = rw e (eqb_refl b)

-- two tests that hold together are the same test
pub same_test : (a b : Bool) → (T a → T b) → (T b → T a) → a ≡ b
same_test true true f g = refl
same_test true false f g = absurd (f tt)
same_test false true f g = absurd (g tt)
same_test false false f g = refl

pub is_true : (b : Bool) → T b → b ≡ true
is_true true t = refl
is_true false t = absurd t

pub is_false : (b : Bool) → ¬ (T b) → b ≡ false
is_false true n = absurd (n tt)
is_false false n = refl

-- ---- for all k below n

unfoldable pub all_below : ℕ → (ℕ → Bool) → Bool
all_below zero f = true
all_below (suc n) f = f n && all_below n f

pub all_to : (n : ℕ) (f : ℕ → Bool) → T (all_below n f) → (k : ℕ) → k < n → T (f k)
unfolding all_below
all_to zero f t k h = absurd (omega arith)
all_to (suc n) f t k h = go (all_to n f (and_r (f n) (all_below n f) t) k) (eq_or k n)
  where
    go : (k < n → T (f k)) → (k ≡ n) ⊎ (k ≢ n) → T (f k)
    go ih (inl e) = rw e (and_l (f n) (all_below n f) t)
    go ih (inr e) = ih (omega arith)

pub all_of : (n : ℕ) (f : ℕ → Bool) → ((k : ℕ) → k < n → T (f k)) → T (all_below n f)
unfolding all_below
all_of zero f h = tt
all_of (suc n) f h = and_i (f n) (all_below n f) (h n (omega arith)) (all_of n f (λ k l. h k (omega arith)))

-- for a loop that tests one after the other
pub all_none : (f : ℕ → Bool) → T (all_below 0 f)
unfolding all_below
all_none f = tt

pub all_more : (n : ℕ) (f : ℕ → Bool) → T (all_below n f) → T (f n) → T (all_below (n + 1) f)
unfolding all_below
all_more n f a t = rw add-one (and_i (f n) (all_below n f) t a)

pub all_fails : (n : ℕ) (f : ℕ → Bool) (k : ℕ) → k < n → f k ≡ false → all_below n f ≡ false
all_fails n f k h e = is_false (all_below n f) (λ t. rw e at (all_to n f t k h))

-- ---- for all words, with their places: one walk of the list

unfoldable pub all_from : ℕ → List ℕ → (ℕ → ℕ → Bool) → Bool
all_from x [] f = true
all_from x (w ∷ ws) f = f x w && all_from (suc x) ws f

pub from_to : (x : ℕ) (ws : List ℕ) (f : ℕ → ℕ → Bool) → T (all_from x ws f) → (j : ℕ) → j < length ws → T (f (x + j) (get_or ws j 0))
unfolding all_from
from_to x [] f t j h = absurd (omega arith)
from_to x (w ∷ ws) f t zero h = subst (λ (y : ℕ). T (f y w)) (omega arith) (and_l (f x w) (all_from (suc x) ws f) t)
from_to x (w ∷ ws) f t (suc j) h =
    subst (λ (y : ℕ). T (f y (get_or ws j 0))) (omega arith) (from_to (suc x) ws f (and_r (f x w) (all_from (suc x) ws f) t) j (omega arith))

pub from_of : (x : ℕ) (ws : List ℕ) (f : ℕ → ℕ → Bool) → ((j : ℕ) → j < length ws → T (f (x + j) (get_or ws j 0))) → T (all_from x ws f)
unfolding all_from
from_of x [] f h = tt
from_of x (w ∷ ws) f h =
    and_i (f x w) (all_from (suc x) ws f) (subst (λ (y : ℕ). T (f y w)) (omega arith) (h 0 (omega arith)))
    (from_of (suc x) ws f (λ j l. subst (λ (y : ℕ). T (f y (get_or ws j 0))) (omega arith) (h (suc j) (omega arith))))
