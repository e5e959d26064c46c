-- Sums over the numbers below n: of slots, of tables.
use Rattle.std.specs.Prelude.{◌≡◌, refl, Bool, true, false, ◌⊎◌, ◌≢◌, ℕ, zero, suc, ◌+◌, ◌*◌, ◌≤◌, ◌<◌, T}
use Rattle.std.proofs.Common.{sym, ap, ◌∙◌, inl, inr, suc-mul, add-zero, add-suc, mul-zero, mul-suc, add-one, arith}
use Rattle.laws.specs.Test.{eq_or}

unfoldable pub sum : ℕ → (ℕ → ℕ) → ℕ
sum zero f = 0
sum (suc n) f = sum n f + f n

pub sum_empty : (f : ℕ → ℕ) → sum 0 f ≡ 0
unfolding sum
sum_empty f = refl

pub sum_more : (n : ℕ) (f : ℕ → ℕ) → sum (n + 1) f ≡ sum n f + f n
unfolding sum
sum_more n f = rw add-one

pub sum_le : (n m : ℕ) (f : ℕ → ℕ) → n < m → sum n f + f n ≤ sum m f
unfolding sum
sum_le n zero f h = absurd (omega arith)
sum_le n (suc m) f h = go (λ l. sum_le n m f l) (eq_or n m)
  where
    go : (n < m → sum n f + f n ≤ sum m f) → (n ≡ m) ⊎ (n ≢ m) → sum n f + f n ≤ sum m f + f m
    go ih (inl e) = rw e (omega arith)
    go ih (inr ne) = let r = ih (omega arith) in omega arith

pub sum-zero : (n : ℕ) → sum n (λ i. 0) ≡ 0
unfolding sum
sum-zero zero = refl
sum-zero (suc n) = let r = sum-zero n in omega arith

pub sum_ext : (n : ℕ) (f g : ℕ → ℕ) → ((i : ℕ) → i < n → f i ≡ g i) → sum n f ≡ sum n g
unfolding sum
sum_ext zero f g h = refl
sum_ext (suc n) f g h = let r = sum_ext n f g (λ i l. h i (omega arith)) in let t = h n (omega arith) in omega arith

pub sum_none : (n : ℕ) (f : ℕ → ℕ) → ((i : ℕ) → i < n → f i ≡ 0) → sum n f ≡ 0
sum_none n f h = sum_ext n f (λ i. 0) h ∙ sum-zero n

-- one summand is 1, the others 0
pub sum_one : (n : ℕ) (f : ℕ → ℕ) (j : ℕ) → j < n → f j ≡ 1 → ((i : ℕ) → i ≢ j → f i ≡ 0) → sum n f ≡ 1
unfolding sum
sum_one zero f j h e z = absurd (omega arith)
sum_one (suc n) f j h e z = go (λ l. sum_one n f j l e z) (eq_or n j)
  where
    go : (j < n → sum n f ≡ 1) → (n ≡ j) ⊎ (n ≢ j) → sum n f + f n ≡ 1
    go ih (inl eq) =
        let r : sum n f ≡ 0 = sum_none n f (λ i l. z i (omega arith)) in
        let t : f n ≡ 1 = rw eq e in omega arith
    go ih (inr ne) = let r = ih (omega arith) in let t = z n ne in omega arith

pub sum-add : (n : ℕ) (f g : ℕ → ℕ) → sum n (λ i. f i + g i) ≡ sum n f + sum n g
unfolding sum
sum-add zero f g = refl
sum-add (suc n) f g = let r = sum-add n f g in omega arith

pub sum_swap : (n m : ℕ) (f : ℕ → ℕ → ℕ) → sum n (λ i. sum m (λ j. f i j)) ≡ sum m (λ j. sum n (λ i. f i j))
unfolding sum
sum_swap zero m f = sym (sum-zero m)
sum_swap (suc n) m f = let r = sum_swap n m f in let t = sum-add m (λ j. sum n (λ i. f i j)) (λ j. f n j) in omega arith

pub sum_shift : (n : ℕ) (f : ℕ → ℕ) → sum (suc n) f ≡ f 0 + sum n (λ i. f (suc i))
unfolding sum
sum_shift zero f = omega arith
sum_shift (suc n) f = let r = sum_shift n f in omega arith

-- ---- counting: 1 where a test holds, 0 where it doesn't

unfoldable pub tally : Bool → ℕ
tally true = 1
tally false = 0

pub tally_yes : (b : Bool) → T b → tally b ≡ 1
unfolding tally
tally_yes true t = refl
tally_yes false t = absurd t

pub tally_no : (b : Bool) → ¬ (T b) → tally b ≡ 0
unfolding tally
tally_no true n = absurd (n tt)
tally_no false n = refl

pub tally-says : (b : Bool) → 0 < tally b → T b
unfolding tally
tally-says true h = tt
tally-says false h = absurd (omega arith)

-- ---- a sum is 0, or a summand is not; a summand is no more than the sum

pub sum_some : (n : ℕ) (f : ℕ → ℕ) → (sum n f ≡ 0) ⊎ ((j : ℕ) × (j < n) × (0 < f j))
unfolding sum
sum_some zero f = inl refl
sum_some (suc n) f = go (sum_some n f) (eq_or (f n) 0)
  where
    go : (sum n f ≡ 0) ⊎ ((j : ℕ) × (j < n) × (0 < f j)) → (f n ≡ 0) ⊎ (f n ≢ 0) → (sum n f + f n ≡ 0) ⊎ ((j : ℕ) × (j < suc n) × (0 < f j))
    go (inl e) (inl z) = inl (omega arith)
    go (inl e) (inr z) = inr (n, omega arith, omega arith)
    go (inr p) t = inr (p.0, omega (arith, p.1), p.2)

pub sum_at : (n : ℕ) (f : ℕ → ℕ) (j : ℕ) → j < n → f j ≤ sum n f
sum_at n f j h = let r = sum_le j n f h in omega arith

-- ---- summand by summand

pub sum_mono : (n : ℕ) (f g : ℕ → ℕ) → ((i : ℕ) → i < n → f i ≤ g i) → sum n f ≤ sum n g
unfolding sum
sum_mono zero f g h = omega arith
sum_mono (suc n) f g h = let r = sum_mono n f g (λ i l. h i (omega arith)) in let t = h n (omega arith) in omega arith

-- no summand of f is more than that of g, and the sum of f is no less: then each summand is the same
pub sum_tight : (n : ℕ) (f g : ℕ → ℕ) → ((i : ℕ) → i < n → f i ≤ g i) → sum n g ≤ sum n f → (i : ℕ) → i < n → f i ≡ g i
unfolding sum
sum_tight zero f g h e i l = absurd (omega arith)
sum_tight (suc n) f g h e i l =
    let r = sum_mono n f g (λ j m. h j (omega arith)) in
    let t = h n (omega arith) in
    go (λ m. sum_tight n f g (λ j q. h j (omega arith)) (omega arith) i m) (omega arith) (eq_or i n)
  where
    go : (i < n → f i ≡ g i) → f n ≡ g n → (i ≡ n) ⊎ (i ≢ n) → f i ≡ g i
    go ih last (inl q) = rw q last
    go ih last (inr q) = ih (omega arith)

-- ---- a sum taken apart: two pieces; n pieces of m summands

pub sum-append : (a b : ℕ) (f : ℕ → ℕ) → sum (a + b) f ≡ sum a f + sum b (λ i. f (a + i))
unfolding sum
sum-append a zero f = rw (add-zero a) (omega arith)
sum-append a (suc b) f = let r = sum-append a b f in rw (add-suc a b) (omega arith)

pub sum_pieces : (n m : ℕ) (f : ℕ → ℕ) → sum (m * n) f ≡ sum n (λ k. sum m (λ i. f (m * k + i)))
unfolding sum
sum_pieces zero m f = rw (mul-zero m)
sum_pieces (suc n) m f = let r = sum_pieces n m f in let t = sum-append (m * n) m f in rw (mul-suc m n) (omega arith)

-- no summand passes m
pub sum_most : (n m : ℕ) (f : ℕ → ℕ) → ((i : ℕ) → i < n → f i ≤ m) → sum n f ≤ n * m
unfolding sum
sum_most zero m f h = omega arith
sum_most (suc n) m f h =
    let r = sum_most n m f (λ i l. h i (omega arith)) in
    let t = h n (omega arith) in
    let e = suc-mul n m in
    omega arith

-- all summands but one are 0
pub sum-only : (n : ℕ) (f : ℕ → ℕ) (j : ℕ) → j < n → ((i : ℕ) → i ≢ j → f i ≡ 0) → sum n f ≡ f j
unfolding sum
sum-only zero f j h z = absurd (omega arith)
sum-only (suc n) f j h z = go (λ l. sum-only n f j l z) (eq_or n j)
  where
    go : (j < n → sum n f ≡ f j) → (n ≡ j) ⊎ (n ≢ j) → sum n f + f n ≡ f j
    go ih (inl eq) = let r = sum_none n f (λ i l. z i (omega arith)) in let t = ap f eq in omega arith
    go ih (inr ne) = let r = ih (omega arith) in let t = z n ne in omega arith
