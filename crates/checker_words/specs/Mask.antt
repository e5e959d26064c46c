-- A run of words judged by unions: one word against the bits that its level allows, unions of words, and from them a whole run.
-- Leans on `Words`.
use Rattle.std.specs.Prelude.{◌≡◌, Bool, false, ◌&&◌, ◌⊎◌, ◌≢◌, T, eqb, ltb, length, get_or, take}
use Rattle.std.proofs.Math.Path.{refl, sym, ap, ap₂}
use Rattle.std.proofs.Common.{◌∙◌, inl, inr, lit<}
use Rattle.std.proofs.Math.Bool.{true, not, cond}
use mathlib.Core.List.{List, [], ◌∷◌}
use Prim.Native.Nat.{ℕ, zero, suc, ◌+◌, ◌*◌, ◌-◌, ◌/◌, ◌%◌, ◌^◌, ◌<◌, min}
use Rattle.std.proofs.Math.Nat.{zero-add, add-zero, add_assoc}
use Rattle.std.proofs.Math.Numerals.{add-one}
use native.Mathlib.Omega.{arith}
use Rattle.std.specs.Int.Bits.{bit_and, bit_or, and_high, and_le_l, or_zero_r}
use Rattle.std.proofs.lemmas.Nat.{and_mask, shl-shr}
use Rattle.std.proofs.Math.Dec.{eqb→eq, ltb→lt, lt→ltb}
use Rattle.std.proofs.Math.Pow.{shr_mod, shr-shr, field}
use borrow.Author.Tests.{eq-eqb, ne_eqb, lt-ltb}
use Rattle.laws.specs.Bit.{sub-or, sub_parts, and_assoc, and_swap, and-add, and_odd, or_none, or_assoc, or_aligned}
use Rattle.laws.specs.Size.{size_at, down, down_rest, down_le}
use Rattle.laws.specs.Test.{eqb_cases, same_test, and_l, and_r, and_i, eq→eqb}
use Rattle.entry.specs.Word.{address_of, only, el1_flags, plain_flags, mask_plain}
use Rattle.pool.specs.Number.{level_of}
use Rattle.pool.specs.Sound.{fits, leafb, refersb}
use Rattle.checker_words.specs.Words.{passesb, pass_all, link_count, count_all, run_of, allowed_at, union, strays, leaves, links}
use Rattle.std.specs.Prelude.{None, Some}

-- ---- flag sets

-- what is asked of a set of flags: it is a word without an address and without bit 1
pub record PlainSet (set : ℕ) : Type 0 where
  pub below : set < 2 ^ 64
  pub no_address : set / 4096 % 2 ^ 36 ≡ 0
  pub no_table : set / 2 % 2 ≡ 0

pub el1_plain : PlainSet el1_flags
unfolding el1_flags
el1_plain = record { below = lit< tt; no_address = refl; no_table = refl }

-- addresses from the size on, by a mask
mask_sizes : (w level : ℕ) → bit_and w (2 ^ 48 - size_at level) ≡ down (address_of w) (size_at level)
unfolding size_at down address_of
mask_sizes w level =
    let c : ℕ = 9 * (3 - level) in
    let j : ℕ = 36 - c in
    let all : 48 ≡ j + (12 + c) = omega arith in
    let pages : 36 ≡ j + c = omega arith in
    let k : ℕ = 2 ^ (12 + c) in
    ap (λ (x : ℕ). bit_and w (2 ^ x - k)) all
    ∙ and_high w j (12 + c)
    ∙ ap (λ (x : ℕ). x * k)
    (ap (λ (x : ℕ). x % 2 ^ j) (sym (shr-shr w 12 c))
    ∙ sym (field (w / 2 ^ 12) j c)
    ∙ ap (λ (x : ℕ). w / 2 ^ 12 % 2 ^ x / 2 ^ c) (sym pages)
    ∙ ap (λ (x : ℕ). x / 2 ^ c) (sym (shl-shr (w / 2 ^ 12 % 2 ^ 36) 12))
    ∙ shr-shr (w / 2 ^ 12 % 2 ^ 36 * 2 ^ 12) 12 c)

-- a word is its flags without bit 1, bit 1, and its address
word-parts : (w : ℕ) → w ≡ plain_flags w + w / 2 % 2 * 2 + address_of w
unfolding plain_flags address_of
word-parts w =
    let one = shr-shr w 1 1 in
    let low = shr-shr w 2 10 in
    let pages = shr-shr w 12 36 in
    omega arith

set_plain : (set : ℕ) → PlainSet set → plain_flags set ≡ set
unfolding address_of
set_plain set plain = let parts = word-parts set in omega arith

-- ---- one word

-- an equation that says as much as one, two or three others, as tests
eqb_one : (a b c d : ℕ) → (a ≡ b → c ≡ d) → (c ≡ d → a ≡ b) → eqb a b ≡ eqb c d
eqb_one a b c d there back = same_test (eqb a b) (eqb c d) (λ t. eq→eqb c d (there (eqb→eq a b t))) (λ t. eq→eqb a b (back (eqb→eq c d t)))

eqb_two : (a b c d e f : ℕ) → (a ≡ b → (c ≡ d) × (e ≡ f)) → (c ≡ d → e ≡ f → a ≡ b) → eqb a b ≡ eqb c d && eqb e f
eqb_two a b c d e f there back =
    same_test (eqb a b) (eqb c d && eqb e f)
    (λ t. let h = there (eqb→eq a b t) in and_i (eqb c d) (eqb e f) (eq→eqb c d h.0) (eq→eqb e f h.1))
    (λ t. eq→eqb a b (back (eqb→eq c d (and_l (eqb c d) (eqb e f) t)) (eqb→eq e f (and_r (eqb c d) (eqb e f) t))))

eqb_three : (a b c d e f : ℕ) (low : Bool) → (a ≡ b → (c ≡ d) × (T low) × (e ≡ f)) → (c ≡ d → T low → e ≡ f → a ≡ b)
    → eqb a b ≡ eqb c d && (low && eqb e f)
eqb_three a b c d e f low there back =
    let rest = low && eqb e f in
    same_test (eqb a b) (eqb c d && rest)
    (λ t. let h = there (eqb→eq a b t) in and_i (eqb c d) rest (eq→eqb c d h.0) (and_i low (eqb e f) h.1 (eq→eqb e f h.2)))
    (λ t. let u = and_r (eqb c d) rest t in
    eq→eqb a b (back (eqb→eq c d (and_l (eqb c d) rest t)) (and_l low (eqb e f) u) (eqb→eq e f (and_r low (eqb e f) u))))

module _ (set w : ℕ) (plain : PlainSet set) (word : w < 2 ^ 64) where
  -- the flags of the set are among the flags without bit 1
  flags_in_set : bit_and w set ≡ bit_and (plain_flags w) set
  flags_in_set =
      ap (bit_and w) (sym (mask_plain set plain.below ∙ set_plain set plain))
      ∙ sym (and_assoc w set 0xFFFF_0000_0000_0FFD)
      ∙ and_swap w set 0xFFFF_0000_0000_0FFD
      ∙ ap (λ (x : ℕ). bit_and x set) (mask_plain w word)

  -- what a word has of the bits that level 0 allows: no address, and not bit 0
  and_allowed_0 : bit_and w (allowed_at set 0) ≡ bit_and (plain_flags w) set / 2 * 2
  unfolding allowed_at
  and_allowed_0 =
      let flags = flags_in_set in
      let low = and_le_l w set in
      let top = shr_mod {n = bit_and w set} 63 1 (omega arith) in
      sym (and_assoc w set (2 ^ 64 - 2)) ∙ and_high (bit_and w set) 63 1 ∙ (omega arith)

  -- levels 1 and 2 allow addresses from their entry's size on
  and_sizes : (level : ℕ) → bit_and w (set + (2 ^ 48 - size_at level)) ≡ bit_and (plain_flags w) set + down (address_of w) (size_at level)
  unfolding address_of
  and_sizes level =
      let none = down_le (address_of set) (size_at level) in
      and-add w set (2 ^ 48 - size_at level) (mask_sizes set level ∙ (omega arith))
      ∙ ap₂ (λ (x y : ℕ). x + y) flags_in_set (mask_sizes w level)

  -- level 3 allows every address, and bit 1
  and_allowed_3 : bit_and w (allowed_at set 3) ≡ bit_and (plain_flags w) set + address_of w + w / 2 % 2 * 2
  unfolding allowed_at address_of size_at down
  and_allowed_3 =
      let two : bit_and (set + (2 ^ 48 - 2 ^ 12)) 2 ≡ 0 = and_high (set + (2 ^ 48 - 2 ^ 12)) 1 1 ∙ (omega arith) in
      let all = and-add w (set + (2 ^ 48 - 2 ^ 12)) 2 two in
      let pages = and_sizes 3 in
      let bit = and_high w 1 1 in
      omega arith

  block_word : (level : ℕ)
      → only (set + (2 ^ 48 - size_at level)) w ≡ only set (plain_flags w) && (ltb (w % 4) 2 && eqb (address_of w % size_at level) 0)
  unfolding only
  block_word level =
      let sum = and_sizes level in
      let parts = word-parts w in
      let flags = and_le_l (plain_flags w) set in
      let rest = down_rest (address_of w) (size_at level) in
      eqb_three (bit_and w (set + (2 ^ 48 - size_at level))) w (bit_and (plain_flags w) set) (plain_flags w) (address_of w % size_at level) 0
      (ltb (w % 4) 2)
      (λ e. (omega arith, lt→ltb (w % 4) 2 (omega arith), omega arith))
      (λ e t z. let l = ltb→lt (w % 4) 2 t in omega arith)

  zero_word : only (allowed_at set 0) w ≡ only set (plain_flags w) && (eqb (w % 4) 0 && eqb (address_of w) 0)
  unfolding only
  zero_word =
      let sum = and_allowed_0 in
      let parts = word-parts w in
      let flags = and_le_l (plain_flags w) set in
      let halves = shr-shr w 1 1 in
      eqb_three (bit_and w (allowed_at set 0)) w (bit_and (plain_flags w) set) (plain_flags w) (address_of w) 0 (eqb (w % 4) 0)
      (λ e. (omega arith, eq→eqb (w % 4) 0 (omega arith), omega arith))
      (λ e t z. let l = eqb→eq (w % 4) 0 t in omega arith)

  -- levels 0, 1 and 2
  pub leaf_word_lem : (level : ℕ) → level < 3 → only (allowed_at set level) w ≡ leafb set level w
  unfolding leafb fits allowed_at
  leaf_word_lem zero h = zero_word
  leaf_word_lem (suc zero) h = block_word 1
  leaf_word_lem (suc (suc zero)) h = block_word 2
  leaf_word_lem (suc (suc (suc l))) h = absurd (omega arith)

  only_page : only (allowed_at set 3) w ≡ only set (plain_flags w)
  unfolding only
  only_page =
      let sum = and_allowed_3 in
      let parts = word-parts w in
      eqb_one (bit_and w (allowed_at set 3)) w (bit_and (plain_flags w) set) (plain_flags w) (λ e. omega arith) (λ e. omega arith)

  -- level 3
  pub page_word : only (allowed_at set 3) w && not (eqb (w % 4) 1) ≡ leafb set 3 w
  unfolding leafb fits
  page_word = ap (λ (b : Bool). b && not (eqb (w % 4) 1)) only_page

-- ---- unions

-- a union has only allowed bits where both words have
pub only-or : (m a b : ℕ) → only m (bit_or a b) ≡ only m a && only m b
unfolding only
only-or m a b = eqb_two (bit_and (bit_or a b) m) (bit_or a b) (bit_and a m) a (bit_and b m) b (sub_parts a b m) (sub-or a b m)

only_zero : (m : ℕ) → only m 0 ≡ true
unfolding only
only_zero m = refl

-- a union is 0 where both words are
zero_or : (a b : ℕ) → eqb (bit_or a b) 0 ≡ eqb a 0 && eqb b 0
zero_or a b = eqb_two (bit_or a b) 0 a 0 b 0 (or_none a b) (λ p q. ap₂ bit_or p q)

even_or : (a b : ℕ) → eqb (bit_or a b % 2) 0 ≡ eqb (a % 2) 0 && eqb (b % 2) 0
even_or a b = ap (λ (x : ℕ). eqb x 0) (sym (and_mask (bit_or a b) 1)) ∙ or_aligned 1 a b

-- bit 0 of a word that lacks bit 1
stray_word : (w : ℕ) → w < 2 ^ 64 → eqb (bit_and w (2 ^ 64 - 1 - w / 2) % 2) 0 ≡ not (eqb (w % 4) 1)
stray_word w h = go (eqb_cases (w % 4) 1)
  where
    stray : ℕ
    stray = bit_and w (2 ^ 64 - 1 - w / 2) % 2

    bit : stray ≡ min (w % 2) (1 - w / 2 % 2)
    bit = and_odd w (2 ^ 64 - 1 - w / 2) ∙ ap (λ (x : ℕ). min (w % 2) x) (omega arith)

    go : ((w % 4 ≡ 1) × (eqb (w % 4) 1 ≡ true)) ⊎ ((w % 4 ≢ 1) × (eqb (w % 4) 1 ≡ false)) → eqb stray 0 ≡ not (eqb (w % 4) 1)
    go (inl e) = rw e.1 (ne_eqb stray 0 (λ z. omega (arith, bit)))
    go (inr e) = rw e.1 (eq-eqb stray 0 (omega (arith, bit, e.0)))

-- ---- runs

-- the words of a run have 64 bits
abbrev pub Words : List ℕ → Type 0
Words ws = (i : ℕ) → i < length ws → get_or ws i 0 < 2 ^ 64

-- a free table: all words are 0
pub free_pass : (set : ℕ) (ws : List ℕ) → pass_all set 0 ws ≡ eqb (union ws) 0
unfolding union pass_all passesb
free_pass set [] = refl
free_pass set (w ∷ ws) = ap (λ (b : Bool). eqb w 0 && b) (free_pass set ws) ∙ sym (zero_or w (union ws))

pub free-count : (ws : List ℕ) → count_all 0 ws ≡ 0
unfolding count_all link_count
free-count [] = refl
free-count (w ∷ ws) = zero-add (count_all 0 ws) ∙ free-count ws

pub free_run_lem : (set : ℕ) (ws : List ℕ) → run_of set 0 ws ≡ cond (eqb (union ws) 0) (Some 0) None
unfolding run_of
free_run_lem set ws = ap₂ (λ (b : Bool) (n : ℕ). cond b (Some n) None) (free_pass set ws) (free-count ws)

and_four : (a b c d : Bool) → (a && b) && (c && d) ≡ (a && c) && (b && d)
and_four true true c d = refl
and_four true false true d = refl
and_four true false false d = refl
and_four false b c d = refl

-- a used table of level 3: only allowed bits, and no valid word lacks bit 1
module _ (set y : ℕ) (plain : PlainSet set) (some : 0 < y) (at : level_of y ≡ 3) where
  passes_page : (w : ℕ) → w < 2 ^ 64 → passesb set y w ≡ only (allowed_at set 3) w && not (eqb (w % 4) 1)
  unfolding passesb refersb
  passes_page w h = rw (ne_eqb y 0 (λ e. omega arith), at) (sym (page_word set w plain h))

  pub pages_pass : (ws : List ℕ) → Words ws → pass_all set y ws ≡ only (allowed_at set 3) (union ws) && eqb (strays ws % 2) 0
  unfolding union strays pass_all
  pages_pass [] words = rw (only_zero (allowed_at set 3))
  pages_pass (w ∷ ws) words =
      let word : w < 2 ^ 64 = words 0 (omega arith) in
      let ih = pages_pass ws (λ i l. words (suc i) (omega arith)) in
      let m = allowed_at set 3 in
      ap₂ (λ (b c : Bool). b && c) (passes_page w word ∙ ap (λ (b : Bool). only m w && b) (sym (stray_word w word))) ih
      ∙ and_four (only m w) (eqb (bit_and w (2 ^ 64 - 1 - w / 2) % 2) 0) (only m (union ws)) (eqb (strays ws % 2) 0)
      ∙ ap₂ (λ (b c : Bool). b && c) (sym (only-or m w (union ws))) (sym (even_or (bit_and w (2 ^ 64 - 1 - w / 2)) (strays ws)))

  pub pages_count : (ws : List ℕ) → count_all y ws ≡ 0
  unfolding count_all link_count refersb
  pages_count [] = refl
  pages_count (w ∷ ws) = rw (ne_eqb y 0 (λ e. omega arith), at) (zero-add (count_all y ws) ∙ pages_count ws)

  pub pages_run_lem : (ws : List ℕ) → Words ws
      → run_of set y ws ≡ cond (only (allowed_at set 3) (union ws) && eqb (strays ws % 2) 0) (Some 0) None
  unfolding run_of
  pages_run_lem ws words = ap₂ (λ (b : Bool) (n : ℕ). cond b (Some n) None) (pages_pass ws words) (pages_count ws)

only-cond : (m w : ℕ) (b : Bool) → only m (cond b 0 w) ≡ cond b true (only m w)
only-cond m w true = only_zero m
only-cond m w false = refl

-- a used table of the levels 0 to 2: table words are counted, the others have only allowed bits
module _ (set y level : ℕ) (plain : PlainSet set) (some : 0 < y) (at : level_of y ≡ level) (high : level < 3) where
  passes_leaf : (w : ℕ) → w < 2 ^ 64 → passesb set y w ≡ only (allowed_at set level) (cond (eqb (w % 4) 3) 0 w)
  unfolding passesb refersb
  passes_leaf w h =
      rw (ne_eqb y 0 (λ e. omega arith), at, lt-ltb level 3 high)
      (ap (λ (b : Bool). cond (eqb (w % 4) 3) true b) (sym (leaf_word_lem set w plain h level high))
      ∙ sym (only-cond (allowed_at set level) w (eqb (w % 4) 3)))

  pub links_pass : (ws : List ℕ) → Words ws → pass_all set y ws ≡ only (allowed_at set level) (leaves ws)
  unfolding leaves pass_all
  links_pass [] words = sym (only_zero (allowed_at set level))
  links_pass (w ∷ ws) words =
      ap₂ (λ (b c : Bool). b && c) (passes_leaf w (words 0 (omega arith))) (links_pass ws (λ i l. words (suc i) (omega arith)))
      ∙ sym (only-or (allowed_at set level) (cond (eqb (w % 4) 3) 0 w) (leaves ws))

  pub links-count : (ws : List ℕ) → count_all y ws ≡ links ws
  unfolding count_all link_count refersb links
  links-count [] = refl
  links-count (w ∷ ws) =
      rw (ne_eqb y 0 (λ e. omega arith), at, lt-ltb level 3 high) (ap (λ (n : ℕ). cond (eqb (w % 4) 3) 1 0 + n) (links-count ws))

  pub links_run_lem : (ws : List ℕ) → Words ws → run_of set y ws ≡ cond (only (allowed_at set level) (leaves ws)) (Some (links ws)) None
  unfolding run_of
  links_run_lem ws words = ap₂ (λ (b : Bool) (n : ℕ). cond b (Some n) None) (links_pass ws words) (links-count ws)

-- ---- a run read word by word, for loops: what stands after i words, and one word more

-- over any sum `op` with an empty sum, of what `f` makes of each word
module _ (op : ℕ → ℕ → ℕ) (none : ℕ) (f : ℕ → ℕ) (total : List ℕ → ℕ)
    (assoc : (a b c : ℕ) → op (op a b) c ≡ op a (op b c)) (left : (a : ℕ) → op none a ≡ a) (right : (a : ℕ) → op a none ≡ a)
    (empty : total [] ≡ none) (more : (w : ℕ) (ws : List ℕ) → total (w ∷ ws) ≡ op (f w) (total ws)) where
  total-more : (ws : List ℕ) (i : ℕ) → i < length ws → total (take (suc i) ws) ≡ op (total (take i ws)) (f (get_or ws i 0))
  total-more [] i h = absurd (omega arith)
  total-more (w ∷ ws) zero h = more w [] ∙ ap (op (f w)) empty ∙ right (f w) ∙ sym (ap (λ (x : ℕ). op x (f w)) empty ∙ left (f w))
  total-more (w ∷ ws) (suc i) h =
      more w (take (suc i) ws)
      ∙ ap (op (f w)) (total-more ws i (omega arith))
      ∙ sym (assoc (f w) (total (take i ws)) (f (get_or ws i 0)))
      ∙ ap (λ (x : ℕ). op x (f (get_or ws i 0))) (sym (more w (take i ws)))

module _ (ws : List ℕ) where
  pub union_none : union (take 0 ws) ≡ 0
  unfolding union
  union_none = refl

  pub strays_none : strays (take 0 ws) ≡ 0
  unfolding strays
  strays_none = refl

  pub leaves_none : leaves (take 0 ws) ≡ 0
  unfolding leaves
  leaves_none = refl

  pub links_none : links (take 0 ws) ≡ 0
  unfolding links
  links_none = refl

module _ (ws : List ℕ) (i : ℕ) (h : i < length ws) where
  pub union_more : union (take (i + 1) ws) ≡ bit_or (union (take i ws)) (get_or ws i 0)
  unfolding union
  union_more = rw add-one (total-more bit_or 0 (λ w. w) union or_assoc (λ a. refl) or_zero_r refl (λ w ws. refl) ws i h)

  pub strays-more : strays (take (i + 1) ws) ≡ bit_or (strays (take i ws)) (bit_and (get_or ws i 0) (2 ^ 64 - 1 - get_or ws i 0 / 2))
  unfolding strays
  strays-more =
      rw add-one (total-more bit_or 0 (λ w. bit_and w (2 ^ 64 - 1 - w / 2)) strays or_assoc (λ a. refl) or_zero_r refl (λ w ws. refl) ws i h)

  pub leaves-more : leaves (take (i + 1) ws) ≡ bit_or (leaves (take i ws)) (cond (eqb (get_or ws i 0 % 4) 3) 0 (get_or ws i 0))
  unfolding leaves
  leaves-more =
      rw add-one (total-more bit_or 0 (λ w. cond (eqb (w % 4) 3) 0 w) leaves or_assoc (λ a. refl) or_zero_r refl (λ w ws. refl) ws i h)

  pub links-more : links (take (i + 1) ws) ≡ links (take i ws) + cond (eqb (get_or ws i 0 % 4) 3) 1 0
  unfolding links
  links-more = rw add-one (total-more ◌+◌ 0 (λ w. cond (eqb (w % 4) 3) 1 0) links add_assoc zero-add add-zero refl (λ w ws. refl) ws i h)

  -- a table word is counted, any other is joined
  pub leaves_table : get_or ws i 0 % 4 ≡ 3 → leaves (take (i + 1) ws) ≡ leaves (take i ws)
  leaves_table e = leaves-more ∙ rw e (or_zero_r (leaves (take i ws)))

  pub leaves_leaf : get_or ws i 0 % 4 ≢ 3 → leaves (take (i + 1) ws) ≡ bit_or (leaves (take i ws)) (get_or ws i 0)
  leaves_leaf n = leaves-more ∙ rw (ne_eqb (get_or ws i 0 % 4) 3 n)

  pub links-table : get_or ws i 0 % 4 ≡ 3 → links (take (i + 1) ws) ≡ links (take i ws) + 1
  links-table e = links-more ∙ rw e

  pub links_leaf : get_or ws i 0 % 4 ≢ 3 → links (take (i + 1) ws) ≡ links (take i ws)
  links_leaf n = links-more ∙ rw (ne_eqb (get_or ws i 0 % 4) 3 n) (add-zero (links (take i ws)))
