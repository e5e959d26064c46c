-- What a word says (document 01, "What a word says"): its fields, its kind at its level, the word that refers to a table; the word that a
-- map writes and the one that an edit leaves.
use Rattle.std.specs.Prelude.{◌≡◌, ℕ, ◌+◌, ◌-◌, ◌*◌, ◌/◌, ◌%◌, ◌^◌, ◌<◌, ◌≤◌, Bool}
use Rattle.std.specs.Prelude.{true, false, cond, ◌||◌, ◌≢◌, ◌⊎◌, ◌==◌, bit_and, bit_or, nat_eq, nat_le, refl}
use Rattle.std.proofs.Common.{ap, ◌∙◌, inl, inr, lit<}
use native.Mathlib.Omega.{arith}
use Rattle.std.proofs.lemmas.Nat.Bits.{and_high}
use Rattle.std.proofs.lemmas.Nat.{and_mask}
use Rattle.std.proofs.Math.Pow.{shr_mod}
use borrow.Author.Tests.{eqb-true, eqb-false, eq-eqb, ne_eqb, le-leb, lt-leb}
use Rattle.laws.specs.Bit.{and-not, and-add}
use Rattle.laws.specs.Test.{eqb_cases, eq_or, le_or}
use Rattle.entry.specs.declared.Kind.{Kind}
use Rattle.entry.specs.declared.Kind.TheVariants.{Table, Block, Page, Hole}

-- address: bits 12 to 47
unfoldable pub address_of : ℕ → ℕ
address_of w = w / 4096 % 2 ^ 36 * 4096

-- flags: the rest
unfoldable pub flags_of : ℕ → ℕ
flags_of w = w % 4096 + w / 2 ^ 48 * 2 ^ 48

-- decided by its level and its two low bits: both set is a table at levels 0 to 2 and a page at level 3; 1 is a block at levels 1 and 2 and
-- a hole at 0 and 3; bit 0 clear is a hole
unfoldable pub kind_of : ℕ → ℕ → Kind
kind_of level w =
    cond (w % 4 == 3) (cond (nat_le 3 level) Page Table)
    (cond (w % 4 == 1) (cond (level == 1 || level == 2) Block Hole)
    Hole)

-- bit 0: VALID
unfoldable pub valid : ℕ → Bool
valid w = w % 2 == 1

-- flags without bit 1: bits 0, 2 to 11 and 48 to 63
unfoldable pub plain_flags : ℕ → ℕ
plain_flags w = w % 2 + w / 4 % 1024 * 4 + w / 2 ^ 48 * 2 ^ 48

-- document 01, "Pool and ledger": table k has physical address base + 4096·k; the word that refers to it is that address + 3
unfoldable pub link_of : ℕ → ℕ → ℕ
link_of base k = base + 4096 * k + 3

-- document 01, "Putting down a map": "a VALID map writes frame + flags + 2" at level 3, above it the block without bit 1; "otherwise the
-- flags alone"
unfoldable pub leaf_word : ℕ → ℕ → ℕ → ℕ
leaf_word level frame flags = cond (valid flags) (cond (nat_le 3 level) (frame + flags + 2) (frame + flags)) flags

-- Modify: "bits to set and to clear"
unfoldable pub edited : ℕ → ℕ → ℕ → ℕ
edited set clear w = bit_and (bit_or w set) (2 ^ 64 - 1 - clear)

-- flags from the set m alone
unfoldable pub only : ℕ → ℕ → Bool
only m f = bit_and f m == f

-- the set of document 01: bits 0, 2 to 11, 50 to 63
unfoldable pub el1_flags : ℕ
el1_flags = 0xFFFC_0000_0000_0FFD

-- bit 0, bits 2 to 11, bits 50 to 63
pub el1_bits : el1_flags ≡ 1 + (2 ^ 12 - 2 ^ 2) + (2 ^ 64 - 2 ^ 50)
unfolding el1_flags
el1_bits = refl

-- flags that a call may give (refusals 3 and 4): no bit of the address, bit 1 clear
pub record Plain (f : ℕ) : Type 0 where
  pub wide : f < 2 ^ 64
  pub bits : flags_of f ≡ f
  pub clear : f / 2 % 2 ≡ 0

-- ---- VALID

pub valid_yes : (w : ℕ) → valid w ≡ true → w % 2 ≡ 1
unfolding valid
valid_yes w e = eqb-true (w % 2) 1 e

pub valid_no : (w : ℕ) → valid w ≡ false → w % 2 ≡ 0
unfolding valid
valid_no w e = let n = eqb-false (w % 2) 1 e in omega arith

pub valid_of : (w : ℕ) → w % 2 ≡ 1 → valid w ≡ true
unfolding valid
valid_of w e = eq-eqb (w % 2) 1 e

pub valid_none : (w : ℕ) → w % 2 ≡ 0 → valid w ≡ false
unfolding valid
valid_none w e = rw e

pub valid_same : (w x : ℕ) → w % 2 ≡ x % 2 → valid w ≡ valid x
unfolding valid
valid_same w x e = ap (λ (y : ℕ). nat_eq y 1) e

-- ---- fields: taken apart and put together

pub address_and_flags : (w : ℕ) → address_of w + flags_of w ≡ w
unfolding address_of flags_of
address_and_flags w = omega arith

-- an address is a multiple of 4096 below 2^48
pub address_pages : (w : ℕ) → address_of w % 4096 ≡ 0
unfolding address_of
address_pages w = omega arith

pub address_below : (w : ℕ) → address_of w < 2 ^ 48
unfolding address_of
address_below w = omega arith

-- an address and flags put together are read back
module _ (a f : ℕ) (pages : a % 4096 ≡ 0) (below : a < 2 ^ 48) (plain : flags_of f ≡ f) where
  pub address_back : address_of (a + f) ≡ a
  unfolding address_of flags_of
  address_back = omega arith

  pub flags_back : flags_of (a + f) ≡ f
  unfolding address_of flags_of
  flags_back = omega arith

-- by masks
pub mask_address : (w : ℕ) → bit_and w 0xFFFF_FFFF_F000 ≡ address_of w
unfolding address_of
mask_address w = and_high w 36 12

pub mask_flags : (w : ℕ) → w < 2 ^ 64 → bit_and w (2 ^ 64 - 1 - 0xFFFF_FFFF_F000) ≡ flags_of w
mask_flags w h =
    let both = and-not 64 w 0xFFFF_FFFF_F000 h (lit< tt) in
    let address = mask_address w in
    let whole = address_and_flags w in
    omega arith

-- flags without bit 1, by a mask
pub mask_plain : (w : ℕ) → w < 2 ^ 64 → bit_and w 0xFFFF_0000_0000_0FFD ≡ plain_flags w
unfolding plain_flags
mask_plain w h =
    let all = and-add w (2 ^ 64 - 2 ^ 48 + (2 ^ 12 - 2 ^ 2)) 1 refl in
    let two = and-add w (2 ^ 64 - 2 ^ 48) (2 ^ 12 - 2 ^ 2) refl in
    let high = and_high w 16 48 ∙ ap (λ (x : ℕ). x * 2 ^ 48) (shr_mod {n = w} 16 48 h) in
    let middle = and_high w 10 2 in
    let low = and_mask w 1 in
    omega arith

-- the low bits are flags
pub flags_low : (w : ℕ) → flags_of w % 4 ≡ w % 4
unfolding flags_of
flags_low w = omega arith

pub flags_valid : (w : ℕ) → valid (flags_of w) ≡ valid w
flags_valid w = valid_same (flags_of w) w (omega (arith, flags_low w))

-- the flags of a word without bit 1 are flags that a call may give
pub flags_plain : (w : ℕ) → w < 2 ^ 64 → w / 2 % 2 ≡ 0 → Plain (flags_of w)
unfolding flags_of
flags_plain w wide clear = record { wide = omega arith; bits = omega arith; clear = omega arith }

-- ---- links

pub link_once : (base j k : ℕ) → link_of base j ≡ link_of base k → j ≡ k
unfolding link_of
link_once base j k e = omega arith

-- what a link says, where the tables start at a multiple of 4096 and end at 2^48 at the latest
module _ (base k : ℕ) (pages : base % 4096 ≡ 0) (below : base + 4096 * k + 4096 ≤ 2 ^ 48) where
  pub link_address : address_of (link_of base k) ≡ base + 4096 * k
  unfolding address_of link_of
  link_address = omega arith

  pub link_low : link_of base k % 4 ≡ 3
  unfolding link_of
  link_low = omega arith

  pub link_fits : link_of base k % 2 ^ 64 ≡ link_of base k
  unfolding link_of
  link_fits = omega arith

-- ---- kinds: each exactly when

module _ (level w : ℕ) where
  pub kind_table : level < 3 → w % 4 ≡ 3 → kind_of level w ≡ Table
  unfolding kind_of
  kind_table h e = rw (eq-eqb (w % 4) 3 e, lt-leb 3 level h)

  pub kind_page : 3 ≤ level → w % 4 ≡ 3 → kind_of level w ≡ Page
  unfolding kind_of
  kind_page h e = rw (eq-eqb (w % 4) 3 e, le-leb 3 level h)

  pub kind_block : (level ≡ 1) ⊎ (level ≡ 2) → w % 4 ≡ 1 → kind_of level w ≡ Block
  unfolding kind_of
  kind_block (inl h) e = rw (e, h)
  kind_block (inr h) e = rw (e, h)

  pub kind_reserved : w % 4 ≡ 1 → (level ≢ 1) → (level ≢ 2) → kind_of level w ≡ Hole
  unfolding kind_of
  kind_reserved e m n = rw (e, ne_eqb level 1 m, ne_eqb level 2 n)

  pub kind_clear : (w % 4 ≢ 3) → (w % 4 ≢ 1) → kind_of level w ≡ Hole
  unfolding kind_of
  kind_clear m n = rw (ne_eqb (w % 4) 3 m, ne_eqb (w % 4) 1 n)

-- what each kind says of level and low bits
abbrev pub Says : Kind → ℕ → ℕ → Type 0
Says Table level w = (level < 3) × (w % 4 ≡ 3)
Says Page level w = (3 ≤ level) × (w % 4 ≡ 3)
Says Block level w = ((level ≡ 1) ⊎ (level ≡ 2)) × (w % 4 ≡ 1)
Says Hole level w = (w % 2 ≡ 0) ⊎ ((w % 4 ≡ 1) × (level ≢ 1) × (level ≢ 2))

-- exhaustive: every word is of its kind; exclusive: of no other
pub kind_says : (level w : ℕ) → Says (kind_of level w) level w
kind_says level w = go (eqb_cases (w % 4) 3) (eqb_cases (w % 4) 1) (eq_or level 1) (eq_or level 2) (le_or 3 level)
  where
    go : ((w % 4 ≡ 3) × ((w % 4 == 3) ≡ true)) ⊎ ((w % 4 ≢ 3) × ((w % 4 == 3) ≡ false))
        → ((w % 4 ≡ 1) × ((w % 4 == 1) ≡ true)) ⊎ ((w % 4 ≢ 1) × ((w % 4 == 1) ≡ false))
        → (level ≡ 1) ⊎ (level ≢ 1) → (level ≡ 2) ⊎ (level ≢ 2) → (3 ≤ level) ⊎ (level < 3) → Says (kind_of level w) level w
    go (inl t) one a b (inl h) = rw (kind_page level w h t.0) (h, t.0)
    go (inl t) one a b (inr h) = rw (kind_table level w h t.0) (h, t.0)
    go (inr t) (inl one) (inl a) b h = rw (kind_block level w (inl a) one.0) (inl a, one.0)
    go (inr t) (inl one) (inr a) (inl b) h = rw (kind_block level w (inr b) one.0) (inr b, one.0)
    go (inr t) (inl one) (inr a) (inr b) h = rw (kind_reserved level w one.0 a b) (inr (one.0, a, b))
    go (inr t) (inr one) a b h = rw (kind_clear level w t.0 one.0) (inl (even t.0 one.0))
      where
        even : (w % 4 ≢ 3) → (w % 4 ≢ 1) → w % 2 ≡ 0
        even m n = omega arith

pub kind_once : (k : Kind) (level w : ℕ) → Says k level w → kind_of level w ≡ k
kind_once Table level w h = kind_table level w h.0 h.1
kind_once Page level w h = kind_page level w h.0 h.1
kind_once Block level w h = kind_block level w h.0 h.1
kind_once Hole level w (inl h) = kind_clear level w (λ e. omega arith) (λ e. omega arith)
kind_once Hole level w (inr h) = kind_reserved level w h.0 h.1 h.2
