-- Words in the entries of a tree: frame, flags, what a map writes, what a split fills.
use Rattle.std.specs.Prelude.{◌≡◌, refl, true, false, cond}
use Rattle.std.proofs.Common.{ap, ◌∙◌, arith}
use Prim.Native.Nat.{ℕ, zero, suc, ◌+◌, ◌*◌, ◌/◌, ◌%◌, ◌^◌, ◌<◌}
use Rattle.std.proofs.Math.Nat.{add-zero}
use Rattle.entry.specs.Word.{flags_of, address_of, address_back, flags_back, Plain, valid, plain_flags, valid_same, flags_low}
use Rattle.theory_tree.specs.Page.{pages_in}

-- the frame that a word names: bits 12 to 47, the address / 4096
unfoldable pub frame_in : ℕ → ℕ
frame_in w = w / 4096 % 2 ^ 36

-- a page has bit 1, a block hasn't
unfoldable pub page_bit : ℕ → ℕ
page_bit zero = 2
page_bit (suc depth) = 0

-- document 01, "Putting down a map", rules 1 and 3: the frame with the flags and, for a page, bit 1; "otherwise the flags alone"
unfoldable pub leaf_word_of : ℕ → ℕ → ℕ → ℕ
leaf_word_of depth frame flags = cond (valid flags) (frame * 4096 + flags + page_bit depth) flags

-- rule 5: what a split of the word w writes in slot i of the new table, whose entries have `depth` levels below
unfoldable pub fill_word : ℕ → ℕ → ℕ → ℕ
fill_word depth w i = leaf_word_of depth (frame_in w / pages_in (suc depth) * pages_in (suc depth) + i * pages_in depth) (flags_of w)

-- ---- frames and flags of a word

pub frame_below : (w : ℕ) → frame_in w < 2 ^ 36
unfolding frame_in
frame_below w = omega arith

pub frame_and_flags : (w : ℕ) → frame_in w * 4096 + flags_of w ≡ w
unfolding frame_in flags_of
frame_and_flags w = omega arith

pub address_frame : (w : ℕ) → address_of w ≡ frame_in w * 4096
unfolding address_of frame_in
address_frame w = refl

frame_address : (w p : ℕ) → address_of w ≡ p * 4096 → frame_in w ≡ p
unfolding address_of frame_in
frame_address w p e = omega arith

pub flags_none : flags_of 0 ≡ 0
unfolding flags_of
flags_none = refl

plain_bit : (w : ℕ) → plain_flags w + w / 2 % 2 * 2 ≡ flags_of w
unfolding plain_flags flags_of
plain_bit w =
    let a : w % 4096 ≡ w / 4 % 1024 * 4 + w % 4 = omega arith in
    let b : w % 4 ≡ w / 2 % 2 * 2 + w % 2 = omega arith in
    omega arith

pub plain_flags_lem : (w : ℕ) → w / 2 % 2 ≡ 0 → plain_flags w ≡ flags_of w
unfolding plain_flags flags_of
plain_flags_lem w clear = omega arith

-- flags with bit 1 set are flags still
flags_page : (f : ℕ) → flags_of f ≡ f → f / 2 % 2 ≡ 0 → flags_of (f + 2) ≡ f + 2
unfolding flags_of
flags_page f bits clear =
    let low : f % 4096 + 2 < 4096 = omega arith in
    let a : (f + 2) % 4096 ≡ f % 4096 + 2 = omega arith in
    let b : (f + 2) / 2 ^ 48 ≡ f / 2 ^ 48 = omega arith in
    omega arith

bit_even : (depth : ℕ) → page_bit depth / 2 * 2 ≡ page_bit depth
unfolding page_bit
bit_even zero = refl
bit_even (suc depth) = refl

-- a frame and flags fit a word
frame_room : (p f : ℕ) → p < 2 ^ 36 → flags_of f ≡ f → f < 2 ^ 64 → p * 4096 + f < 2 ^ 64
unfolding flags_of
frame_room p f below bits wide = let hi : f / 2 ^ 48 < 2 ^ 16 = omega arith in omega arith

module _ (f : ℕ) (F : Plain f) where
  pub flags_frame : frame_in f ≡ 0
  flags_frame = omega (arith, F.bits, frame_and_flags f)

  pub flags_shown : plain_flags f ≡ f
  flags_shown = plain_flags_lem f F.clear ∙ F.bits

  pub leaf_hole : (depth p : ℕ) → valid f ≡ false → leaf_word_of depth p f ≡ f
  unfolding leaf_word_of
  leaf_hole depth p v = rw v

  pub leaf_valid : (depth p : ℕ) → valid f ≡ true → leaf_word_of depth p f ≡ p * 4096 + f + page_bit depth
  unfolding leaf_word_of
  leaf_valid depth p v = rw v

  bit_flags : (depth : ℕ) → flags_of (f + page_bit depth) ≡ f + page_bit depth
  unfolding page_bit
  bit_flags zero = flags_page f F.bits F.clear
  bit_flags (suc depth) = rw add-zero F.bits

  bit_wide : (depth : ℕ) → f + page_bit depth < 2 ^ 64
  unfolding page_bit
  bit_wide zero = omega (arith, F.clear, F.wide)
  bit_wide (suc depth) = omega (arith, F.wide)

  module _ (depth p : ℕ) (below : p < 2 ^ 36) (v : valid f ≡ true) where
    sum-word : leaf_word_of depth p f ≡ p * 4096 + (f + page_bit depth)
    sum-word = leaf_valid depth p v ∙ (let e : p * 4096 + f + page_bit depth ≡ p * 4096 + (f + page_bit depth) = omega arith in e)

    pub leaf_frame : frame_in (leaf_word_of depth p f) ≡ p
    leaf_frame =
        let a = address_back (p * 4096) (f + page_bit depth) (omega arith) (omega arith) (bit_flags depth) in
        ap frame_in sum-word ∙ frame_address (p * 4096 + (f + page_bit depth)) p a

    pub leaf_flags : flags_of (leaf_word_of depth p f) ≡ f + page_bit depth
    leaf_flags = ap flags_of sum-word ∙ flags_back (p * 4096) (f + page_bit depth) (omega arith) (omega arith) (bit_flags depth)

    pub leaf_bit : leaf_word_of depth p f / 2 % 2 ≡ page_bit depth / 2
    unfolding page_bit
    leaf_bit = go depth (leaf_word_of depth p f) leaf_flags (flags_low (leaf_word_of depth p f))
      where
        go : (k w : ℕ) → flags_of w ≡ f + page_bit k → flags_of w % 4 ≡ w % 4 → w / 2 % 2 ≡ page_bit k / 2
        go zero w g l = omega (arith, F.clear)
        go (suc k) w g l = omega (arith, F.clear)

    pub leaf_plain : plain_flags (leaf_word_of depth p f) ≡ f
    leaf_plain = omega (arith, plain_bit (leaf_word_of depth p f), leaf_flags, leaf_bit, bit_even depth)

    -- a leaf with VALID flags is valid
    pub leaf_true : valid (leaf_word_of depth p f) ≡ true
    leaf_true =
        let o : leaf_word_of depth p f % 2 ≡ f % 2 = omega (arith, flags_low (leaf_word_of depth p f), leaf_flags, bit_even depth) in
        valid_same (leaf_word_of depth p f) f o ∙ v

    pub leaf_wide : leaf_word_of depth p f < 2 ^ 64
    leaf_wide = let room = frame_room p (f + page_bit depth) below (bit_flags depth) (bit_wide depth) in let e = sum-word in omega arith
