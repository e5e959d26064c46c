-- When a word that is no table word is fine where it stands, and that what a map writes and a split fills is.
use Rattle.std.specs.Prelude.{◌≡◌, true, false, ◌⊎◌, ◌≢◌, ℕ, zero, suc, ◌-◌, ◌/◌, ◌%◌, ◌^◌, ◌≤◌, ◌<◌}
use Rattle.std.proofs.Common.{sym, ◌∙◌, inl, inr, arith}
use Rattle.std.proofs.Math.Path.{ap}
use Rattle.std.proofs.Math.Nat.{zero-mod, mod-one}
use Rattle.std.proofs.lemmas.Nat.{and_le_r}
use Rattle.laws.specs.Bit.{SubBits}
use Rattle.laws.specs.Size.{size_at}
use Rattle.laws.specs.Test.{by_bool, eq_or}
use Rattle.entry.specs.Word.{address_of, valid, Plain, valid_no, plain_flags}
use Rattle.theory_tree.specs.Page.{pages_in, span-zero, entry_rest}
use Rattle.theory_tree.specs.Word.{frame_in, page_bit, leaf_word_of, flags_frame, leaf_hole, leaf_frame, leaf_bit}
use Rattle.theory_tree.specs.Word.{leaf_wide, address_frame}

-- A word, no table word, as it may stand in an entry with `depth` levels below (document 01, "A pool is sound when", its third clause
-- without the set of flags).
pub record Fine (depth w : ℕ) : Type 0 where
  pub wide : w < 2 ^ 64
  pub clear : 1 ≤ depth → w / 2 % 2 ≡ 0
  pub aligned : frame_in w % pages_in depth ≡ 0
  pub top : 3 ≤ depth → (w % 2 ≡ 0) × (frame_in w ≡ 0)
  pub page : depth ≡ 0 → w % 2 ≡ 1 → w / 2 % 2 ≡ 1

-- ---- what is written

aligned_none : (depth : ℕ) → 0 % pages_in depth ≡ 0
aligned_none depth = zero-mod (pages_in depth)

-- flags alone, which aren't valid, are fine anywhere
pub fine_flags : (depth f : ℕ) → Plain f → valid f ≡ false → Fine depth f
fine_flags depth f F v =
    let z = flags_frame f F in
    let o = valid_no f v in
    record {
      wide = F.wide;
      clear = λ h. F.clear;
      aligned = ap (λ (x : ℕ). x % pages_in depth) z ∙ aligned_none depth;
      top = λ h. (o, z);
      page = λ h k. absurd (omega arith);
    }

-- a frame that is aligned to an entry of levels 1 to 3
pub fine_leaf : (depth p f : ℕ) → Plain f → p < 2 ^ 36 → p % pages_in depth ≡ 0 → depth < 3 → Fine depth (leaf_word_of depth p f)
unfolding page_bit
fine_leaf depth p f F below at low =
    by_bool (valid f) (λ v. some depth at low v) (λ v. rw (leaf_hole f F depth p v) (fine_flags depth f F v))
  where
    some : (k : ℕ) → p % pages_in k ≡ 0 → k < 3 → valid f ≡ true → Fine k (leaf_word_of k p f)
    some zero at low v = record {
      wide = leaf_wide f F 0 p below v;
      clear = λ h. absurd (omega arith);
      aligned = ap (λ (x : ℕ). x % pages_in 0) (leaf_frame f F 0 p below v) ∙ at;
      top = λ h. absurd (omega arith);
      page = λ h k. leaf_bit f F 0 p below v;
    }
    some (suc k) at low v = record {
      wide = leaf_wide f F (suc k) p below v;
      clear = λ h. leaf_bit f F (suc k) p below v;
      aligned = ap (λ (x : ℕ). x % pages_in (suc k)) (leaf_frame f F (suc k) p below v) ∙ at;
      top = λ h. absurd (omega arith);
      page = λ h k. absurd (omega arith);
    }

plain_wide : (w : ℕ) → plain_flags w < 2 ^ 64 → w < 2 ^ 64
unfolding plain_flags
plain_wide w h = omega arith

-- ---- what a sound pool's leaf is, clause by clause (document 01, "A pool is sound when"): flags only from the set (bit 1 apart), below
-- 2^64; at
-- levels 0 to 2 bit 1 is clear; at levels 1 and 2 the address is a multiple of the entry's size; at level 0 the word isn't valid and its
-- address is 0; at level 3 a valid word has bit 1
pub sound_fine : (set level w : ℕ) → level ≤ 3 → set < 2 ^ 64 → SubBits (plain_flags w) set → (level < 3 → w / 2 % 2 ≡ 0)
    → (1 ≤ level → level < 3 → address_of w % size_at level ≡ 0) → (level ≡ 0 → (w % 2 ≡ 0) × (address_of w ≡ 0))
    → (level ≡ 3 → w % 2 ≡ 1 → w / 2 % 2 ≡ 1)
    → Fine (3 - level) w
sound_fine set level w low small flags clear aligned top page =
    record {
      wide = plain_wide w (omega (arith, and_le_r (plain_flags w) set));
      clear = λ h. clear (omega arith);
      aligned = multiple (eq_or level 0) (eq_or level 3);
      top = λ h. let x = top (omega arith) in let f = address_frame w in (x.0, omega arith);
      page = λ h k. page (omega arith) k;
    }
  where
    multiple : (level ≡ 0) ⊎ (level ≢ 0) → (level ≡ 3) ⊎ (level ≢ 3) → frame_in w % pages_in (3 - level) ≡ 0
    multiple (inl z) b =
        let f = address_frame w in
        let x = top z in
        let e : frame_in w ≡ 0 = omega arith in
        ap (λ (x : ℕ). x % pages_in (3 - level)) e ∙ aligned_none (3 - level)
    multiple (inr a) (inl z) =
        let e : 3 - level ≡ 0 = omega arith in
        ap (λ (x : ℕ). frame_in w % x) (ap pages_in e ∙ span-zero) ∙ mod-one (frame_in w)
    multiple (inr a) (inr b) =
        let e : 3 - (3 - level) ≡ level = omega arith in
        let f = address_frame w in
        let frame : address_of w / 4096 ≡ frame_in w = omega arith in
        let whole = aligned (omega arith) (omega arith) in
        let rest = entry_rest (3 - level) (address_of w) (omega arith) (omega arith) in
        let same : address_of w % size_at (3 - (3 - level)) ≡ address_of w % size_at level = ap (λ (x : ℕ). address_of w % size_at x) e in
        ap (λ (x : ℕ). x % pages_in (3 - level)) (sym frame) ∙ (let z : address_of w / 4096 % pages_in (3 - level) ≡ 0 = omega arith in z)
