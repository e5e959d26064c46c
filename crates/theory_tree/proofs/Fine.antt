-- Theorems about the definitions of specs/Fine.
use Rattle.std.specs.Prelude.{◌≡◌, true, ◌⊎◌, ℕ, suc, ◌+◌, ◌*◌, ◌/◌, ◌%◌, ◌^◌, ◌≤◌, ◌<◌}
use Rattle.std.proofs.Common.{◌∙◌, inl, inr, div-add-mod', mul-le-mul_right, arith}
use Rattle.std.proofs.Math.Path.{ap}
use Rattle.laws.specs.Test.{by_bool, le_or}
use Rattle.entry.specs.Word.{flags_of, valid, Plain, valid_yes, flags_valid, flags_plain}
use Rattle.theory_tree.specs.Page.{pages_in, span_pos, span_suc, multiple_child, block_end}
use Rattle.theory_tree.specs.Word.{frame_in, leaf_word_of, fill_word, frame_below, leaf_hole}
use Rattle.theory_tree.specs.Fine.{Fine, fine_flags, fine_leaf}

-- ---- the fill

module _ (depth w : ℕ) (fine : Fine (suc depth) w) where
  pub fill_flags : Plain (flags_of w)
  fill_flags = flags_plain w fine.wide (fine.clear (omega arith))

  -- a valid word stands at level 1 or 2
  pub fine_low : valid w ≡ true → suc depth < 3
  fine_low v = let o = valid_yes w v in go (le_or 3 (suc depth))
    where
      go : (3 ≤ suc depth) ⊎ (suc depth < 3) → suc depth < 3
      go (inl h) = absurd (omega (arith, (fine.top h).0, valid_yes w v))
      go (inr h) = h

  -- the frame of a fine word is a multiple of the entry's size
  pub fine_frame : frame_in w / pages_in (suc depth) * pages_in (suc depth) ≡ frame_in w
  fine_frame = omega (arith, div-add-mod' (frame_in w) (pages_in (suc depth)), fine.aligned)

  pub fill_is : (i : ℕ) → fill_word depth w i ≡ leaf_word_of depth (frame_in w + i * pages_in depth) (flags_of w)
  unfolding fill_word
  fill_is i = ap (λ (x : ℕ). leaf_word_of depth (x + i * pages_in depth) (flags_of w)) fine_frame

  -- a fine word ends below 2^48 with its pages, since its size divides that
  pub fill_below : (i : ℕ) → i < 512 → valid w ≡ true → frame_in w + i * pages_in depth < 2 ^ 36
  fill_below i h v =
      omega (
        arith,
        block_end (suc depth) (frame_in w) (fine_low v) fine.aligned
            (frame_below w),
        span_suc depth,
        span_pos depth,
        mul-le-mul_right (pages_in depth) h,
      )

  pub fill_aligned : (i : ℕ) → (frame_in w + i * pages_in depth) % pages_in depth ≡ 0
  fill_aligned i = multiple_child depth (frame_in w) i fine.aligned

  pub fine_fill : (i : ℕ) → i < 512 → Fine depth (fill_word depth w i)
  fine_fill i h = rw (fill_is i) (by_bool (valid w)
      (λ v. fine_leaf depth (frame_in w + i * pages_in depth) (flags_of w) fill_flags (fill_below i h v) (fill_aligned i)
      (let l = fine_low v in omega arith))
      (λ v. let o = flags_valid w ∙ v in
      rw (leaf_hole (flags_of w) fill_flags depth (frame_in w + i * pages_in depth) o) (fine_flags depth (flags_of w) fill_flags o)))
