-- The test of a table's words as a list is the test of its slots.
use Rattle.std.specs.Prelude.{◌≡◌, false, List, [], ◌∷◌, ℕ, zero, suc, ◌*◌, ◌<◌, T, length, get_or, drop}
use Rattle.std.proofs.Common.{sym, ◌∙◌, arith, get_or-take, get_or-drop}
use Rattle.std.proofs.Math.Dec.{eqb, eqb→eq}
use Rattle.laws.specs.Part.{length_part}
use Rattle.laws.specs.Test.{and_l, and_r, and_i, eq→eqb, same_test, all_below, all_to, all_of}
use Rattle.pool.specs.State.{St, word_at}
use Rattle.theory_forest.specs.Compact.{empty_words}
use Rattle.theory_sound.specs.Codec.{slot_word, word_in}
use Rattle.theory_sound.specs.Lists.{TableInside}
use Rattle.compact_spec.specs.Compact.{all_zero, table_words}

-- ---- a list of zeros, word by word

zero_at : (ws : List ℕ) → T (all_zero ws) → (i : ℕ) → i < length ws → get_or ws i 0 ≡ 0
unfolding all_zero
zero_at [] t i h = absurd (omega arith)
zero_at (w ∷ ws) t zero h = eqb→eq w 0 (and_l (eqb w 0) (all_zero ws) t)
zero_at (w ∷ ws) t (suc i) h = zero_at ws (and_r (eqb w 0) (all_zero ws) t) i (omega arith)

at_zero : (ws : List ℕ) → ((i : ℕ) → i < length ws → get_or ws i 0 ≡ 0) → T (all_zero ws)
unfolding all_zero
at_zero [] h = tt
at_zero (w ∷ ws) h = and_i (eqb w 0) (all_zero ws) (eq→eqb w 0 (h 0 (omega arith))) (at_zero ws (λ i l. h (suc i) (omega arith)))

-- ---- a table's words

module _ (s : St) (k : ℕ) (inside : TableInside s k) where
  part_at : (i : ℕ) → i < 512 → get_or (table_words s k) i 0 ≡ slot_word s k i
  part_at i l = get_or-take 512 (drop (512 * k) s.words) i 0 l ∙ get_or-drop (512 * k) s.words i 0 ∙ sym (word_in s k i l)

  part_long : length (table_words s k) ≡ 512
  part_long = length_part (512 * k) 512 s.words inside

  pub empty_is : all_zero (table_words s k) ≡ empty_words (slot_word s k)
  unfolding empty_words
  empty_is = same_test (all_zero (table_words s k)) (all_below 512 (λ i. eqb (slot_word s k i) 0))
      (λ t. all_of 512 (λ i. eqb (slot_word s k i) 0)
      (λ i l. eq→eqb (slot_word s k i) 0 (sym (part_at i l) ∙ zero_at (table_words s k) t i (omega (arith, part_long)))))
      (λ t. at_zero (table_words s k) (λ i l.
      let low : i < 512 = omega (arith, part_long) in
      part_at i low ∙ eqb→eq (slot_word s k i) 0 (all_to 512 (λ i. eqb (slot_word s k i) 0) t i low)))

  -- a table that fails the test has a word that is not 0
  pub not_all_zero : all_zero (table_words s k) ≡ false → ¬ ((i : ℕ) → i < 512 → word_at s k i ≡ 0)
  not_all_zero e zeros =
      let t : T (all_zero (table_words s k)) =
      at_zero (table_words s k) (λ i l. let low : i < 512 = omega (arith, part_long) in part_at i low ∙ word_in s k i low ∙ zeros i low) in
      rw e at t
