-- The check's runs index by index, and all of them as one row of words: the tables' links summed over the row, the tables' runs passed word
-- by word.
use Rattle.std.specs.Prelude.{◌≡◌, refl, Bool, List, [], ◌∷◌, ℕ, zero, suc, ◌+◌, ◌*◌, ◌/◌, ◌%◌, ◌<◌, ltb, length, get_or, drop}
use Rattle.std.proofs.Math.Path.{sym, ap, subst, subst⁻¹}
use Rattle.std.proofs.Common.{◌∙◌, add_assoc, lt→ltb, get_or-take, get_or-drop}
use native.Mathlib.Omega.{arith}
use Rattle.std.proofs.Math.Dec.{T}
use Rattle.laws.specs.Part.{part_of, length_part}
use Rattle.laws.specs.Sum.{sum, sum_ext, sum_shift, sum_pieces, tally, tally_yes, tally_no}
use Rattle.laws.specs.Test.{and_l, and_r, and_i, all_below, all_to, all_of}
use Rattle.pool.specs.State.{St, tables, number_at}
use Rattle.pool.specs.Number.{used}
use Rattle.pool.specs.Sound.{flag_set}
use Rattle.checker_words.specs.Words.{passesb, pass_all, link_count, count_all}
use Rattle.checker_pass.specs.Pass.{run_words, run_passes, run_links, table_links}
use Rattle.pool.specs.declared.Handle.{Handle}

-- ---- a run of words, index by index

pub pass_all_to : (set y : ℕ) (ws : List ℕ) → T (pass_all set y ws) → (i : ℕ) → i < length ws → T (passesb set y (get_or ws i 0))
unfolding pass_all
pass_all_to set y [] t i h = absurd (omega arith)
pass_all_to set y (w ∷ ws) t zero h = and_l (passesb set y w) (pass_all set y ws) t
pass_all_to set y (w ∷ ws) t (suc i) h = pass_all_to set y ws (and_r (passesb set y w) (pass_all set y ws) t) i (omega arith)

pub pass_all_of : (set y : ℕ) (ws : List ℕ) → ((i : ℕ) → i < length ws → T (passesb set y (get_or ws i 0))) → T (pass_all set y ws)
unfolding pass_all
pass_all_of set y [] h = tt
pass_all_of set y (w ∷ ws) h =
    and_i (passesb set y w) (pass_all set y ws) (h 0 (omega arith)) (pass_all_of set y ws (λ i l. h (suc i) (omega arith)))

pub count_all_lem : (y : ℕ) (ws : List ℕ) → count_all y ws ≡ sum (length ws) (λ i. link_count y (get_or ws i 0))
unfolding count_all sum
count_all_lem y [] = refl
count_all_lem y (w ∷ ws) = let r = count_all_lem y ws in let t = sum_shift (length ws) (λ i. link_count y (get_or (w ∷ ws) i 0)) in omega arith

-- the used tables of a ledger, counted
pub used-sum : (l : List ℕ) → used l ≡ sum (length l) (λ k. tally (ltb 0 (get_or l k 0)))
unfolding used sum
used-sum [] = refl
used-sum (zero ∷ l) =
    let r = used-sum l in
    let t = sum_shift (length l) (λ k. tally (ltb 0 (get_or (zero ∷ l) k 0))) in
    let e : tally (ltb 0 zero) ≡ 0 = tally_no (ltb 0 zero) (λ z. z) in
    omega arith
used-sum (suc x ∷ l) =
    let r = used-sum l in
    let t = sum_shift (length l) (λ k. tally (ltb 0 (get_or (suc x ∷ l) k 0))) in
    let e : tally (ltb 0 (suc x)) ≡ 1 = tally_yes (ltb 0 (suc x)) (lt→ltb 0 (suc x) (omega arith)) in
    omega arith

-- ---- the pool's words in one row: the word at x stands in slot x % 512 of table x / 512

abbrev pub word_in : St → ℕ → ℕ
word_in s x = get_or s.words x 0

-- the number of its table
abbrev pub number_in : St → ℕ → ℕ
number_in s x = number_at s (x / 512)

-- 1 for a table word of a used table
unfoldable pub link_in : St → ℕ → ℕ
link_in s x = link_count (number_in s x) (word_in s x)

-- the word may stand there, links apart
unfoldable pub pass_in : Handle → St → ℕ → Bool
pass_in h s x = passesb (flag_set h) (number_in s x) (word_in s x)

part_at : (a k : ℕ) (l : List ℕ) (i : ℕ) → i < k → get_or (part_of a k l) i 0 ≡ get_or l (a + i) 0
part_at a k l i h = get_or-take k (drop a l) i 0 h ∙ get_or-drop a l i 0

module _ (s : St) (sized : length s.words ≡ 512 * tables s) where
  run_length : (k r : ℕ) → k < tables s → r < 4 → length (run_words s k r) ≡ 128
  run_length k r h l = length_part (512 * k + 128 * r) 128 s.words (omega arith)

  run-word : (k r i : ℕ) → i < 128 → get_or (run_words s k r) i 0 ≡ word_in s (512 * k + (128 * r + i))
  run-word k r i h = part_at (512 * k + 128 * r) 128 s.words i h ∙ ap (word_in s) (add_assoc (512 * k) (128 * r) i)

  run-number : (k r i : ℕ) → r < 4 → i < 128 → number_in s (512 * k + (128 * r + i)) ≡ number_at s k
  run-number k r i l h = ap (number_at s) (let e : (512 * k + (128 * r + i)) / 512 ≡ k = omega arith in e)

  -- the links of all tables
  run_links_lem : (k r : ℕ) → k < tables s → r < 4 → run_links s k r ≡ sum 128 (λ i. link_in s (512 * k + (128 * r + i)))
  unfolding run_links link_in
  run_links_lem k r h l =
      count_all_lem (number_at s k) (run_words s k r)
      ∙ ap (λ (m : ℕ). sum m (λ i. link_count (number_at s k) (get_or (run_words s k r) i 0))) (run_length k r h l)
      ∙ sum_ext 128 (λ i. link_count (number_at s k) (get_or (run_words s k r) i 0)) (λ i. link_in s (512 * k + (128 * r + i)))
      (λ i m. rw (run-word k r i m, run-number k r i l m))

  table_links_lem : (k : ℕ) → k < tables s → table_links s k ≡ sum 512 (λ i. link_in s (512 * k + i))
  unfolding table_links
  table_links_lem k h =
      sum_ext 4 (run_links s k) (λ r. sum 128 (λ i. link_in s (512 * k + (128 * r + i)))) (λ r l. run_links_lem k r h l)
      ∙ sym (sum_pieces 4 128 (λ i. link_in s (512 * k + i)))

  pub all_links : sum (tables s) (table_links s) ≡ sum (512 * tables s) (link_in s)
  all_links =
      sum_ext (tables s) (table_links s) (λ k. sum 512 (λ i. link_in s (512 * k + i))) table_links_lem
      ∙ sym (sum_pieces (tables s) 512 (link_in s))

  -- every run of every table passes exactly when every word does
  module _ (h : Handle) where
    run_pass : (k r i : ℕ) → r < 4 → i < 128
        → passesb (flag_set h) (number_at s k) (get_or (run_words s k r) i 0) ≡ pass_in h s (512 * k + (128 * r + i))
    unfolding pass_in
    run_pass k r i l m = rw (run-word k r i m, run-number k r i l m)

    pub runs_to : ((k : ℕ) → k < tables s → T (all_below 4 (run_passes h s k))) → (x : ℕ) → x < 512 * tables s → T (pass_in h s x)
    unfolding run_passes
    runs_to t x q =
        let k = x / 512 in
        let r = x % 512 / 128 in
        let i = x % 128 in
        let l : r < 4 = omega arith in
        let m : i < 128 = omega arith in
        let b : k < tables s = omega arith in
        let e : 512 * k + (128 * r + i) ≡ x = omega arith in
        subst (λ (y : ℕ). T (pass_in h s y)) e (subst T (run_pass k r i l m)
        (pass_all_to (flag_set h) (number_at s k) (run_words s k r) (all_to 4 (run_passes h s k) (t k b) r l) i
        (omega (arith, run_length k r b l))))

    pub runs_of : ((x : ℕ) → x < 512 * tables s → T (pass_in h s x)) → (k : ℕ) → k < tables s → T (all_below 4 (run_passes h s k))
    unfolding run_passes
    runs_of t k b =
        all_of 4 (run_passes h s k) (λ r l. pass_all_of (flag_set h) (number_at s k) (run_words s k r)
        (λ i m. let q : i < 128 = omega (arith, run_length k r b l) in
        subst⁻¹ T (run_pass k r i l q) (t (512 * k + (128 * r + i)) (omega arith))))
