-- What a store, a replaced table and a cleared table do to the words and numbers that are read, slot by slot, and to the lists' lengths.
use Rattle.std.specs.Prelude.{◌≡◌, refl, List, ◌⊎◌, ◌≢◌, ℕ, ◌+◌, ◌*◌, ◌≤◌, ◌<◌, length, set}
use Rattle.std.proofs.Math.Path.{sym}
use Rattle.std.proofs.Common.{◌∙◌, inl, inr, arith}
use Rattle.std.proofs.Math.ListN.{get_or, length-set, get_or-eq_default}
use Rattle.std.proofs.Math.Seq.{get_or-set_same, get_or-set_other}
use Rattle.laws.specs.Part.{put_before, put_inside, put-after}
use Rattle.laws.specs.Test.{le_or}
use Rattle.pool.specs.State.{store_at, St, st, tables, word_at, number_at}
use Rattle.pool_table.specs.Table.{put_table, zeros, clear, length-zeros, zeros_at, length-table}
use Rattle.theory_forest.specs.Keep.{SameSlot}
use Rattle.theory_sound.specs.Codec.{slot_word, word_in, word_out}

-- table k stands in the words
abbrev pub TableInside : St → ℕ → Type 0
TableInside s k = 512 * k + 512 ≤ length s.words

-- the lists of q' are as long as those of q
pub record SameSize (q q' : St) : Type 0 where
  pub same_tables : tables q' ≡ tables q
  pub same-words : length q'.words ≡ length q.words

pub size_refl : {q : St} → SameSize q q
size_refl = record { same_tables = refl; same-words = refl }

pub size_trans : {q q' q'' : St} → SameSize q q' → SameSize q' q'' → SameSize q q''
size_trans a b = record { same_tables = b.same_tables ∙ a.same_tables; same-words = b.same-words ∙ a.same-words }

-- ---- one store

pub store_size : (s : St) (p i v : ℕ) → SameSize s (store_at p i v s)
store_size s p i v = record { same_tables = refl; same-words = length-set s.words (512 * p + i) v }

module _ (s : St) (p i v : ℕ) (inside : i < 512) where
  pub store_here : TableInside s p → slot_word (store_at p i v s) p i ≡ v
  store_here at = word_in (store_at p i v s) p i inside ∙ get_or-set_same s.words (512 * p + i) v 0 (omega arith)

  pub store_other : (k j : ℕ) → ¬ (SameSlot k j p i) → slot_word (store_at p i v s) k j ≡ slot_word s k j
  store_other k j other = go (le_or 512 j)
    where
      go : (512 ≤ j) ⊎ (j < 512) → slot_word (store_at p i v s) k j ≡ slot_word s k j
      go (inl past) = word_out (store_at p i v s) k j past ∙ sym (word_out s k j past)
      go (inr below) =
          word_in (store_at p i v s) k j below
          ∙ get_or-set_other s.words (512 * p + i) (512 * k + j) v 0
          (λ e. other (let a : k ≡ p = omega arith in a, let b : j ≡ i = omega arith in b))
          ∙ sym (word_in s k j below)

-- ---- one table replaced

module _ (s : St) (l t : List ℕ) (f : ℕ) (full : length t ≡ 512) (at : TableInside s f) where
  pub put_here : (i : ℕ) → slot_word (st (put_table f t s.words) l) f i ≡ get_or t i 0
  unfolding put_table
  put_here i = go (le_or 512 i)
    where
      go : (512 ≤ i) ⊎ (i < 512) → slot_word (st (put_table f t s.words) l) f i ≡ get_or t i 0
      go (inl past) = word_out (st (put_table f t s.words) l) f i past ∙ sym (get_or-eq_default t 0 (omega arith))
      go (inr below) =
          word_in (st (put_table f t s.words) l) f i below ∙ put_inside (512 * f) t s.words i 0 (omega arith) (omega arith)

  pub put_other : (k i : ℕ) → k ≢ f → slot_word (st (put_table f t s.words) l) k i ≡ slot_word s k i
  unfolding put_table
  put_other k i other = go (le_or 512 i)
    where
      side : i < 512 → (f ≤ k) ⊎ (k < f) → word_at (st (put_table f t s.words) l) k i ≡ word_at s k i
      side below (inl above) = put-after (512 * f) t s.words (512 * k + i) 0 (omega arith) (omega arith)
      side below (inr under) = put_before (512 * f) t s.words (512 * k + i) 0 (omega arith) (omega arith)

      go : (512 ≤ i) ⊎ (i < 512) → slot_word (st (put_table f t s.words) l) k i ≡ slot_word s k i
      go (inl past) = word_out (st (put_table f t s.words) l) k i past ∙ sym (word_out s k i past)
      go (inr below) = word_in (st (put_table f t s.words) l) k i below ∙ side below (le_or f k) ∙ sym (word_in s k i below)

-- ---- one table cleared

module _ (k : ℕ) (s : St) where
  pub clear-size : TableInside s k → SameSize s (clear k s)
  unfolding clear
  clear-size at =
      record { same_tables = length-set s.ledger k 0; same-words = length-table k zeros s.words length-zeros at }

  -- past the ledger's end 0 is read, so no range is asked
  pub clear-number : number_at (clear k s) k ≡ 0
  unfolding clear
  clear-number = go (le_or (tables s) k)
    where
      go : (tables s ≤ k) ⊎ (k < tables s) → get_or (set s.ledger k 0) k 0 ≡ 0
      go (inl past) = get_or-eq_default (set s.ledger k 0) 0 (let e = length-set s.ledger k 0 in omega arith)
      go (inr below) = get_or-set_same s.ledger k 0 0 below

  pub clear_number_other : (j : ℕ) → j ≢ k → number_at (clear k s) j ≡ number_at s j
  unfolding clear
  clear_number_other j other = get_or-set_other s.ledger k j 0 0 other

  pub clear-word : TableInside s k → (i : ℕ) → slot_word (clear k s) k i ≡ 0
  unfolding clear
  clear-word at i = put_here s (set s.ledger k 0) zeros k length-zeros at i ∙ zeros_at i

  pub clear_word_other : TableInside s k → (j i : ℕ) → j ≢ k → slot_word (clear k s) j i ≡ slot_word s j i
  unfolding clear
  clear_word_other at j i other = put_other s (set s.ledger k 0) zeros k length-zeros at j i other
