-- The first step on lists: a leaf word stored over a leaf word. The fourth: a table whose words are all 0 is unlinked and cleared.
use Rattle.std.specs.Prelude.{◌≡◌, refl, ◌⊎◌, ◌≢◌, ℕ, ◌+◌, ◌*◌, ◌≤◌, ◌<◌}
use Rattle.std.proofs.Common.{ap, ◌∙◌, inl, inr, arith, length-set}
use Rattle.laws.specs.Test.{le_or}
use Rattle.pool.specs.State.{store_at, St, word_at, number_at}
use Rattle.pool_table.specs.Table.{clear}
use Rattle.pool.specs.declared.Handle.{Handle}
use Rattle.theory_forest.specs.Tree.{leaf}
use Rattle.theory_forest.specs.Sound.{TableWord, Refers}
use Rattle.theory_forest.proofs.Under.{refers_level}
use Rattle.theory_forest.specs.Store.{Stored}
use Rattle.theory_forest.specs.Free.{Clears}
use Rattle.theory_forest.proofs.Free.{free_empty_frees}
use Rattle.theory_forest.proofs.Move.{move_store, move_free}
use Rattle.theory_sound.specs.Codec.{Placed, codec_of, slot_word, view, word_in, word_out}
use Rattle.theory_sound.specs.Clauses.{InUse, level_at, SoundPool}
use Rattle.theory_sound.proofs.Generic.{pool_sound}
use Rattle.theory_sound.specs.Lists.{TableInside, size_trans, store_size, store_here, store_other, clear-size, clear-number}
use Rattle.theory_sound.specs.Lists.{clear_number_other, clear-word, clear_word_other}
use Rattle.theory_sound.specs.Step.{Stands, not_table, Step}
use Rattle.theory_sound.proofs.Step.{stands_fits, used_inside}

module _ {h : Handle} (placed : Placed h) {s : St} (P : SoundPool h s) (p i v : ℕ) (in_use : InUse s p) (inside : i < 512) where
  pub stored : Stored (view s) (view (store_at p i v s)) p i v
  stored = record {
    here = store_here s p i v inside (used_inside P p in_use);
    words = store_other s p i v inside;
    ledger = λ k. refl;
  }

  -- STORE: a leaf over a leaf. The ledger stays, and so the counts.
  pub store_step : (depth : ℕ) → level_at s p + depth ≡ 3 → ¬ (TableWord (level_at s p) (word_at s p i)) → Stands h (level_at s p) v
      → Step h placed s (store_at p i v s) depth p i (leaf v)
  store_step depth low old stands = record {
    move =
        move_store (pool_sound placed P) depth in_use inside low (stands_fits h placed (number_at s p) stands) stored
        (not_table placed s p i inside old);
    size = store_size s p i v;
  }

  -- ---- an empty table

  module _ {e : ℕ} (r : Refers (codec_of h placed) (view s) p i e) where
    pub cleared : Clears (view s) (view (clear e (store_at p i v s))) p i e v
    cleared = record {
      here = clear_word_other e (store_at p i v s) at p i apart ∙ store_here s p i v inside (used_inside P p in_use);
      gone = clear-number e (store_at p i v s);
      empty = clear-word e (store_at p i v s) at;
      words = λ j k other off. clear_word_other e (store_at p i v s) at j k other ∙ store_other s p i v inside j k off;
      ledger = λ j other. clear_number_other e (store_at p i v s) j other;
    }
      where
        apart : p ≢ e
        apart same = omega (arith, refers_level r, ap (level_at s) same)

        at : TableInside (store_at p i v s) e
        at = omega (arith, used_inside P e r.used, length-set s.words (512 * p + i) v)

    -- CLEAR: a table whose words are all 0
    pub clear_step : (depth : ℕ) → level_at s p + depth ≡ 3 → Stands h (level_at s p) v → ((j : ℕ) → j < 512 → word_at s e j ≡ 0)
        → Step h placed s (clear e (store_at p i v s)) depth p i (leaf v)
    clear_step depth low stands zeros = record {
      move = move_free (pool_sound placed P) depth in_use inside low (stands_fits h placed (number_at s p) stands)
          (free_empty_frees (pool_sound placed P) r.used (λ j. empty j (le_or 512 j)) cleared) r;
      size = size_trans (store_size s p i v) (clear-size e (store_at p i v s) at);
    }
      where
        at : TableInside (store_at p i v s) e
        at = omega (arith, used_inside P e r.used, length-set s.words (512 * p + i) v)

        empty : (j : ℕ) → (512 ≤ j) ⊎ (j < 512) → slot_word s e j ≡ 0
        empty j (inl past) = word_out s e j past
        empty j (inr below) = word_in s e j below ∙ zeros j below
