-- A pool that was made is sound, whatever was lent. Leans on `Clauses`.
use Rattle.std.specs.Prelude.{◌≡◌, ◌⊎◌, ◌≢◌, ℕ, ◌+◌, ◌*◌, ◌≤◌, ◌<◌, length, get_or, replicate}
use Rattle.std.proofs.Common.{◌∙◌, inl, inr, arith}
use Rattle.std.proofs.Math.ListN.{length-replicate, length-set, get_or-eq_default}
use Rattle.std.proofs.lemmas.List.{get_or-replicate}
use Rattle.std.proofs.Math.Seq.{get_or-set_same, get_or-set_other}
use Rattle.laws.specs.Test.{le_or}
use Rattle.pool.specs.State.{St, tables, word_at, number_at}
use Rattle.pool.specs.Number.{root_number}
use Rattle.pool.specs.Refuse.{Shaped}
use Rattle.pool.specs.Sound.{flag_set}
use Rattle.make.specs.Call.{fresh}
use Rattle.pool.specs.declared.Handle.{Handle}
use Rattle.theory_sound.specs.Codec.{zero_leaf_lem}
use Rattle.theory_sound.specs.Clauses.{level_at, SoundPool}
use Rattle.theory_sound.proofs.Generic.{leaf_says}

zero_at : (n i : ℕ) → ◌≡◌ {A = ℕ} (get_or (replicate n 0) i 0) 0
zero_at n i = go (le_or n i)
  where
    go : (n ≤ i) ⊎ (i < n) → ◌≡◌ {A = ℕ} (get_or (replicate n 0) i 0) 0
    go (inl h) =
        let e = length-replicate {A = ℕ} n 0 in
        let past : length (replicate {A = ℕ} n 0) ≤ i = omega arith in
        get_or-eq_default (replicate n 0) 0 past
    go (inr h) = get_or-replicate n i 0 0 h

module _ (h : Handle) (s : St) where
  word-zero : (k i : ℕ) → word_at (fresh h s) k i ≡ 0
  unfolding fresh
  word-zero k i = zero_at (length s.words) (512 * k + i)

  other_free : (k : ℕ) → k ≢ 0 → number_at (fresh h s) k ≡ 0
  unfolding fresh
  other_free k n = get_or-set_other (replicate (length s.ledger) 0) 0 k (root_number h.level) 0 n ∙ zero_at (length s.ledger) k

  fresh-tables : tables (fresh h s) ≡ tables s
  unfolding fresh
  fresh-tables = length-set (replicate (length s.ledger) 0) 0 (root_number h.level) ∙ length-replicate {A = ℕ} (length s.ledger) 0

  fresh-words : length (fresh h s).words ≡ length s.words
  unfolding fresh
  fresh-words = length-replicate {A = ℕ} (length s.words) 0

  module _ (shape : Shaped h s) where
    fresh_root : number_at (fresh h s) 0 ≡ root_number h.level
    unfolding fresh
    fresh_root =
        let e = length-replicate {A = ℕ} (length s.ledger) 0 in
        get_or-set_same (replicate (length s.ledger) 0) 0 (root_number h.level) 0 (omega (arith, shape.some))

    -- make leaves a sound pool
    pub made_sound : SoundPool h (fresh h s)
    made_sound = record {
      sized = let w = fresh-words in let n = fresh-tables in omega (arith, shape.sized);
      root = fresh_root;
      hangs = λ k n used. let z = other_free k n in absurd (omega arith);
      links = λ k i small used table. let z = word-zero k i in absurd (omega (arith, table.1));
      leaves =
          λ k i small used plain. rw (word-zero k i)
          (leaf_says (flag_set h) (level_at (fresh h s) k) 0 (omega arith) (zero_leaf_lem (flag_set h) (level_at (fresh h s) k)));
      free = λ k i inside small none. word-zero k i;
    }
