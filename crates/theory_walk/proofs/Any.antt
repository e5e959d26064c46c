-- Theorems about the definitions of specs/Any.
use Rattle.std.specs.Prelude.{◌≡◌, refl, true, false, cond, ◌⊎◌, ◌≢◌, eqb}
use Rattle.std.proofs.Common.{sym, ◌∙◌, inl, inr}
use Rattle.std.proofs.Math.Path.{ap}
use Prim.Native.Nat.{ℕ, zero, suc, ◌-◌, ◌%◌}
use native.Mathlib.Omega.{arith}
use Rattle.laws.specs.Test.{by_bool, eqb_cases}
use Rattle.pool.specs.State.{St}
use Rattle.theory_forest.specs.Tree.{tree_at}
use Rattle.theory_forest.specs.Walk.{Ends, walk_word, walk_tree, walk_tree_lem}
use Rattle.theory_sound.specs.Codec.{slot_word, word_in}
use Rattle.arm.specs.Arm.{index, fetch, Reached, at, away, says, reach_from, reach, walk}
use Rattle.arm.specs.Walk.{low_bits, slot_below}
use Rattle.theory_walk.specs.Any.{slots_taken, reached_at, has_table, table_of, tree_read}

module _ (base n : ℕ) (s : St) (va : ℕ) where
  abbrev from : ℕ → ℕ → Reached
  from depth k = reach_from base n s.words va depth k

  -- the word of table k, with `depth` levels below its own, that the walk fetches
  abbrev pub word : ℕ → ℕ → ℕ
  word depth k = slot_word s k (slots_taken va depth)

  pub word_fetched : (depth k : ℕ) → word depth k ≡ fetch s.words va k (3 - depth)
  unfolding slots_taken fetch
  word_fetched depth k = word_in s k (index (3 - depth) va) (slot_below (3 - depth) va)

  -- ---- on from a table above the last level: a table word leads on or away, any other ends the walk

  reach_open : (depth k : ℕ) → from (suc depth) k
      ≡ cond (eqb (word (suc depth) k % 4) 3)
      (cond (has_table base n (word (suc depth) k)) (from depth (table_of base (word (suc depth) k))) away)
      (at (3 - suc depth) (word (suc depth) k))
  unfolding reach_from has_table table_of
  reach_open depth k = let l : 3 - suc depth ≡ 2 - depth = omega arith in rw (word_fetched (suc depth) k, l, low_bits)

  module _ (depth k : ℕ) where
    pub reach_on : word (suc depth) k % 4 ≡ 3 → has_table base n (word (suc depth) k) ≡ true
        → from (suc depth) k ≡ from depth (table_of base (word (suc depth) k))
    reach_on e i = reach_open depth k ∙ rw (e, i)

    reach_off : word (suc depth) k % 4 ≡ 3 → has_table base n (word (suc depth) k) ≡ false → from (suc depth) k ≡ away
    reach_off e i = reach_open depth k ∙ rw (e, i)

    reach_end : eqb (word (suc depth) k % 4) 3 ≡ false → from (suc depth) k ≡ at (3 - suc depth) (word (suc depth) k)
    reach_end e = reach_open depth k ∙ rw e

  -- ---- one induction for any reading of the table words that agrees with the Arm walk at the tables that the walk comes to

  module _ (child : ℕ → ℕ) (On : ℕ → ℕ → Type 0)
      (on : (depth k : ℕ) → On (suc depth) k → let x = word (suc depth) k in
      x % 4 ≡ 3 → (has_table base n x ≡ true) × (table_of base x ≡ child x) × On depth (child x)) where
    abbrev words : ℕ → ℕ → Ends
    words depth k = walk_word (slots_taken va) child depth (slot_word s) (word depth k)

    reach-words : (depth k : ℕ) → On depth k → from depth k ≡ reached_at (words depth k)
    unfolding reach_from walk_word reached_at
    reach-words zero k o = ap (at 3) (sym (word_fetched 0 k))
    reach-words (suc depth) k o = go (reach-words depth) (eqb_cases (x % 4) 3)
      where
        x : ℕ
        x = word (suc depth) k

        go : ((j : ℕ) → On depth j → from depth j ≡ reached_at (words depth j))
            → ((x % 4 ≡ 3) × (eqb (x % 4) 3 ≡ true)) ⊎ ((x % 4 ≢ 3) × (eqb (x % 4) 3 ≡ false))
            → from (suc depth) k ≡ reached_at (words (suc depth) k)
        go below (inl e) =
            let t = on depth k o e.0 in reach_on depth k e.0 t.0 ∙ ap (from depth) t.1 ∙ below (child x) t.2 ∙ rw e.1
        go below (inr e) = reach_end depth k e.1 ∙ rw e.1

    pub reach_reading : (depth k : ℕ) → On depth k
        → from depth k ≡ reached_at (walk_tree (slots_taken va) (suc depth) (tree_at child depth (slot_word s) k))
    reach_reading depth k o = reach-words depth k o ∙ ap reached_at (walk_tree_lem (slots_taken va) child depth (slot_word s) k)

  -- ---- any pool

  -- down from table k: where the walk does not lead away it ends where the walk of the tree does
  pub reach_any : (depth k : ℕ) → from depth k ≢ away
      → from depth k ≡ reached_at (walk_tree (slots_taken va) (suc depth) (tree_read base s depth k))
  reach_any = reach_reading (table_of base) (λ depth k. from depth k ≢ away)
      (λ depth k stays e. by_bool (has_table base n (word (suc depth) k)) (λ i. (i, refl, λ q. stays (reach_on depth k e i ∙ q)))
      (λ i. absurd (stays (reach_off depth k e i))))

  -- the walk of an address, down from a root of this level
  pub walk_any : (root : ℕ) → reach base n s.words va root ≢ away
      → walk base n s.words va root ≡ says va (reached_at (walk_tree (slots_taken va) (suc (3 - root)) (tree_read base s (3 - root) 0)))
  unfolding walk reach
  walk_any root stays = ap (says va) (reach_any (3 - root) 0 stays)
