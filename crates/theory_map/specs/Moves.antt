-- What a rule does to a slot of a sound pool, as a move with its count: how many tables fewer may be free after it.
use Rattle.std.specs.Prelude.{◌≡◌, List, ℕ, suc, ◌+◌, ◌-◌, ◌≤◌, ◌<◌, get_or, Some}
use Rattle.std.proofs.Common.{sym, subst, ◌∙◌, arith}
use Rattle.std.proofs.Math.Bridge.{le_prop}
use Rattle.std.proofs.Math.Nat.{ℕ_set}
use Rattle.pool.specs.State.{St, word_at, number_at, store_at}
use Rattle.pool.specs.Number.{level_of, number_of, lowest_free, lowest_found, free, level_back}
use Rattle.pool.specs.declared.Handle.{Handle}
use Rattle.pool_table.specs.Table.{take_at, free_tree}
use Rattle.map_rules.specs.Rules.{fill_of}
use Rattle.theory_forest.specs.Tree.{Tree, leaf, node, tree_at_node}
use Rattle.theory_forest.specs.Sound.{TableWord, IsTable, Refers}
use Rattle.theory_forest.specs.Split.{Splits, SplitFits}
use Rattle.theory_forest.proofs.Split.{new_tree}
use Rattle.theory_forest.proofs.Place.{over_trans}
use Rattle.theory_forest.proofs.Move.{move_skip, move_down, move_split, split_at}
use Rattle.theory_sound.specs.Clauses.{level_at}
use Rattle.theory_sound.specs.Codec.{Placed, shaped_placed, codec_of, child_of, slot_word, view, number_pos, tree_from, root_tree}
use Rattle.theory_sound.proofs.Generic.{pool_sound}
use Rattle.theory_sound.specs.Lists.{SameSize, size_refl, size_trans}
use Rattle.theory_sound.specs.Step.{Stands, not_table, Ready, Step, Worked}
use Rattle.theory_sound.proofs.Step.{pool_again, shaped_again}
use Rattle.theory_sound.specs.Slot.{slot_shows}
use Rattle.theory_sound.proofs.Store.{store_step}
use Rattle.theory_sound.specs.Take.{take-free}
use Rattle.theory_sound.proofs.Take.{take-splits, take_fit, take-size}
use Rattle.theory_sound.proofs.Free.{free_step, free-free}
use Rattle.theory_tree.specs.Fine.{Fine}
use Rattle.theory_tree.specs.Visit.{fill_tree}
use Rattle.theory_map.specs.Leaf.{leaf_fine, leaf_from}
use Rattle.theory_map.specs.Rule.{fill_length, fill_at, fill_tree_lem}
use Rattle.theory_map.specs.Stand.{fill_stands}

-- what refusal 1 asks of a handle is one fact
pub placed_one : {h : Handle} (a b : Placed h) → a ≡ b
placed_one a b = λ i. record { paged = ℕ_set _ _ a.paged b.paged i; level = le_prop a.level b.level i }

module _ {h : Handle} (placed : Placed h) where
  -- s' is s after a step at slot i of table k, which now shows t; at most `cost` tables fewer are free
  pub record StepWithin (s s' : St) (depth k i : ℕ) (t : Tree) (cost : ℕ) : Type 0 where
    pub step : Step h placed s s' depth k i t
    pub spare : free s.ledger ≤ free s'.ledger + cost

  -- s' is s after work at table k, which now shows t; at most `cost` tables fewer are free
  pub record WorkedWithin (s s' : St) (depth k : ℕ) (t : Tree) (cost : ℕ) : Type 0 where
    pub worked : Worked h placed s s' depth k t
    pub spare : free s.ledger ≤ free s'.ledger + cost

  module _ {s : St} {depth k : ℕ} (R : Ready h s depth k) (i cost : ℕ) where
    -- rule 2: nothing is done
    pub kept : StepWithin s s depth k i (slot_shows h s depth k i) cost
    kept = record {
      step = record { move = move_skip (pool_sound placed R.pool) depth k i; size = size_refl };
      spare = omega arith;
    }

    -- rules 1 and 3: a word is written
    pub stored : (v : ℕ) → i < 512 → ¬ (TableWord (level_at s k) (word_at s k i)) → Stands h (level_at s k) v
        → StepWithin s (store_at k i v s) depth k i (leaf v) cost
    stored v inside old stands =
        record { step = store_step placed R.pool k i v R.used inside depth R.low old stands; spare = omega arith }

  module _ {s : St} {depth k : ℕ} (R : Ready h s (suc depth) k) (i : ℕ) (inside : i < 512) where
    -- rule 4: a word is written and the subtree freed
    pub dropped : (cost v : ℕ) {e : ℕ} → Refers (codec_of h placed) (view s) k i e → Stands h (level_at s k) v
        → StepWithin s (free_tree depth h e (store_at k i v s)) (suc depth) k i (leaf v) cost
    dropped cost v {e} r stands =
        let one : placed ≡ shaped_placed R.shape = placed_one placed (shaped_placed R.shape) in
        let r' = subst (λ (p : Placed h). Refers (codec_of h p) (view s) k i e) one r in
        record {
          step = subst (λ (p : Placed h). Step h p s (free_tree depth h e (store_at k i v s)) (suc depth) k i (leaf v)) (sym one)
              (free_step R.shape R.pool depth k i v R.used inside R.low r' stands);
          spare = omega (arith, free-free R.shape R.pool depth k i v R.used inside R.low r');
        }

    -- rule 5 at a table: the work is done below
    pub entered : {s' : St} {e cost : ℕ} {t : Tree} → Refers (codec_of h placed) (view s) k i e → WorkedWithin s s' depth e t cost
        → StepWithin s s' (suc depth) k i t cost
    entered r W = record {
      step =
          record { move = move_down (pool_sound placed R.pool) depth R.used r W.worked.work; size = W.worked.size };
      spare = W.spare;
    }

    -- rule 5 at a leaf: the lowest free table f is taken, filled and linked, and the work is done there
    module _ (old : ¬ (TableWord (level_at s k) (word_at s k i))) (f : ℕ) (found : lowest_free s.ledger ≡ Some f) where
      abbrev w : ℕ
      w = word_at s k i

      abbrev level : ℕ
      level = 3 - suc depth

      abbrev words : List ℕ
      words = fill_of level w

      abbrev pub after : St
      after = take_at h k (level + 1) i words f s

      own : level + 1 ≡ level_at s k + 1
      own = omega (arith, R.low)

      fine : Fine (suc depth) w
      fine =
          let e : 3 - level_at s k ≡ suc depth = omega (arith, R.low) in
          subst (λ (l : ℕ). Fine l w) e (leaf_fine h (level_at s k) w (omega arith) (R.pool.leaves k i inside R.used old))

      filled : (j : ℕ) → j < 512 → Stands h (level + 1) (get_or words j 0)
      filled j small =
          subst (Stands h (level + 1)) (sym (fill_at depth w (omega (arith, R.low)) j small))
          (fill_stands h depth w fine j small (level + 1) (omega (arith, R.low))
          (leaf_from R.pool k i inside R.used old))

      high : level + 1 ≤ 3
      high = omega arith

      splits : Splits (codec_of h placed) (view s) (view after) k i f (number_of k (level + 1) i) (λ j. get_or words j 0)
      splits = take-splits placed R.pool k (level + 1) i words f R.used inside own high (fill_length level w) found

      fit : SplitFits (codec_of h placed) (view s) k i f (number_of k (level + 1) i) (λ j. get_or words j 0)
      fit = take_fit placed R.pool k (level + 1) i words f R.used inside own high (fill_length level w) found filled

      none : ¬ (IsTable (codec_of h placed) (view s) k i)
      none = not_table placed s k i inside old

      fresh : number_at s f ≡ 0
      fresh = (lowest_found s.ledger f found).free

      size : SameSize s after
      size = take-size placed R.pool k (level + 1) i words f R.used inside own high (fill_length level w) found

      at_level : level_of (number_of k (level + 1) i) ≡ level + 1
      at_level = level_back k (level + 1) i (omega arith)

      pub taken_ready : Ready h after depth f
      taken_ready =
          record {
            shape = shaped_again size R.shape;
            pool =
                pool_again size placed R.pool
                (split_at (pool_sound placed R.pool) splits fit R.used inside none fresh).sound;
            used = rw splits.number (number_pos k (level + 1) i);
            low = rw (splits.number, at_level) (omega (arith, R.low));
          }

      -- the new table shows the split's fill
      pub taken_shows : tree_from h after depth f ≡ fill_tree depth w
      taken_shows =
          let low : level_of (number_of k (level + 1) i) + depth ≡ 3 = rw at_level (omega (arith, R.low)) in
          new_tree (pool_sound placed R.pool) splits fit R.used inside none fresh depth low
          ∙ fill_tree_lem depth w (omega (arith, R.low))

      pub split : {s' : St} {cost : ℕ} {t : Tree} → WorkedWithin after s' depth f t cost → StepWithin s s' (suc depth) k i t (1 + cost)
      split W = record {
        step = record {
          move = move_split (pool_sound placed R.pool) splits fit R.used inside none fresh depth W.worked.work;
          size = size_trans size W.worked.size;
        };
        spare = omega (arith, W.spare, take-free h k (level + 1) i words s f found);
      }

  -- ---- work on a whole table

  -- more work after it
  pub worked_twice : {s s' s'' : St} {depth k cost more : ℕ} {t t' : Tree} → Ready h s depth k → WorkedWithin s s' depth k t cost
      → WorkedWithin s' s'' depth k t' more → WorkedWithin s s'' depth k t' (cost + more)
  worked_twice R W next = record {
    worked = record {
      work = record {
        over = over_trans (pool_sound placed R.pool) W.worked.work.over next.worked.work.over;
        tree = next.worked.work.tree;
      };
      size = size_trans W.worked.size next.worked.size;
    };
    spare = omega (arith, W.spare, next.spare);
  }

pub root_node : (h : Handle) (s : St) → root_tree h s ≡ node (λ i. slot_shows h s (3 - h.level) 0 i)
root_node h s = tree_at_node (child_of h.base.0) (3 - h.level) (slot_word s) 0
