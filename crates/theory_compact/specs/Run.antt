-- Compact of a table of a sound pool does on lists what it does on the table's tree.
use Rattle.std.specs.Prelude.{◌≡◌, refl}
use Rattle.std.proofs.Common.{sym, ◌∙◌, subst, arith}
use Rattle.std.proofs.Math.Path.{ap}
use Prim.Native.Nat.{ℕ, zero, suc, ◌-◌, ◌≤◌, ◌<◌}
use Rattle.laws.specs.Slot.{iter}
use Rattle.laws.specs.Test.{by_bool}
use Rattle.entry.specs.Sub.{sub_of}
use Rattle.entry.specs.declared.Sub.TheVariants.{Table}
use Rattle.pool.specs.State.{St, tables, word_at, store_at}
use Rattle.pool.specs.declared.Handle.{Handle}
use Rattle.pool_table.specs.Table.{clear}
use Rattle.theory_forest.specs.Tree.{Tree}
use Rattle.theory_forest.specs.Sound.{Codec, Refers, Sound}
use Rattle.theory_forest.proofs.Under.{refers_over}
use Rattle.theory_forest.specs.Frame.{slot_tree}
use Rattle.theory_forest.specs.Place.{below_self}
use Rattle.theory_forest.proofs.Place.{over_refers}
use Rattle.theory_forest.specs.Move.{Runs}
use Rattle.theory_forest.proofs.Move.{work_skip, runs_zero, runs_suc, runs_work}
use Rattle.theory_forest.specs.Compact.{squash, compact_tree}
use Rattle.theory_forest.proofs.Compact.{compact_leaf, compact_keep, compact_drop}
use Rattle.theory_sound.specs.Codec.{Placed, codec_of, view, tree_from}
use Rattle.theory_sound.specs.Clauses.{InUse, SoundPool}
use Rattle.theory_sound.proofs.Generic.{pool_sound}
use Rattle.theory_sound.specs.Lists.{TableInside, SameSize, size_refl, size_trans, store_size, clear-size}
use Rattle.theory_sound.specs.Step.{not_table, Ready, Step, Worked}
use Rattle.theory_sound.proofs.Step.{used_inside, refers_ready, pool_again, ready_again}
use Rattle.theory_sound.specs.Slot.{HoldsLeaf, SlotHolds, holds_table, holds_leaf}
use Rattle.theory_sound.proofs.Slot.{holds}
use Rattle.theory_sound.proofs.Store.{cleared}
use Rattle.compact_spec.specs.Compact.{all_zero, table_words, release_empty, compact_entry, compact_table, release_kept, release_freed}
use Rattle.compact_spec.specs.Compact.{entry-table, entry_leaf}
use Rattle.theory_compact.specs.Empty.{empty_is}

module _ {h : Handle} (placed : Placed h) where
  abbrev C : Codec
  C = codec_of h placed

  -- what is still to be shown of a table one level down
  abbrev Below : ℕ → Type 0
  Below depth =
      (s : St) (j : ℕ) → Ready h s depth j
      → Worked h placed s (compact_table depth h j s) depth j (compact_tree depth (tree_from h s depth j))

  module _ (depth : ℕ) (below : Below depth) where
    abbrev rec : ℕ → St → St
    rec j t = compact_table depth h j t

    abbrev step : ℕ → ℕ → St → St
    step k i s = compact_entry rec h k (3 - suc depth) i s

    abbrev squashed : Tree → Tree
    squashed t = squash (λ u. compact_tree depth u) t

    -- ---- one entry

    module _ (s : St) (k i : ℕ) (R : Ready h s (suc depth) k) (inside : i < 512) where
      abbrev Goal : St → Type 0
      Goal s' = Step h placed s s' (suc depth) k i (squashed (slot_tree C (view s) (suc depth) k i))

      S : Sound C (view s)
      S = pool_sound placed R.pool

      -- the slot refers to no table
      entry_plain : HoldsLeaf h s (suc depth) k i → Goal (step k i s)
      entry_plain holds =
          subst Goal (entry_leaf rec h k (3 - suc depth) i s refl holds.leads)
          (record {
            move = compact_leaf S (λ u. compact_tree depth u) depth R.low (not_table placed s k i inside holds.plain);
            size = size_refl;
          })

      -- a slot that refers to table c: the table is compacted, and freed if that leaves it empty
      module _ (c : ℕ) (r : Refers C (view s) k i c) (leads : sub_of h.base.0 (tables s) (3 - suc depth) (word_at s k i) ≡ Table c) where
        abbrev after : St
        after = compact_table depth h c s

        worked : Worked h placed s after depth c (compact_tree depth (tree_from h s depth c))
        worked = below s c (refers_ready placed R r)

        goes : release_empty k i c after ≡ step k i s
        goes = entry-table rec h k (3 - suc depth) i s refl c leads

        pool : SoundPool h after
        pool = pool_again worked.size placed R.pool worked.work.over.sound

        still : Refers C (view after) k i c
        still = over_refers S R.used r worked.work.over

        used : InUse after k
        used = rw (worked.work.over.ledger k R.used (λ d. refers_over r (suc d))) R.used

        at : TableInside after c
        at = used_inside pool c still.used

        freed : SameSize after (clear c (store_at k i 0 after))
        freed =
            let stored = store_size after k i 0 in
            size_trans stored (clear-size c (store_at k i 0 after) (omega (arith, at, stored.same-words)))

        entry_refers : Goal (step k i s)
        entry_refers = by_bool (all_zero (table_words after c))
            (λ yes. subst Goal (release_freed k i c after yes ∙ goes) (record {
              move =
                  compact_drop S (λ u. compact_tree depth u) depth R.used r worked.work inside R.low
                  (sym (empty_is after c at) ∙ yes)
                  (cleared placed pool k i 0 used inside still);
              size = size_trans worked.size freed;
            }))
            (λ no. subst Goal (release_kept k i c after no ∙ goes) (record {
              move = compact_keep S (λ u. compact_tree depth u) depth R.used r worked.work (sym (empty_is after c at) ∙ no);
              size = worked.size;
            }))

      entry_moves : Goal (step k i s)
      entry_moves = go (holds placed R i inside)
        where
          go : SlotHolds placed s depth k i → Goal (step k i s)
          go (holds_table c r both leads shows) = entry_refers c r leads
          go (holds_leaf other plain) = entry_plain plain

    -- ---- the first n entries

    record Ran (s s' : St) (k n : ℕ) : Type 0 where
      runs : Runs C (view s) (view s') (suc depth) k n (λ i. squashed (slot_tree C (view s) (suc depth) k i))
      size : SameSize s s'

    ran : (s : St) (k n : ℕ) → n ≤ 512 → Ready h s (suc depth) k → Ran s (iter (step k) n s) k n
    unfolding iter
    ran s k zero small R = record {
      runs = runs_zero (pool_sound placed R.pool) (suc depth) k (λ i. squashed (slot_tree C (view s) (suc depth) k i));
      size = size_refl;
    }
    ran s k (suc n) small R =
        let before = ran s k n (omega arith) R in
        let over = before.runs.over in
        let now = ready_again before.size placed R over.sound (over.ledger k R.used below_self) in
        let next = entry_moves (iter (step k) n s) k n now (omega arith) in
        record {
          runs = runs_suc (pool_sound placed R.pool) R.used R.low before.runs
              (record { at = next.move.at; tree = next.move.tree ∙ ap squashed (before.runs.high n (omega arith)) });
          size = size_trans before.size next.size;
        }

  -- COMPACT of a table: its tree is compacted
  pub table_worked : (depth : ℕ) → Below depth
  unfolding compact_table compact_tree
  table_worked zero s k R =
      record { work = work_skip (pool_sound placed R.pool) 0 k; size = size_refl }
  table_worked (suc depth) s k R =
      let all = ran depth (table_worked depth) s k 512 (omega arith) R in
      record { work = runs_work (λ i t. squash (λ u. compact_tree depth u) t) all.runs; size = all.size }
