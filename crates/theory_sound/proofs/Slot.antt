-- Theorems about the definitions of specs/Slot.
use Rattle.std.specs.Prelude.{◌≡◌, ◌⊎◌, ◌≢◌, ℕ, suc, ◌-◌, ◌%◌, ◌<◌}
use Rattle.std.proofs.Common.{sym, ap, ◌∙◌, inl, inr, arith}
use Rattle.laws.specs.Test.{eq_or}
use Rattle.entry.specs.Sub.{sub_leaf, sub_link}
use Rattle.pool.specs.State.{St, tables, word_at, used_in}
use Rattle.pool.specs.declared.Handle.{Handle}
use Rattle.theory_forest.specs.Tree.{tree_at_node}
use Rattle.theory_forest.specs.Sound.{TableWord, Refers}
use Rattle.theory_forest.proofs.Frame.{slot_refers}
use Rattle.theory_forest.specs.Keep.{slot_leaf}
use Rattle.theory_sound.specs.Codec.{Placed, codec_of, child_of, slot_word, view, word_in}
use Rattle.theory_sound.specs.Clauses.{level_at}
use Rattle.theory_sound.proofs.Generic.{pool_sound}
use Rattle.theory_sound.specs.Step.{Ready}
use Rattle.theory_sound.specs.Slot.{HoldsLeaf, SlotHolds, holds_table, holds_leaf}

module _ {h : Handle} (placed : Placed h) {s : St} where
  leaf_holds : {depth k : ℕ} → Ready h s depth k → (i : ℕ) → i < 512 → ¬ (TableWord (level_at s k) (word_at s k i))
      → HoldsLeaf h s depth k i
  leaf_holds {depth} {k} R i inside plain = record {
    plain = plain;
    leads =
        sym (sub_leaf h.base.0 (tables s) (3 - depth) (word_at s k i) (λ table. plain (omega (arith, R.low, table.0), table.1)));
    shows = slot_leaf (codec_of h placed) (view s) depth k i R.low (word_in s k i inside) plain;
  }

  -- at the lowest level there is no table
  pub page_holds : {k : ℕ} → Ready h s 0 k → (i : ℕ) → i < 512 → HoldsLeaf h s 0 k i
  page_holds R i inside = leaf_holds R i inside (λ table. omega (arith, R.low, table.0))

  pub holds : {depth k : ℕ} → Ready h s (suc depth) k → (i : ℕ) → i < 512 → SlotHolds placed s depth k i
  holds {depth} {k} R i inside = go (eq_or (word_at s k i % 4) 3)
    where
      table_there : (e : ℕ) → Refers (codec_of h placed) (view s) k i e → word_at s k i % 4 ≡ 3 → SlotHolds placed s depth k i
      table_there e r both = holds_table e r both
          (rw (sym (word_in s k i inside) ∙ r.says)
          (sub_link h.base.0 (tables s) e (3 - suc depth) (omega arith) R.shape.paged R.shape.ended (used_in s e r.used)))
          (slot_refers depth r ∙ tree_at_node (child_of h.base.0) depth (slot_word s) e)

      go : (word_at s k i % 4 ≡ 3) ⊎ (word_at s k i % 4 ≢ 3) → SlotHolds placed s depth k i
      go (inl both) =
          let n = (pool_sound placed R.pool).names k i R.used
          (omega (arith, R.low), ap (λ (y : ℕ). y % 4) (word_in s k i inside) ∙ both) in
          table_there n.0 n.1 both
      go (inr other) = holds_leaf other (leaf_holds R i inside (λ table. other table.1))
