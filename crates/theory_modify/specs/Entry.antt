-- What a modify meets in a slot of a table of a sound pool, case by case: the edit of a table's own entries, the chunks that go down, and
-- the survey of a chunk.
use Rattle.std.specs.Prelude.{◌≡◌, true, false, ℕ, zero, suc, ◌-◌, ◌<◌}
use Rattle.std.proofs.Common.{sym, ap, subst₂, ◌∙◌, arith}
use Rattle.laws.specs.Test.{by_bool}
use Rattle.entry.specs.Word.{valid, edited}
use Rattle.entry.specs.Sub.{sub_of}
use Rattle.entry.specs.declared.Sub.TheVariants.{Table, Leaf}
use Rattle.address_slot.specs.Slot.{entry_index}
use Rattle.region.specs.declared.MemoryRegion.{MemoryRegion}
use Rattle.pool.specs.State.{St, tables, word_at}
use Rattle.pool.specs.declared.Handle.{Handle}
use Rattle.map_count_spec.specs.Needed.{slot_below}
use Rattle.modify_entry.specs.declared.Edit.{Edit}
use Rattle.modify_entry.specs.Word.{chunk_edit, edit_word}
use Rattle.modify_survey.specs.declared.Survey.{Survey}
use Rattle.modify_survey.specs.Survey.{survey_entry, survey_sub, survey_chunk}
use Rattle.modify_range.specs.Range.{own, own-table, own_leaf}
use Rattle.theory_forest.specs.Tree.{Tree, leaf, node, tree_at_node}
use Rattle.theory_sound.specs.Codec.{Placed, child_of, slot_word, tree_from}
use Rattle.theory_sound.specs.Step.{Ready}
use Rattle.theory_sound.proofs.Step.{refers_ready}
use Rattle.theory_sound.specs.Slot.{slot_shows, HoldsLeaf, SlotHolds, holds_table, holds_leaf}
use Rattle.theory_sound.proofs.Slot.{page_holds, holds}
use Rattle.theory_tree.specs.Fine.{Fine}
use Rattle.theory_map.specs.Leaf.{holds_fine}
use Rattle.theory_modify.specs.Word.{table_stays, hole_stays, valid-edited}
use Rattle.theory_modify.specs.Passes.{own_entry}

-- ---- a table's own entries

-- what an edit meets in slot i of table k, and what it leaves of the word
pub data Meets (h : Handle) (e : Edit) (s : St) (depth k i : ℕ) : Type 0 where
  meets-table : (f : ℕ → Tree) → slot_shows h s depth k i ≡ node f → edit_word (3 - depth) e (word_at s k i) ≡ word_at s k i
      → Meets h e s depth k i
  meets_hole : HoldsLeaf h s depth k i → valid (word_at s k i) ≡ false → edit_word (3 - depth) e (word_at s k i) ≡ word_at s k i
      → Meets h e s depth k i
  meets-entry : HoldsLeaf h s depth k i → valid (word_at s k i) ≡ true → Fine depth (word_at s k i)
      → edit_word (3 - depth) e (word_at s k i) ≡ edited e.set e.clear (word_at s k i) → Meets h e s depth k i

module _ {h : Handle} (placed : Placed h) where
  meets_leaf : {s : St} {depth k : ℕ} (e : Edit) → Ready h s depth k → (i : ℕ) → i < 512 → HoldsLeaf h s depth k i → Meets h e s depth k i
  meets_leaf {s} {depth} {k} e R i inside plain = by_bool (valid (word_at s k i))
      (λ v. let fine = holds_fine placed R i inside plain in
      meets-entry plain v fine (valid-edited e (word_at s k i) depth (omega (arith, R.low)) fine v))
      (λ v. meets_hole plain v (hole_stays e (word_at s k i) (3 - depth) v))

  pub meets : (depth : ℕ) {s : St} {k : ℕ} (e : Edit) → Ready h s depth k → (i : ℕ) → i < 512 → Meets h e s depth k i
  meets zero e R i inside = meets_leaf e R i inside (page_holds placed R i inside)
  meets (suc depth) {s} {k} e R i inside = go (holds placed R i inside)
    where
      go : SlotHolds placed s depth k i → Meets h e s (suc depth) k i
      go (holds_table j r both leads shows) =
          meets-table _ shows (table_stays (3 - suc depth) e (word_at s k i) (omega (arith, R.low)) both)
      go (holds_leaf other plain) = meets_leaf e R i inside plain

  -- ---- the chunks that go down

  -- the code's test of a chunk is the tree's
  pub own_is : {s : St} {depth k : ℕ} → Ready h s (suc depth) k → (c : MemoryRegion) → let i = entry_index (3 - suc depth) c.start.0 in
      own (3 - suc depth) c (word_at s k i) ≡ own_entry depth c (slot_shows h s (suc depth) k i)
  own_is {s} {depth} {k} R c = go (holds placed R (entry_index (3 - suc depth) c.start.0) (slot_below (3 - suc depth) c.start.0))
    where
      i : ℕ
      i = entry_index (3 - suc depth) c.start.0

      go : SlotHolds placed s depth k i → own (3 - suc depth) c (word_at s k i) ≡ own_entry depth c (slot_shows h s (suc depth) k i)
      go (holds_table j r both leads shows) =
          sym (own-table (3 - suc depth) c (word_at s k i) both) ∙ sym (ap (own_entry depth c) shows)
      go (holds_leaf other plain) = sym (own_leaf (3 - suc depth) c (word_at s k i) other) ∙ sym (ap (own_entry depth c) plain.shows)

-- ---- the survey of a chunk

module _ (rec : ℕ → Edit → Survey → Survey) (h : Handle) (s : St) (k level : ℕ) (e : Edit) (c : MemoryRegion) (v : Survey) where
  abbrev w : ℕ
  w = word_at s k (entry_index level c.start.0)

  chunk_leaf : sub_of h.base.0 (tables s) level w ≡ Leaf → survey_chunk rec h s k level e c v ≡ survey_entry h level (chunk_edit e c) w v
  unfolding survey_chunk survey_sub
  chunk_leaf q = rw q

  chunk-table : (j : ℕ) → sub_of h.base.0 (tables s) level w ≡ Table j → survey_chunk rec h s k level e c v ≡ rec j (chunk_edit e c) v
  unfolding survey_chunk survey_sub
  chunk-table j q = rw q

-- what is to be shown of a chunk's survey and of the tree that its slot shows is shown of an entry, and of a table one level down
module _ {h : Handle} (placed : Placed h) (rec : ℕ → Edit → Survey → Survey) (s : St) (k : ℕ) (e : Edit) (c : MemoryRegion) (v : Survey)
    (P : Survey → Tree → Type 0) where
  survey_leaf : (depth : ℕ) → Ready h s depth k → ((w : ℕ) → Fine depth w → P (survey_entry h (3 - depth) (chunk_edit e c) w v) (leaf w))
      → let i = entry_index (3 - depth) c.start.0 in
      HoldsLeaf h s depth k i → P (survey_chunk rec h s k (3 - depth) e c v) (slot_shows h s depth k i)
  survey_leaf depth R each plain =
      let i : ℕ = entry_index (3 - depth) c.start.0 in
      subst₂ P (sym (chunk_leaf rec h s k (3 - depth) e c v plain.leads)) (sym plain.shows)
      (each (word_at s k i) (holds_fine placed R i (slot_below (3 - depth) c.start.0) plain))

  pub survey_page : Ready h s 0 k → ((w : ℕ) → Fine 0 w → P (survey_entry h 3 (chunk_edit e c) w v) (leaf w))
      → P (survey_chunk rec h s k 3 e c v) (slot_shows h s 0 k (entry_index 3 c.start.0))
  survey_page R each =
      survey_leaf 0 R each (page_holds placed R (entry_index 3 c.start.0) (slot_below 3 c.start.0))

  pub survey_slot : (depth : ℕ) → Ready h s (suc depth) k
      → ((w : ℕ) → Fine (suc depth) w → P (survey_entry h (3 - suc depth) (chunk_edit e c) w v) (leaf w))
      → ((j : ℕ) (f : ℕ → Tree) → Ready h s depth j → tree_from h s depth j ≡ node f → P (rec j (chunk_edit e c) v) (node f))
      → P (survey_chunk rec h s k (3 - suc depth) e c v) (slot_shows h s (suc depth) k (entry_index (3 - suc depth) c.start.0))
  survey_slot depth R each below = go (holds placed R i (slot_below (3 - suc depth) c.start.0))
    where
      i : ℕ
      i = entry_index (3 - suc depth) c.start.0

      go : SlotHolds placed s depth k i → P (survey_chunk rec h s k (3 - suc depth) e c v) (slot_shows h s (suc depth) k i)
      go (holds_table j r both leads shows) =
          subst₂ P (sym (chunk-table rec h s k (3 - suc depth) e c v j leads)) (sym shows)
          (below j _ (refers_ready placed R r) (tree_at_node (child_of h.base.0) depth (slot_word s) j))
      go (holds_leaf other plain) = survey_leaf (suc depth) R each plain
