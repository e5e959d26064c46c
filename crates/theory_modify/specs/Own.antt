-- One of a table's own entries, which a modify edits where it stands: what is written in its slot, and what is put into the list.
use Rattle.std.specs.Prelude.{◌≡◌, refl, true, List, [], ◌⊎◌, ◌≢◌, ℕ, ◌-◌, ◌<◌}
use Rattle.std.proofs.Common.{sym, ap, subst, subst₂, ◌∙◌, inl, inr}
use Rattle.laws.specs.Test.{eq_or}
use Rattle.entry.specs.Word.{valid, edited}
use Rattle.address_slot.specs.Slot.{entry_index}
use Rattle.region.specs.declared.MemoryRegion.{MemoryRegion}
use Rattle.pool.specs.State.{St, st, word_at}
use Rattle.pool.specs.declared.Handle.{Handle}
use Rattle.map_count_spec.specs.Needed.{slot_below}
use Rattle.modify_entry.specs.declared.Edit.{Edit}
use Rattle.modify_entry.specs.Word.{edit_word}
use Rattle.modify_range.specs.Range.{Work, work}
use Rattle.modify_entry.specs.Own.{Numbered, numbered, put_number, Noted, own_chunk, own_same, own-changed}
use Rattle.theory_forest.specs.Tree.{Tree, leaf}
use Rattle.theory_sound.specs.Clauses.{level_at}
use Rattle.theory_sound.specs.Codec.{Placed}
use Rattle.theory_sound.specs.Step.{Stands, Ready}
use Rattle.theory_sound.specs.Slot.{slot_shows, HoldsLeaf}
use Rattle.theory_tree.specs.Fine.{Fine}
use Rattle.theory_map.specs.Leaf.{leaf_from}
use Rattle.theory_map.specs.Moves.{StepWithin, kept, stored}
use Rattle.theory_modify.specs.Word.{Bits, edited_stands}
use Rattle.theory_modify.specs.Passes.{own_to, own-valid, own_hole, own_node}
use Rattle.theory_modify.specs.Entry.{Meets, meets-table, meets_hole, meets-entry, meets}
use Rattle.theory_modify.specs.Gathered.{number-changed, number_same, number_hole, leaf_numbers}
use Rattle.theory_modify.specs.Pass.{SlotEdited}
use Rattle.theory_modify.specs.Notes.{put_all, put_none, put_one}

-- the words, list and count of an edit, with the ledger, which it leaves
abbrev pub with_notes : List ℕ → Noted → Work
with_notes ledger n = work (st n.words ledger) n.list n.count

module _ {h : Handle} (placed : Placed h) (depth k : ℕ) (e : Edit) (ledger : List ℕ) (c : MemoryRegion) (n : Noted) where
  abbrev s : St
  s = st n.words ledger

  abbrev i : ℕ
  i = entry_index (3 - depth) c.start.0

  abbrev w : ℕ
  w = word_at s k i

  abbrev new : ℕ
  new = edit_word (3 - depth) e w

  abbrev t : Tree
  t = slot_shows h s depth k i

  abbrev notes : Numbered
  notes = numbered n.count n.list

  abbrev Goal : Type 0
  Goal =
      SlotEdited placed e.live (with_notes ledger n) (with_notes ledger (own_chunk k (3 - depth) e c n)) depth k i
      (own_to e.set e.clear t) 0 (leaf_numbers e.set e.clear c t)

  inside : i < 512
  inside = slot_below (3 - depth) c.start.0

  module _ (R : Ready h s depth k) where
    stays : new ≡ w → own_to e.set e.clear t ≡ t → leaf_numbers e.set e.clear c t ≡ [] → Goal
    stays same tree none =
        let is = own_same k (3 - depth) e c n refl refl same in
        record {
          works =
              subst₂ (λ (x : Noted) (u : Tree). StepWithin placed s (st x.words ledger) depth k i u 0) is (sym tree) (kept placed R i 0);
          puts =
              ap (λ (x : Noted). numbered x.count x.list) (sym is)
              ∙ sym (ap (λ (xs : List ℕ). put_all e.live xs notes) none ∙ put_none e.live notes);
        }

    module _ (bits : Bits h e) (plain : HoldsLeaf h s depth k i) (v : valid w ≡ true) (fine : Fine depth w)
        (is : new ≡ edited e.set e.clear w) where
      tree : own_to e.set e.clear t ≡ leaf new
      tree = ap (own_to e.set e.clear) plain.shows ∙ own-valid e.set e.clear w v ∙ ap leaf (sym is)

      edits : (new ≡ w) ⊎ (new ≢ w) → Goal
      edits (inl same) =
          stays same (tree ∙ ap leaf same ∙ sym plain.shows)
          (ap (leaf_numbers e.set e.clear c) plain.shows ∙ number_same e.set e.clear c w v (sym is ∙ same))
      edits (inr other) =
          let l : Numbered = put_number e.live _ n.count n.list in
          let done = own-changed k (3 - depth) e c n refl refl other refl {count = l.count} {list = l.list} refl in
          record {
            works =
                subst₂ (λ (x : Noted) (u : Tree). StepWithin placed s (st x.words ledger) depth k i u 0) done (sym tree)
                (stored placed R i 0 new inside plain.plain
                (subst (Stands h (level_at s k)) (sym is)
                (edited_stands e w h depth (level_at s k) bits R.low fine (leaf_from R.pool k i inside R.used plain.plain) v)));
            puts =
                ap (λ (x : Noted). numbered x.count x.list) (sym done)
                ∙ sym
                (ap (λ (xs : List ℕ). put_all e.live xs notes)
                (ap (leaf_numbers e.set e.clear c) plain.shows
                ∙ number-changed e.set e.clear c w v (λ q. other (is ∙ q)))
                ∙ put_one e.live _ notes);
          }

    pub own_edits : Bits h e → Goal
    own_edits bits = go (meets placed depth e R i inside)
      where
        go : Meets h e s depth k i → Goal
        go (meets-table f shows same) =
            stays same (ap (own_to e.set e.clear) shows ∙ own_node e.set e.clear f ∙ sym shows)
            (ap (leaf_numbers e.set e.clear c) shows)
        go (meets_hole plain v same) =
            stays same (ap (own_to e.set e.clear) plain.shows ∙ own_hole e.set e.clear w v ∙ sym plain.shows)
            (ap (leaf_numbers e.set e.clear c) plain.shows ∙ number_hole e.set e.clear c w v)
        go (meets-entry plain v fine is) = edits bits plain v fine is (eq_or new w)
