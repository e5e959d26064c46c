-- Theorems about the definitions of specs/Range.
use Rattle.std.specs.Prelude.{◌≡◌, refl, false}
use Rattle.std.proofs.Math.Path.{sym, ap, ap₂, subst, subst₂}
use Rattle.std.proofs.Common.{◌∙◌}
use mathlib.Core.List.{List, [], ◌∷◌}
use Prim.Native.Nat.{ℕ, zero, suc, ◌+◌, ◌-◌, ◌≤◌, ◌<◌}
use native.Mathlib.Omega.{arith}
use Rattle.laws.specs.Test.{by_bool}
use Rattle.address_slot.specs.Slot.{entry_index}
use Rattle.region.specs.Chunks.{chunks}
use Rattle.region.specs.Each.{each_chunk}
use Rattle.region.specs.declared.MemoryRegion.{MemoryRegion}
use Rattle.pool.specs.State.{word_at}
use Rattle.pool.specs.Number.{free}
use Rattle.pool.specs.declared.Handle.{Handle}
use Rattle.map_count_spec.specs.Needed.{slot_below}
use Rattle.modify_entry.specs.declared.Edit.{Edit}
use Rattle.modify_entry.specs.Word.{chunk_edit}
use Rattle.modify_entry.specs.Own.{noted, own_chunk, own_range}
use Rattle.modify_range.specs.Range.{Work, work, own, own_work, modify_range, down_step, modify_pages_lem, modify_open}
use Rattle.modify_range.specs.Range.{step-own, step-into}
use Rattle.theory_forest.specs.Tree.{Tree, node, tree_at_node}
use Rattle.theory_sound.specs.Codec.{Placed, child_of, slot_word, tree_from}
use Rattle.theory_sound.specs.Step.{Ready}
use Rattle.theory_sound.proofs.Step.{worked_ready}
use Rattle.theory_sound.specs.Slot.{slot_shows}
use Rattle.theory_tree.specs.Chunks.{sweep}
use Rattle.theory_tree.specs.Needed.{tallied, needed, needed_table}
use Rattle.theory_tree.specs.DocumentModify.{document_modify}
use Rattle.theory_map.specs.Stand.{Piece}
use Rattle.theory_map.specs.Moves.{StepWithin, WorkedWithin, kept, worked_twice}
use Rattle.theory_map.specs.Pieces.{Area, pieces}
use Rattle.theory_map.specs.Down.{Opens, opens}
use Rattle.theory_modify.specs.Word.{Bits}
use Rattle.theory_modify.specs.Passes.{own_entry, own_to, down_to, down-own, down_on, takes_on, pages_pass, two_passes}
use Rattle.theory_modify.specs.Entry.{own_is}
use Rattle.theory_modify.specs.Numbers.{gathered, own_numbers, lower_numbers, table_numbers}
use Rattle.theory_modify.specs.Gathered.{lower-own, lower_on, leaf_numbers, leaf_page, leaf_after, gathered-after}
use Rattle.theory_modify.specs.Notes.{put_all, put_none, put-append}
use Rattle.theory_modify.specs.Pass.{area_of, notes_of, SlotEdited, TableEdited, pass}
use Rattle.theory_modify.specs.Own.{with_notes, own_edits}
use Rattle.theory_modify.specs.Range.{edit_table, edit_takes, edit_numbers}

abbrev lowers : Edit → ℕ → MemoryRegion → Tree → List ℕ
lowers e depth = lower_numbers e.set e.clear (λ d v. edit_numbers e depth d v) depth

none_taken : (depth : ℕ) (cs : List MemoryRegion) (p : ℕ) (t : Tree) → tallied depth (λ c y u. 0) cs p t ≡ 0
unfolding tallied
none_taken depth [] p t = refl
none_taken depth (c ∷ cs) p t = let z = none_taken depth cs (p + (c.end.0 - c.start.0)) t in omega arith

module _ {h : Handle} (placed : Placed h) where
  -- ---- a table's own entries

  own_pass : (depth q k p : ℕ) (e : Edit) (w : Work) → depth ≤ 3 → Bits h e → Area depth q (area_of e p) → Ready h w.state depth k
      → let t = tree_from h w.state depth k in let cs = chunks (3 - depth) e.region.start.0 e.region.end.0 in
      TableEdited placed e.live w (own_work k (3 - depth) e w) depth k (sweep depth (λ c x u. own_to e.set e.clear u) cs p t) 0
      (gathered depth (leaf_numbers e.set e.clear) cs t)
  unfolding own_work own_range
  own_pass depth q k p e w low bits area R =
      let t : Tree = tree_from h w.state depth k in
      let cs : List MemoryRegion = chunks (3 - depth) e.region.start.0 e.region.end.0 in
      let none = none_taken depth cs p t in
      subst (λ (cost : ℕ). TableEdited placed e.live w (own_work k (3 - depth) e w) depth k
      (sweep depth (λ c x u. own_to e.set e.clear u) cs p t) cost
      (gathered depth (leaf_numbers e.set e.clear) cs t)) none
      (pass placed (with_notes w.state.ledger) (own_chunk k (3 - depth) e) (λ c x u. own_to e.set e.clear u) (λ c x u. 0)
      (leaf_numbers e.set e.clear)
      depth q k e low (λ c x n piece ready enough. own_edits placed depth k e w.state.ledger c n ready bits) p
      (noted w.state.words w.list w.count) area R (omega arith))

  -- ---- the chunks that go down

  -- a modify of a table with `depth` levels below its own does on lists what it does on the table's tree
  abbrev pub Edits : ℕ → Type 0
  Edits depth =
      (q k p : ℕ) (e : Edit) (w : Work) → Bits h e → Area depth q (area_of e p) → Ready h w.state depth k
      → let t = tree_from h w.state depth k in
      edit_takes e depth p t ≤ free w.state.ledger
      → TableEdited placed e.live w (modify_range depth h k e w) depth k (edit_table e depth p t) (edit_takes e depth p t)
      (edit_numbers e depth e.region t)

  module _ (depth q k : ℕ) (e : Edit) (bits : Bits h e) (edits : Edits depth) (c : MemoryRegion) (p : ℕ) (x : Work)
      (piece : Piece (suc depth) q (area_of (chunk_edit e c) p))
      (R : Ready h x.state (suc depth) k) where
    abbrev level : ℕ
    level = 3 - suc depth

    abbrev j : ℕ
    j = entry_index level c.start.0

    abbrev u : Tree
    u = slot_shows h x.state (suc depth) k j

    abbrev count : Tree → ℕ
    count v = needed (document_modify e.set e.clear) (suc depth) c p v

    abbrev Down : Work → Tree → ℕ → List ℕ → Type 0
    Down y v n xs = SlotEdited placed e.live x y (suc depth) k j v n xs

    abbrev Goal : Type 0
    Goal = Down (down_step h k level e c x) (down_to e.set e.clear depth c p u) (count u) (lowers e depth c u)

    slot : j < 512
    slot = slot_below level c.start.0

    -- on in the table that is found
    goes_down : (O : Opens placed x.state depth k j) → own level c (word_at x.state k j) ≡ false
        → modify_range depth h O.table (chunk_edit e c) (work O.state x.list x.count) ≡ down_step h k level e c x
    goes_down O goes =
        let last : 3 - (level + 1) ≡ depth = omega (arith, R.low) in
        ap (λ (d : ℕ). modify_range d h O.table (chunk_edit e c) (work O.state x.list x.count)) (sym last)
        ∙ step-into h k level e c x refl goes O.found O.table refl

    by_down : count u ≤ free x.state.ledger → own_entry depth c u ≡ false → Goal
    by_down room on =
        let all = takes_on e.set e.clear depth c p u on in
        let O = opens placed R j slot (omega arith) in
        let fewer = O.room in
        let w : Work = work O.state x.list x.count in
        let w' : Work = modify_range depth h O.table (chunk_edit e c) w in
        let E = subst
        (λ (v : Tree). TableEdited placed e.live w w' depth O.table (edit_table (chunk_edit e c) depth p v)
        (edit_takes (chunk_edit e c) depth p v) (edit_numbers e depth c v)) O.shows
        (edits q O.table p (chunk_edit e c) w (record { set = bits.set; clear = bits.clear })
        (record { inside = piece.inside; room = piece.room }) O.ready
        (subst (λ (v : Tree). edit_takes (chunk_edit e c) depth p v ≤ free O.state.ledger) (sym O.shows) (omega arith))) in
        subst (λ (y : Work). Down y (down_to e.set e.clear depth c p u) (count u) (lowers e depth c u))
        (goes_down O (own_is placed R c ∙ on))
        (record {
          works =
              subst₂ (λ (v : Tree) (n : ℕ). StepWithin placed x.state w'.state (suc depth) k j v n)
              (sym (down_on e.set e.clear depth c p u on)) (sym all) (O.back E.works);
          puts =
              E.puts
              ∙ ap (λ (xs : List ℕ). put_all e.live xs (notes_of x))
              (sym (lower_on e.set e.clear (λ d v. edit_numbers e depth d v) depth c u on));
        })

    down_edits : count u ≤ free x.state.ledger → Goal
    down_edits room = by_bool (own_entry depth c u)
        (λ here. subst (λ (y : Work). Down y (down_to e.set e.clear depth c p u) (count u) (lowers e depth c u))
        (step-own h k level e c x refl (own_is placed R c ∙ here))
        (record {
          works =
              subst (λ (v : Tree). StepWithin placed x.state x.state (suc depth) k j v (count u))
              (sym (down-own e.set e.clear depth c p u here)) (kept placed R j (count u));
          puts =
              sym
              (ap (λ (xs : List ℕ). put_all e.live xs (notes_of x))
              (lower-own e.set e.clear (λ d v. edit_numbers e depth d v) depth c u here)
              ∙ put_none e.live (notes_of x));
        }))
        (λ on. by_down room on)

  down_pass : (depth q k p : ℕ) (e : Edit) (w : Work) → suc depth ≤ 3 → Edits depth → Bits h e → Area (suc depth) q (area_of e p)
      → Ready h w.state (suc depth) k
      → let t = tree_from h w.state (suc depth) k in let cs = chunks (3 - suc depth) e.region.start.0 e.region.end.0 in
      edit_takes e (suc depth) p t ≤ free w.state.ledger
      → TableEdited placed e.live w (each_chunk (3 - suc depth) (down_step h k (3 - suc depth) e) e.region w) (suc depth) k
      (sweep (suc depth) (down_to e.set e.clear depth) cs p t) (edit_takes e (suc depth) p t)
      (gathered (suc depth) (lowers e depth) cs t)
  unfolding needed_table
  down_pass depth q k p e w low edits bits area R room =
      pass placed (λ (x : Work). x) (down_step h k (3 - suc depth) e) (down_to e.set e.clear depth)
      (λ c x v. needed (document_modify e.set e.clear) (suc depth) c x v) (lowers e depth) (suc depth) q k e low
      (λ c x y piece ready enough. down_edits depth _ k e bits edits c x y piece ready enough) p w area R room

  -- ---- a table

  edits_pages : Edits 0
  unfolding needed_table table_numbers
  edits_pages q k p e w bits area R room =
      let t : Tree = tree_from h w.state 0 k in
      let cs : List MemoryRegion = chunks 3 e.region.start.0 e.region.end.0 in
      let E = own_pass 0 q k p e w (omega arith) bits area R in
      let is = modify_pages_lem h k 3 e w (omega arith) (omega arith) in
      let W = subst₂ (λ (x : Work) (v : Tree). WorkedWithin placed w.state x.state 0 k v 0) is
      (pages_pass e.set e.clear e.region p t) E.works in
      record {
        works = record { worked = W.worked; spare = omega (arith, W.spare) };
        puts = ap notes_of (sym is) ∙ E.puts
            ∙ ap (λ (f : MemoryRegion → Tree → List ℕ). put_all e.live (gathered 0 f cs t) (notes_of w))
            (λ i c v. leaf_page e.set e.clear c v i);
      }

  edits_up : (depth : ℕ) → suc depth ≤ 3 → Edits depth → Edits (suc depth)
  unfolding table_numbers
  edits_up depth low edits q k p e w bits area R room =
      let level : ℕ = 3 - suc depth in
      let t : Tree = tree_from h w.state (suc depth) k in
      let is : t ≡ node (λ i. slot_shows h w.state (suc depth) k i) =
      tree_at_node (child_of h.base.0) (suc depth) (slot_word w.state) k in
      let mid : Work = each_chunk level (down_step h k level e) e.region w in
      let D = down_pass depth q k p e w low edits bits area R room in
      let E = own_pass (suc depth) q k p e mid low bits area (worked_ready R D.works.worked) in
      let cs : List MemoryRegion = chunks level e.region.start.0 e.region.end.0 in
      let all = pieces (suc depth) q (area_of e p) low p e.region area in
      let tree = ap (sweep (suc depth) (λ c x u. own_to e.set e.clear u) cs p) D.works.worked.work.tree
      ∙ two_passes e.set e.clear e.region p t depth q (area_of e p) low all in
      let owns : MemoryRegion → Tree → List ℕ = own_numbers e.set e.clear (suc depth) in
      let after : gathered (suc depth) (leaf_numbers e.set e.clear) cs (tree_from h mid.state (suc depth) k)
      ≡ gathered (suc depth) owns cs t =
      ap (gathered (suc depth) (leaf_numbers e.set e.clear) cs)
      (D.works.worked.work.tree ∙ ap (sweep (suc depth) (down_to e.set e.clear depth) cs p) is)
      ∙ gathered-after (suc depth) q (area_of e p) low (down_to e.set e.clear depth) (leaf_numbers e.set e.clear) owns
      (leaf_after e.set e.clear depth) cs 0 p _ all
      ∙ ap (gathered (suc depth) owns cs) (sym is) in
      let up : 3 - level ≡ suc depth = omega arith in
      let whole : own_work k level e mid ≡ modify_range (suc depth) h k e w =
      modify_open h k level e w (omega arith) ∙ ap (λ (d : ℕ). modify_range d h k e w) up in
      let cost : edit_takes e (suc depth) p t + 0 ≡ edit_takes e (suc depth) p t = omega arith in
      subst (λ (x : Work). TableEdited placed e.live w x (suc depth) k (edit_table e (suc depth) p t) (edit_takes e (suc depth) p t)
      (edit_numbers e (suc depth) e.region t)) whole
      (record {
        works =
            subst₂ (λ (v : Tree) (n : ℕ). WorkedWithin placed w.state (own_work k level e mid).state (suc depth) k v n) tree cost
            (worked_twice placed R D.works E.works);
        puts = E.puts ∙ ap₂ (put_all e.live) after D.puts
            ∙ sym (put-append e.live (gathered (suc depth) (lowers e depth) cs t) (gathered (suc depth) owns cs t) (notes_of w));
      })

  -- A MODIFY OF A TABLE: what it writes, and what it lists
  pub range_edits : (depth : ℕ) → depth ≤ 3 → Edits depth
  range_edits zero low = edits_pages
  range_edits (suc depth) low = edits_up depth low (range_edits depth (omega arith))
