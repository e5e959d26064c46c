-- What an edit does to a slot and to a table of a sound pool: what the slot or the table shows then, and which numbers are put into the
-- list. A pass over a table's chunks: where each does so to its slot, all of them do so to the table.
use Rattle.std.specs.Prelude.{◌≡◌, refl, Bool, false}
use Rattle.std.proofs.Math.Path.{sym, ap, ap₂, subst}
use Rattle.std.proofs.Common.{◌∙◌}
use mathlib.Core.List.{List, [], ◌∷◌}
use Prim.Native.Nat.{ℕ, suc, ◌+◌, ◌-◌, ◌≤◌}
use native.Mathlib.Omega.{arith}
use Rattle.address_slot.specs.Slot.{entry_index}
use Rattle.region.specs.Chunks.{chunks}
use Rattle.region.specs.declared.MemoryRegion.{MemoryRegion}
use Rattle.pool.specs.State.{St}
use Rattle.pool.specs.Number.{free}
use Rattle.pool.specs.declared.Handle.{Handle}
use Rattle.map_rules.specs.declared.Map.{Map}
use Rattle.map_rules.specs.Rules.{chunk_map}
use Rattle.modify_entry.specs.declared.Edit.{Edit}
use Rattle.region.specs.Each.{each_of, each_chunk}
use Rattle.modify_entry.specs.Word.{chunk_edit}
use Rattle.modify_entry.specs.Own.{Numbered, numbered}
use Rattle.modify_range.specs.Range.{Work}
use Rattle.theory_forest.specs.Tree.{Tree}
use Rattle.theory_sound.specs.Codec.{Placed, tree_from}
use Rattle.theory_sound.specs.Step.{Ready}
use Rattle.theory_sound.specs.Slot.{slot_shows}
use Rattle.theory_tree.specs.Page.{child}
use Rattle.theory_tree.specs.Chunks.{sweep}
use Rattle.theory_tree.specs.Needed.{slot_tree, tallied}
use Rattle.theory_map.specs.Stand.{Piece}
use Rattle.theory_map.specs.Moves.{StepWithin, WorkedWithin}
use Rattle.theory_map.specs.Pieces.{Area, slot_at, Pieces, pieces}
use Rattle.theory_map.specs.Loop.{slot_of_lem, through, EachWorks, stepped, loop}
use Rattle.theory_modify.specs.Numbers.{gathered}
use Rattle.theory_modify.specs.Gathered.{gathered-from}
use Rattle.theory_modify.specs.Notes.{put_all, put_none, put-append}

-- the region of an edit as a map's; p is a frame, which is not read
abbrev pub area_of : Edit → ℕ → Map
area_of e p = record { region = e.region; frame = record { 0 = p }; flags = 0; blocks = false }

-- the list, and how many numbers were put into it
abbrev pub notes_of : Work → Numbered
notes_of w = numbered w.count w.list

module _ {h : Handle} (placed : Placed h) (live : Bool) (w w' : Work) (depth k : ℕ) where
  -- w' is w after an edit of slot i of table k, which now shows t: at most `cost` tables fewer are free, and the numbers xs were put
  pub record SlotEdited (i : ℕ) (t : Tree) (cost : ℕ) (xs : List ℕ) : Type 0 where
    pub works : StepWithin placed w.state w'.state depth k i t cost
    pub puts : notes_of w' ≡ put_all live xs (notes_of w)

  -- w' is w after an edit of table k, which now shows t: at most `cost` tables fewer are free, and the numbers xs were put
  pub record TableEdited (t : Tree) (cost : ℕ) (xs : List ℕ) : Type 0 where
    pub works : WorkedWithin placed w.state w'.state depth k t cost
    pub puts : notes_of w' ≡ put_all live xs (notes_of w)

-- ---- a pass over the chunks of a table

-- the loop over the chunks
through_of : {S : Type 0} (f : MemoryRegion → S → S) (cs : List MemoryRegion) (p : ℕ) (x : S)
    → through (λ c y z. f c z) cs p x ≡ each_of f cs x
unfolding through each_of
through_of f [] p x = refl
through_of f (c ∷ cs) p x = through_of f cs (p + (c.end.0 - c.start.0)) (f c x)

module _ {h : Handle} (placed : Placed h) {S : Type 0} (work_of : S → Work) (each : MemoryRegion → S → S)
    (eachTree : MemoryRegion → ℕ → Tree → Tree) (count : MemoryRegion → ℕ → Tree → ℕ) (numbers : MemoryRegion → Tree → List ℕ)
    (depth q k : ℕ) (e : Edit) (low : depth ≤ 3) where
  abbrev state_of : S → St
  state_of x = (work_of x).state

  -- each chunk edits its slot
  abbrev pub EachEdits : Type 0
  EachEdits =
      (c : MemoryRegion) (p : ℕ) (x : S) → Piece depth (child q (slot_at depth c)) (area_of (chunk_edit e c) p)
      → Ready h (state_of x) depth k
      → let i = entry_index (3 - depth) c.start.0 in let t = slot_shows h (state_of x) depth k i in
      count c p t ≤ free (state_of x).ledger
      → SlotEdited placed e.live (work_of x) (work_of (each c x)) depth k i (eachTree c p t) (count c p t) (numbers c t)

  module _ (edits : EachEdits) (p₀ : ℕ) where
    piece : (c : MemoryRegion) (p : ℕ) → Piece depth (child q (slot_at depth c)) (chunk_map (area_of e p₀) c p)
        → Piece depth (child q (slot_at depth c)) (area_of (chunk_edit e c) p)
    piece c p P = record { inside = P.inside; some = P.some; room = P.room }

    works : EachWorks placed state_of (λ c p x. each c x) eachTree count depth q k (area_of e p₀)
    works c p x P R room = (edits c p x (piece c p P) R room).works

    enough : (c : MemoryRegion) (cs : List MemoryRegion) (p : ℕ) (x : S)
        → tallied depth count (c ∷ cs) p (tree_from h (state_of x) depth k) ≤ free (state_of x).ledger
        → count c p (slot_shows h (state_of x) depth k (entry_index (3 - depth) c.start.0)) ≤ free (state_of x).ledger
    unfolding tallied
    enough c cs p x room =
        let here = ap (count c p) (slot_of_lem h (state_of x) depth k (entry_index (3 - depth) c.start.0)) in
        omega arith

    loop_puts : (cs : List MemoryRegion) (a p : ℕ) (x : S) → Pieces depth q (area_of e p₀) a p cs → Ready h (state_of x) depth k
        → let t = tree_from h (state_of x) depth k in
        tallied depth count cs p t ≤ free (state_of x).ledger
        → notes_of (work_of (through (λ c p x. each c x) cs p x)) ≡ put_all e.live (gathered depth numbers cs t) (notes_of (work_of x))
    unfolding through gathered
    loop_puts [] a p x all R room = sym (put_none e.live (notes_of (work_of x)))
    loop_puts (c ∷ cs) a p x all R room =
        let i : ℕ = entry_index (3 - depth) c.start.0 in
        let p' : ℕ = p + (c.end.0 - c.start.0) in
        let t : Tree = tree_from h (state_of x) depth k in
        let first = stepped placed state_of (λ c p x. each c x) eachTree count depth q k (area_of e p₀) low works c cs a p x all R room in
        loop_puts cs (suc (slot_at depth c)) p' (each c x) all.1 first.ready first.room
        ∙ ap₂ (put_all e.live)
        (gathered-from depth q (area_of e p₀) low numbers cs (suc (slot_at depth c)) p' (tree_from h (state_of (each c x)) depth k) t all.1
        first.same)
        ((edits c p x (piece c p all.0.piece) R (enough c cs p x room)).puts
        ∙ ap (λ (u : Tree). put_all e.live (numbers c u) (notes_of (work_of x))) (sym (slot_of_lem h (state_of x) depth k i)))
        ∙ sym (put-append e.live (numbers c (slot_tree t i)) (gathered depth numbers cs t) (notes_of (work_of x)))

  pub pass : EachEdits → (p : ℕ) (x : S) → Area depth q (area_of e p) → Ready h (state_of x) depth k
      → let t = tree_from h (state_of x) depth k in let cs = chunks (3 - depth) e.region.start.0 e.region.end.0 in
      tallied depth count cs p t ≤ free (state_of x).ledger
      → TableEdited placed e.live (work_of x) (work_of (each_chunk (3 - depth) each e.region x)) depth k (sweep depth eachTree cs p t)
      (tallied depth count cs p t) (gathered depth numbers cs t)
  unfolding each_chunk
  pass edits p x area R room =
      let t : Tree = tree_from h (state_of x) depth k in
      let cs : List MemoryRegion = chunks (3 - depth) e.region.start.0 e.region.end.0 in
      let all = pieces depth q (area_of e p) low p e.region area in
      subst
      (λ (y : S). TableEdited placed e.live (work_of x) (work_of y) depth k (sweep depth eachTree cs p t) (tallied depth count cs p t)
      (gathered depth numbers cs t))
      (through_of each cs p x)
      (record {
        works = loop placed state_of (λ c p x. each c x) eachTree count depth q k (area_of e p) low (works edits p) cs 0 p x all R room;
        puts = loop_puts edits p cs 0 p x all R room;
      })
