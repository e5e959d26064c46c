-- Something done with each chunk of a table's region, one after the other: where each does on lists what it does on the tree of its slot,
-- all of them do so on the table's tree, with no more tables than the tree's count.
use Rattle.std.specs.Prelude.{◌≡◌, true, false, ◌⊎◌, ◌≢◌, eqb}
use Rattle.std.proofs.Math.Path.{sym, ap}
use Rattle.std.proofs.Common.{◌∙◌, inl, inr}
use Rattle.std.proofs.Math.Bool.{cond}
use mathlib.Core.List.{List, [], ◌∷◌}
use Prim.Native.Nat.{ℕ, suc, ◌+◌, ◌-◌, ◌≤◌}
use native.Mathlib.Omega.{arith}
use Rattle.laws.specs.Test.{eqb_cases}
use Rattle.address_slot.specs.Slot.{entry_index}
use Rattle.region.specs.declared.MemoryRegion.{MemoryRegion}
use Rattle.pool.specs.State.{St}
use Rattle.pool.specs.Number.{free}
use Rattle.pool.specs.declared.Handle.{Handle}
use Rattle.map_rules.specs.declared.Map.{Map}
use Rattle.map_rules.specs.Rules.{chunk_map}
use Rattle.theory_forest.specs.Tree.{Tree, node_ext, tree_at_node}
use Rattle.theory_forest.proofs.Frame.{change_slot}
use Rattle.theory_forest.proofs.Place.{at_over, over_trans}
use Rattle.theory_forest.proofs.Move.{work_skip}
use Rattle.theory_sound.specs.Codec.{Placed, child_of, slot_word, view, tree_from}
use Rattle.theory_sound.proofs.Generic.{pool_sound}
use Rattle.theory_sound.specs.Lists.{size_refl, size_trans}
use Rattle.theory_sound.specs.Step.{Ready}
use Rattle.theory_sound.proofs.Step.{step_ready}
use Rattle.theory_sound.specs.Slot.{slot_shows}
use Rattle.theory_tree.specs.Page.{child}
use Rattle.theory_tree.specs.Chunks.{at_slot, sweep, index_slot}
use Rattle.theory_tree.specs.Needed.{slot_tree, tallied}
use Rattle.theory_map.specs.Stand.{Piece}
use Rattle.theory_map.specs.Moves.{StepWithin, WorkedWithin}
use Rattle.theory_map.specs.Pieces.{slot_at, Pieces, tallied-from}

-- a table's slot
pub slot_of_lem : (h : Handle) (s : St) (depth k i : ℕ) → slot_tree (tree_from h s depth k) i ≡ slot_shows h s depth k i
unfolding slot_tree
slot_of_lem h s depth k i = ap (λ (t : Tree). slot_tree t i) (tree_at_node (child_of h.base.0) depth (slot_word s) k)

-- the chunks one after the other; the frame rises by the chunk's length after each
unfoldable pub through : {S : Type 0} → (MemoryRegion → ℕ → S → S) → List MemoryRegion → ℕ → S → S
through f [] frame x = x
through f (c ∷ cs) frame x = through f cs (frame + (c.end.0 - c.start.0)) (f c frame x)

module _ {h : Handle} (placed : Placed h) where
  -- ---- a table after a step at one of its slots

  module _ {s s' : St} {depth k i cost : ℕ} (change : Tree → Tree) (R : Ready h s depth k)
      (S : StepWithin placed s s' depth k i (change (slot_shows h s depth k i)) cost) where
    others : (j : ℕ) → j ≢ i → slot_shows h s' depth k j ≡ slot_shows h s depth k j
    others j other = change_slot (pool_sound placed R.pool) (view s') depth S.step.move.at.words R.used R.low other

    table-after : tree_from h s' depth k ≡ at_slot i change (tree_from h s depth k)
    unfolding at_slot
    table-after =
        tree_at_node (child_of h.base.0) depth (slot_word s') k ∙ node_ext (λ j. go j (eqb_cases j i))
        ∙ sym (ap (at_slot i change) (tree_at_node (child_of h.base.0) depth (slot_word s) k))
      where
        go : (j : ℕ) → ((j ≡ i) × (eqb j i ≡ true)) ⊎ ((j ≢ i) × (eqb j i ≡ false))
            → slot_shows h s' depth k j ≡ cond (eqb j i) (change (slot_shows h s depth k j)) (slot_shows h s depth k j)
        go j (inl e) = rw e.1 (rw e.0 S.step.move.tree)
        go j (inr e) = rw e.1 (others j e.0)

    slots_after : (j : ℕ) → j ≢ i → slot_tree (tree_from h s' depth k) j ≡ slot_tree (tree_from h s depth k) j
    slots_after j other = slot_of_lem h s' depth k j ∙ others j other ∙ sym (slot_of_lem h s depth k j)

  -- ---- the chunks, one after the other

  module _ {S : Type 0} (state_of : S → St) (each : MemoryRegion → ℕ → S → S) (eachTree : MemoryRegion → ℕ → Tree → Tree)
      (count : MemoryRegion → ℕ → Tree → ℕ)
      (depth q k : ℕ) (m : Map) where
    -- each chunk does on lists what it does on the tree of its slot
    abbrev pub EachWorks : Type 0
    EachWorks =
        (c : MemoryRegion) (p : ℕ) (x : S) → Piece depth (child q (slot_at depth c)) (chunk_map m c p) → Ready h (state_of x) depth k
        → let i = entry_index (3 - depth) c.start.0 in let t = slot_shows h (state_of x) depth k i in
        count c p t ≤ free (state_of x).ledger
        → StepWithin placed (state_of x) (state_of (each c p x)) depth k i (eachTree c p t) (count c p t)

    -- the first chunk of some done: what the others find
    pub record Stepped (c : MemoryRegion) (cs : List MemoryRegion) (p : ℕ) (x : S) : Type 0 where
      pub slotted : let i = entry_index (3 - depth) c.start.0 in let u = slot_shows h (state_of x) depth k i in
          StepWithin placed (state_of x) (state_of (each c p x)) depth k i (eachTree c p u) (count c p u)
      pub ready : Ready h (state_of (each c p x)) depth k
      pub same : (j : ℕ) → suc (slot_at depth c) ≤ j
          → slot_tree (tree_from h (state_of (each c p x)) depth k) j ≡ slot_tree (tree_from h (state_of x) depth k) j
      pub rest : let p' = p + (c.end.0 - c.start.0) in
          tallied depth count cs p' (tree_from h (state_of (each c p x)) depth k)
          ≡ tallied depth count cs p' (tree_from h (state_of x) depth k)
      pub room : tallied depth count cs (p + (c.end.0 - c.start.0)) (tree_from h (state_of (each c p x)) depth k)
          ≤ free (state_of (each c p x)).ledger

    pub stepped : depth ≤ 3 → EachWorks → (c : MemoryRegion) (cs : List MemoryRegion) (a p : ℕ) (x : S) → Pieces depth q m a p (c ∷ cs)
        → Ready h (state_of x) depth k
        → tallied depth count (c ∷ cs) p (tree_from h (state_of x) depth k) ≤ free (state_of x).ledger → Stepped c cs p x
    unfolding tallied
    stepped low works c cs a p x all R room =
        let i : ℕ = entry_index (3 - depth) c.start.0 in
        let p' : ℕ = p + (c.end.0 - c.start.0) in
        let s : St = state_of x in
        let t : Tree = tree_from h s depth k in
        let s₁ : St = state_of (each c p x) in
        let here : count c p (slot_tree t i) ≡ count c p (slot_shows h s depth k i) = ap (count c p) (slot_of_lem h s depth k i) in
        let S : StepWithin placed s s₁ depth k i (eachTree c p (slot_shows h s depth k i)) (count c p (slot_shows h s depth k i)) =
        works c p x all.0.piece R (omega arith) in
        let index = index_slot depth c.start.0 low in
        let same : (j : ℕ) → suc (slot_at depth c) ≤ j → slot_tree (tree_from h s₁ depth k) j ≡ slot_tree t j =
        λ j l. slots_after (eachTree c p) R S j (λ e. omega arith) in
        let rest : tallied depth count cs p' (tree_from h s₁ depth k) ≡ tallied depth count cs p' t =
        tallied-from depth q m low count cs (suc (slot_at depth c)) p' (tree_from h s₁ depth k) t all.1 same in
        let spare = S.spare in
        record { slotted = S; ready = step_ready R S.step; same = same; rest = rest; room = omega arith }

    pub loop : depth ≤ 3 → EachWorks → (cs : List MemoryRegion) (a p : ℕ) (x : S) → Pieces depth q m a p cs
        → Ready h (state_of x) depth k
        → let t = tree_from h (state_of x) depth k in
        tallied depth count cs p t ≤ free (state_of x).ledger
        → WorkedWithin placed (state_of x) (state_of (through each cs p x)) depth k (sweep depth eachTree cs p t) (tallied depth count cs p t)
    unfolding through sweep tallied
    loop low works [] a p x all R room =
        record { worked = record { work = work_skip (pool_sound placed R.pool) depth k; size = size_refl }; spare = omega arith }
    loop low works (c ∷ cs) a p x all R room =
        let p' : ℕ = p + (c.end.0 - c.start.0) in
        let first = stepped low works c cs a p x all R room in
        let S = first.slotted in
        let W = loop low works cs (suc (slot_at depth c)) p' (each c p x) all.1 first.ready first.room in
        let sound = pool_sound placed R.pool in
        let here = ap (count c p) (slot_of_lem h (state_of x) depth k (entry_index (3 - depth) c.start.0)) in
        record {
          worked = record {
            work = record {
              over = over_trans sound (at_over sound R.used S.step.move.at) W.worked.work.over;
              tree = W.worked.work.tree ∙ ap (sweep depth eachTree cs p') (table-after (eachTree c p) R S);
            };
            size = size_trans S.step.size W.worked.size;
          };
          spare = omega (arith, S.spare, W.spare, first.rest, here);
        }
