-- `get_entry`: each way through the code by its law.
use Rattle.list_lines.proofs.get_entry.Goals.{After-entry_index-slot}
use mathlib.Core.Path.{◌≡◌, sym, ap, ◌∙◌}
use Prim.Native.Nat.{ℕ, ◌+◌, ◌*◌}
use native.Mathlib.Omega.{arith}
use lib.ListN.{get_or}
use Rattle.arm.specs.Arm.{index, fetch}
use Rattle.arm.specs.Walk.{slot_below, index_is}
use Rattle.address_slot.specs.Slot.{entry_index}
use Rattle.list_lines.proofs.get_entry.Goals as goal

-- the Arm walk's index is the slot
slot : (c : After-entry_index-slot) → let a = c.args in c.entry_index-slot.result ≡ index a.level a.va.0
unfolding entry_index
slot c = let a = c.args in c.entry_index-slot.ensures ∙ sym (index_is a.level a.va.0)

pub overflow_add-result : goal.overflow_add-result
overflow_add-result c =
    let h = slot_below c.args.level c.args.va.0 in
    omega (arith, slot (goal.at.overflow_add-result c).After-entry_index-slot)

pub offset_bounds-words-k : goal.offset_bounds-words-k
offset_bounds-words-k c =
    let h = slot_below c.args.level c.args.va.0 in
    omega (arith, slot (goal.at.offset_bounds-words-k c).After-entry_index-slot)

pub bounds-words-k : goal.bounds-words-k
bounds-words-k c =
    let h = slot_below c.args.level c.args.va.0 in
    omega (arith, slot (goal.at.bounds-words-k c).After-entry_index-slot)

pub returns : goal.returns
unfolding fetch
returns c = let a = c.args in ap (λ (i : ℕ). get_or a.words.now (512 * a.k + i) 0) (slot (goal.at.returns c).After-entry_index-slot)
