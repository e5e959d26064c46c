-- `part_of`: the part's place in its entry fits.
use Rattle.std.proofs.Common.{ℕ, ◌+◌, ◌*◌, ap₂, arith}
use Rattle.address_slot.specs.Slot.{entry_index}
use Rattle.map_count_spec.specs.Needed.{slot_below}
use Rattle.map_count_spec.specs.Ends.{part_fits}
use Rattle.map_count_leaf.proofs.part_of.Goals as goal

pub overflow_mul-result : goal.overflow_mul-result
overflow_mul-result c =
    let a = c.args in
    let room = part_fits a.level a.word (entry_index (a.level + 1) a.va) (omega arith) (slot_below (a.level + 1) a.va) (omega arith) in
    let place = ap₂ (λ (i g : ℕ). i * g) c.entry_index-i.ensures c.granularity_at_level-2.ensures in
    omega (arith, place, room.step)
