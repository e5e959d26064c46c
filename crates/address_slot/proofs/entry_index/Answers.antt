-- `entry_index`: each way through the code by its law.
use mathlib.Core.Path.{ap}
use Prim.Native.Nat.{ℕ, ◌%◌}
use Rattle.address_slot.specs.Slot.{entry_index}
use Rattle.address_slot.proofs.entry_index.Goals as goal

pub returns : goal.returns
unfolding entry_index
returns c = ap (λ (n : ℕ). n % 512) c.entry_number.ensures
