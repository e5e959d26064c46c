-- `entry_last`: each way through the code by its law.
use mathlib.Core.Path.{ap, ◌∙◌}
use Prim.Native.Nat.{ℕ, ◌-◌}
use native.Mathlib.Omega.{arith}
use lib.Bits.{bit_or}
use Rattle.laws.specs.Size.{size_pos, size-or}
use Rattle.address_slot.specs.Slot.{entry_last}
use Rattle.address_slot.proofs.entry_last.Goals as goal

pub overflow_sub-result : goal.overflow_sub-result
overflow_sub-result c = omega (arith, c.granularity_at_level.ensures, size_pos c.args.level)

pub returns : goal.returns
unfolding entry_last
returns c =
    let a = c.args in
    ap (λ (g : ℕ). bit_or a.va (g - 1)) c.granularity_at_level.ensures ∙ size-or a.level a.va
