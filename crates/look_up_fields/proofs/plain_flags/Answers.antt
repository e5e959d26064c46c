-- `plain_flags`: each way through the code by its law.
use mathlib.Core.Path.{ap, ◌∙◌}
use Prim.Native.Nat.{ℕ, ◌+◌, ◌*◌, ◌/◌, ◌%◌}
use Rattle.arm.specs.Walk.{flags_is}
use Rattle.look_up_fields.proofs.plain_flags.Goals as goal

pub returns : goal.returns
returns c = ap (λ (f : ℕ). f / 4 * 4 + f % 2) c.flags-flags.ensures ∙ flags_is c.args.word
