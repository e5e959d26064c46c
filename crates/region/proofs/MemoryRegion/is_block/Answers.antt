-- `is_block`: each way through the code by its law.
use mathlib.Core.Path.{ap, ◌∙◌}
use Prim.Native.Nat.{ℕ, ◌-◌}
use native.Mathlib.Omega.{arith}
use lib.Bits.{bit_and, bit_or}
use lib.Dec.{eqb}
use Rattle.laws.specs.Size.{size_pos, size_aligned}
use Rattle.region.specs.Region.{whole}
use Rattle.region.proofs.MemoryRegion.is_block.Goals as goal

pub overflow_sub-result : goal.overflow_sub-result
overflow_sub-result c = omega (arith, c.granularity_at_level.ensures, size_pos c.args.level)

pub returns : goal.returns
unfolding whole
returns c =
    let a = c.args in
    let s = a.self.start.0 in
    let e = a.self.end.0 in
    ap (λ (g : ℕ). eqb (bit_and (bit_or s e) (g - 1)) 0) c.granularity_at_level.ensures ∙ size_aligned a.level s e
