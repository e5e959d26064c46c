-- `frame`: each way through the code by its law.
use mathlib.Core.Path.{ap, ap₂, ◌∙◌}
use Prim.Native.Nat.{ℕ, ◌+◌, ◌-◌, ◌%◌}
use native.Mathlib.Omega.{arith}
use lib.Bits.{bit_and, and_le_l, and_le_r}
use Rattle.laws.specs.Size.{size_low, size_high, size-mod, size_offset}
use Rattle.entry.specs.Word.{mask_address, address_below}
use Rattle.arm.specs.Walk.{frame_masks}
use Rattle.look_up_fields.proofs.frame.Goals as goal

pub overflow_sub-below : goal.overflow_sub-below
overflow_sub-below c = omega (arith, c.granularity_at_level-below.ensures, size_low c.args.level)

pub overflow_sub-result : goal.overflow_sub-result
overflow_sub-result c = and_le_l _ _

pub overflow_sub-result-2 : goal.overflow_sub-result-2
overflow_sub-result-2 c =
    let a = c.args in
    let g = c.granularity_at_level-below.ensures in
    let m = ap (λ (x : ℕ). bit_and a.va.0 (x - 1)) g ∙ size-mod a.level a.va.0 in
    let o = size_offset a.level a.va.0 in
    omega arith

pub overflow_add-result : goal.overflow_add-result
overflow_add-result c =
    let a = c.args in
    let g = c.granularity_at_level-below.ensures in
    let m = and_le_r a.va.0 (c.granularity_at_level-below.result - 1) in
    let h = size_high a.level in
    let w = mask_address a.word in
    let b = address_below a.word in
    omega arith

pub returns : goal.returns
returns c =
    let a = c.args in
    ap₂ (λ (x g : ℕ). x - bit_and x (g - 1) + (bit_and a.va.0 (g - 1) - a.va.0 % 4096)) (mask_address a.word)
    c.granularity_at_level-below.ensures
    ∙ frame_masks a.level a.word a.va.0
