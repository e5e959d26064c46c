-- `is_spanned`: each way through the code by its law.
use native.Mathlib.Omega.{arith}
use Rattle.laws.specs.Size.{size_high}
use Rattle.look_up.specs.Call.{span-lower, span-upper}
use Rattle.look_up.proofs.is_spanned.Goals as goal

pub overflow_mul-span : goal.overflow_mul-span
overflow_mul-span c = omega (arith, c.granularity_at_level-span.ensures, size_high c.args.level)

pub overflow_sub-result : goal.overflow_sub-result
overflow_sub-result c = omega (arith, c.granularity_at_level-span.ensures, size_high c.args.level)

pub returns-in-Lower : goal.returns-in-Lower
returns-in-Lower c =
    let a = c.args in
    span-lower a.range a.level a.va.0 _ c.in-Lower.is
    c.granularity_at_level-span.ensures

pub returns-in-Upper : goal.returns-in-Upper
returns-in-Upper c =
    let a = c.args in
    span-upper a.range a.level a.va.0 _ c.in-Upper.is
    c.granularity_at_level-span.ensures
