-- `in_range`: each way through the code by its law.
use native.Mathlib.Omega.{arith}
use Rattle.laws.specs.Size.{size_high}
use Rattle.region_verify.specs.Verify.{lower_start, lower_end, lower_in, upper_start, upper_in}
use Rattle.region_verify.proofs.in_range.Goals as goal

pub overflow_mul-span : goal.overflow_mul-span
overflow_mul-span c = omega (arith, c.granularity_at_level-span.ensures, size_high c.args.level)

pub returns-then-region-ge9223372036854775808 : goal.returns-then-region-ge9223372036854775808
returns-then-region-ge9223372036854775808 c =
    let a = c.args in
    lower_start a.range a.level a.region c.granularity_at_level-span.ensures
    c.in-Lower.is c.if-region-ge9223372036854775808.true

pub returns-then-span-region : goal.returns-then-span-region
returns-then-span-region c =
    let a = c.args in
    lower_end a.range a.level a.region c.granularity_at_level-span.ensures
    c.in-Lower.is (omega arith) c.if-span-region.true

pub overflow_sub-span : goal.overflow_sub-span
overflow_sub-span c = omega (arith, c.granularity_at_level-span.ensures, size_high c.args.level)

pub returns-then-region-span : goal.returns-then-region-span
returns-then-region-span c =
    let a = c.args in
    upper_start a.range a.level a.region c.granularity_at_level-span.ensures
    c.in-Upper.is c.if-region-span.true

pub returns-else-span-region : goal.returns-else-span-region
returns-else-span-region c =
    let a = c.args in
    lower_in a.range a.level a.region c.granularity_at_level-span.ensures
    c.in-Lower.is (omega arith) (omega arith)

pub returns-else-region-span : goal.returns-else-region-span
returns-else-region-span c =
    let a = c.args in
    upper_in a.range a.level a.region c.granularity_at_level-span.ensures
    c.in-Upper.is (omega arith)
