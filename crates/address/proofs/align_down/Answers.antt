-- `align_down`: each way through the code by its law.
use mathlib.Core.Path.{refl, sym, ap, ◌∙◌}
use native.Mathlib.Omega.{arith}
use Rattle.laws.specs.Size.{down, down-zero, down_le}
use Rattle.address.proofs.align_down.Goals as goal

pub returns-then-alignment-eq0 : goal.returns-then-alignment-eq0
returns-then-alignment-eq0 c = let a = c.args in sym (ap (down a.value) c.if-alignment-eq0.true ∙ down-zero a.value)

pub overflow_mul-result : goal.overflow_mul-result
unfolding down
overflow_mul-result c = let a = c.args in omega (arith, down_le a.value a.alignment)

pub returns : goal.returns
unfolding down
returns c = refl
