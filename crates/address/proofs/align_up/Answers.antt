-- `align_up`: each way through the code by its law.
use native.Mathlib.Nat.{mod-le}
use native.Mathlib.Omega.{arith}
use Rattle.address.specs.Address.{align_up_none, align_up_exact, align_up_past, align_up_next}
use Rattle.address.proofs.align_up.Goals as goal

pub returns-then-alignment-eq0 : goal.returns-then-alignment-eq0
returns-then-alignment-eq0 c = let a = c.args in align_up_none a.value a.alignment c.if-alignment-eq0.true

pub returns-then-rest-eq0 : goal.returns-then-rest-eq0
returns-then-rest-eq0 c =
    let a = c.args in
    align_up_exact a.value a.alignment (omega arith) c.if-rest-eq0.true (omega arith)

pub overflow_sub-below : goal.overflow_sub-below
overflow_sub-below c = let a = c.args in mod-le a.value a.alignment

pub returns-then-below-alignment : goal.returns-then-below-alignment
returns-then-below-alignment c =
    let a = c.args in
    align_up_past a.value a.alignment (omega arith) c.if-rest-eq0.false (omega arith)

pub returns : goal.returns
returns c =
    let a = c.args in
    align_up_next a.value a.alignment (omega arith) c.if-rest-eq0.false (omega arith)
