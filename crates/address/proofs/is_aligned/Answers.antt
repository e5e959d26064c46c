-- `is_aligned`: each way through the code by its law.
use mathlib.Core.Path.{sym, ap, ◌∙◌}
use Prim.Native.Nat.{ℕ, ◌%◌}
use native.Mathlib.Nat.{mod-zero}
use lib.Dec.{eqb}
use Rattle.address.proofs.is_aligned.Goals as goal

pub returns-then-alignment-eq0 : goal.returns-then-alignment-eq0
returns-then-alignment-eq0 c =
    let a = c.args in
    sym (ap (λ (x : ℕ). eqb x 0) (ap (λ (d : ℕ). a.value % d) c.if-alignment-eq0.true ∙ mod-zero a.value))
