-- `fill`: each way through the code by its law.
use mathlib.Core.List.{List}
use mathlib.Core.Path.{◌≡◌, sym, ap₂, ◌∙◌}
use Prim.Native.Nat.{ℕ, ◌+◌, ◌*◌, ◌≤◌}
use native.Mathlib.Omega.{arith}
use lib.ListN.{set}
use Rattle.std.proofs.Math.Nat.{mul-le-mul_left}
use Rattle.laws.specs.Part.{write_more, write_all}
use Rattle.pool_table.specs.Table.{rising, length-rising, rising_at}
use Rattle.pool_take.proofs.fill.Goals as goal

pub loop-i-preserved : goal.loop-i-preserved
loop-i-preserved c =
    let a = c.args in
    let i = c.loop-i.i in
    let all = rising 512 a.first a.step in
    let here = rising_at 512 a.first a.step i (omega arith) in
    let fits : a.step * i ≤ a.step * 511 = mul-le-mul_left a.step (omega arith) in
    let word : c.loop-i.word ≡ a.first + i * a.step = omega (arith, c.loop-i.invariant.1, c.requires.1, fits) in (
      ap₂ (λ (t : List ℕ) (w : ℕ). set t i w) c.loop-i.invariant.0 (word ∙ sym here)
          ∙ write_more a.table.now all i 0 (omega arith) (omega (arith, length-rising 512 a.first a.step)),
      omega (arith, word),
    )

pub returns : goal.returns
returns c =
    let a = c.args in
    let i = c.loop-i.i in
    c.loop-i.invariant.0
    ∙ write_all a.table.now (rising 512 a.first a.step) i (omega arith) (omega (arith, length-rising 512 a.first a.step))
