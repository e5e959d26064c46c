-- `clear_table`: each way through the code by its law.
use mathlib.Core.List.{List}
use mathlib.Core.Path.{ap, ◌∙◌}
use Prim.Native.Nat.{ℕ}
use native.Mathlib.Omega.{arith}
use lib.ListN.{set}
use Rattle.pool.specs.State.{st}
use Rattle.pool_table.specs.Table.{clear_is}
use Rattle.pool_table.proofs.Parts.{zeroed_part}
use Rattle.pool_table.proofs.clear_table.Goals as goal

pub returns-clause-leaves : goal.returns-clause-leaves
returns-clause-leaves c =
    let a = c.args in
    let p = a.pool.now in
    let part = c.zero in
    ap (λ (w : List ℕ). st w (set p.ledger.now a.k 0))
    (zeroed_part a.k p.words.now part.new.numbers (omega (arith, p.sized)) part.ensures)
    ∙ clear_is a.k (st p.words.now p.ledger.now)
