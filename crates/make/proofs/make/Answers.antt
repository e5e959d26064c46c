-- `make`: each way through the code by its law.
use Rattle.make.proofs.make.Goals.{Else-not-is_shaped}
use mathlib.Core.List.{List}
use mathlib.Core.Path.{sym, ap₂, ◌∙◌}
use Prim.Native.Nat.{ℕ, ◌+◌}
use native.Mathlib.Omega.{arith}
use lib.ListN.{set}
use Rattle.pool.specs.State.{st}
use Rattle.pool.specs.Number.{root_number}
use Rattle.pool.specs.Refuse.{Shaped, shaped-says, out}
use Rattle.make.specs.Call.{fresh, make_refused, make_accepted}
use Rattle.make.proofs.make.Goals as goal
use Rattle.std.specs.Prelude.{Ok}

-- past the test the shape is known
shape : (c : Else-not-is_shaped)
    → let a = c.args in Shaped a.handle (st a.words.now a.ledger.now)
shape c =
    let a = c.args in
    shaped-says a.handle (st a.words.now a.ledger.now) (rw (sym c.is_shaped.ensures ∙ c.if-not-is_shaped.false) tt)

pub returns-then-not-is_shaped : goal.returns-then-not-is_shaped
returns-then-not-is_shaped c =
    let a = c.args in
    make_refused a.handle (st a.words.now a.ledger.now) (sym c.is_shaped.ensures ∙ c.if-not-is_shaped.true)

pub overflow_add-ledger : goal.overflow_add-ledger
overflow_add-ledger c = let p = shape (goal.at.overflow_add-ledger c).Else-not-is_shaped in omega (arith, p.level)

pub overflow_cast-ledger : goal.overflow_cast-ledger
overflow_cast-ledger c = let p = shape (goal.at.overflow_cast-ledger c).Else-not-is_shaped in omega (arith, p.level)

pub bounds-ledger-0 : goal.bounds-ledger-0
bounds-ledger-0 c = let p = shape (goal.at.bounds-ledger-0 c).Else-not-is_shaped in omega (arith, p.some)

pub returns : goal.returns
unfolding fresh root_number
returns c =
    let a = c.args in
    ap₂ (λ (w l : List ℕ). out (Ok tt) (st w (set l 0 (4 + a.handle.level))))
    c.zero.ensures c.zero-2.ensures
    ∙ make_accepted a.handle (st a.words.now a.ledger.now) (sym c.is_shaped.ensures ∙ c.if-not-is_shaped.false)
