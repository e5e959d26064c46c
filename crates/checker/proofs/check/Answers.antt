-- `check`: past the first test the shape is known.
use Rattle.checker.proofs.check.Goals.{Else-not-is_shaped}
use mathlib.Core.Path.{sym, ◌∙◌}
use Rattle.pool.specs.State.{st}
use Rattle.pool.specs.Refuse.{Shaped, shaped-says}
use Rattle.checker.proofs.check.Goals as goal

shape : (c : Else-not-is_shaped) → let a = c.args in Shaped a.handle (st a.words.now a.ledger.now)
shape c =
    let a = c.args in
    shaped-says a.handle (st a.words.now a.ledger.now) (rw (sym c.is_shaped.ensures ∙ c.if-not-is_shaped.false) tt)

pub invariant_of-pool : goal.invariant_of-pool
invariant_of-pool c = record { sized = (shape (goal.at.invariant_of-pool c).Else-not-is_shaped).sized }

pub is_sound-requires : goal.is_sound-requires
is_sound-requires c = shape (goal.at.is_sound-requires c).Else-not-is_shaped
