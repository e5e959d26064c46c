-- `look_up`: each way through the code by its law.
use Rattle.look_up.proofs.look_up.Goals.{Else-not-is_shaped}
use mathlib.Core.Bool.{true}
use mathlib.Core.Path.{◌≡◌, sym, ◌∙◌}
use Rattle.pool.specs.State.{st}
use Rattle.pool.specs.Refuse.{shaped, Shaped, shaped-says}
use Rattle.look_up.specs.Call.{look_misshaped, look_beyond, look_walks}
use Rattle.look_up.proofs.look_up.Goals as goal

-- past the first test the shape is known
good : (c : Else-not-is_shaped) → let a = c.args in shaped a.handle (st a.words.now a.ledger.now) ≡ true
good c = sym c.is_shaped.ensures ∙ c.if-not-is_shaped.false

shape : (c : Else-not-is_shaped) → let a = c.args in Shaped a.handle (st a.words.now a.ledger.now)
shape c = let a = c.args in shaped-says a.handle (st a.words.now a.ledger.now) (rw (good c) tt)

pub invariant_of-pool : goal.invariant_of-pool
invariant_of-pool c = record { sized = (shape (goal.at.invariant_of-pool c).Else-not-is_shaped).sized }

pub returns-then-not-is_shaped : goal.returns-then-not-is_shaped
returns-then-not-is_shaped c =
    let a = c.args in
    look_misshaped a.handle (st a.words.now a.ledger.now) a.va.0
    (sym c.is_shaped.ensures ∙ c.if-not-is_shaped.true)

pub returns-then-not-is_spanned : goal.returns-then-not-is_spanned
returns-then-not-is_spanned c =
    let a = c.args in
    look_beyond a.handle (st a.words.now a.ledger.now) a.va.0 (good (goal.at.returns-then-not-is_spanned c).Else-not-is_shaped)
    (sym c.is_spanned.ensures ∙ c.if-not-is_spanned.true)

pub walk_from-requires : goal.walk_from-requires
walk_from-requires c =
    let p = shape (goal.at.walk_from-requires c).Else-not-is_shaped in
    (p.some, p.level)

pub returns : goal.returns
returns c =
    let a = c.args in
    c.walk_from.ensures
    ∙ look_walks a.handle (st a.words.now a.ledger.now) a.va.0 (good (goal.at.returns c).Else-not-is_shaped)
    (sym c.is_spanned.ensures ∙ c.if-not-is_spanned.false)
