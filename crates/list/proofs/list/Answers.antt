-- `list`: each way through the code by its law.
use Rattle.list.proofs.list.Goals.{Else-not-is_shaped}
use mathlib.Core.Bool.{true}
use mathlib.Core.Path.{◌≡◌, sym, ◌∙◌}
use Rattle.std.proofs.lemmas.Result.{err_from_is_err_and}
use Rattle.pool.specs.State.{st}
use Rattle.pool.specs.Refuse.{shaped, Shaped, shaped-says}
use Rattle.list.specs.Call.{list_misshaped, list_region, list_unsound, list_sound_lem, verified_length}
use Rattle.list.proofs.list.Goals as goal

-- past the first test the shape is known
good : (c : Else-not-is_shaped) → let a = c.args in shaped a.handle (st a.words.now a.ledger.now) ≡ true
good c = sym c.is_shaped.ensures ∙ c.if-not-is_shaped.false

shape : (c : Else-not-is_shaped) → let a = c.args in Shaped a.handle (st a.words.now a.ledger.now)
shape c = let a = c.args in shaped-says a.handle (st a.words.now a.ledger.now) (rw (good c) tt)

pub invariant_of-pool : goal.invariant_of-pool
invariant_of-pool c = record { sized = (shape (goal.at.invariant_of-pool c).Else-not-is_shaped).sized }

pub returns-then-not-is_shaped : goal.returns-then-not-is_shaped
returns-then-not-is_shaped c =
    let a = c.args in
    list_misshaped a.handle (st a.words.now a.ledger.now) a.start.0 a.end.0 a.list.now
    (sym c.is_shaped.ensures ∙ c.if-not-is_shaped.true)

pub returns-in_err-verify_ends : goal.returns-in_err-verify_ends
returns-in_err-verify_ends c =
    let a = c.args in
    let p = err_from_is_err_and c.from_residual.result c.from_residual.ensures.1 in
    rw (p.1, p.2)
    (list_region a.handle (st a.words.now a.ledger.now) a.start.0 a.end.0 a.list.now
    (good (goal.at.returns-in_err-verify_ends c).Else-not-is_shaped) c.verify_ends.ensures _ c.in_err-verify_ends.was)

pub is_sound-requires : goal.is_sound-requires
is_sound-requires c = shape (goal.at.is_sound-requires c).Else-not-is_shaped

pub returns-then-not-is_sound : goal.returns-then-not-is_sound
returns-then-not-is_sound c =
    let a = c.args in
    list_unsound a.handle (st a.words.now a.ledger.now) a.start.0 a.end.0 a.list.now
    (good (goal.at.returns-then-not-is_sound c).Else-not-is_shaped)
    c.verify_ends.ensures
    c.in_ok-verify_ends.was
    (sym c.is_sound.ensures ∙ c.if-not-is_sound.true)

pub list_lines-requires : goal.list_lines-requires
list_lines-requires c =
    let a = c.args in
    let p = shape (goal.at.list_lines-requires c).Else-not-is_shaped in (
      p.sized,
      p.some,
      p.level,
      verified_length a.handle a.start.0 a.end.0
          (sym c.verify_ends.ensures ∙ c.in_ok-verify_ends.was) c.new.ensures,
    )

pub returns : goal.returns
returns c =
    let a = c.args in
    c.list_lines.ensures
    ∙ list_sound_lem a.handle (st a.words.now a.ledger.now) a.start.0 a.end.0 a.list.now
    (good (goal.at.returns c).Else-not-is_shaped)
    c.verify_ends.ensures
    c.in_ok-verify_ends.was
    (sym c.is_sound.ensures ∙ c.if-not-is_sound.false)
    c.new.ensures
