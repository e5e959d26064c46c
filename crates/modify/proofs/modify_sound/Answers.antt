-- `modify_sound`: the refusals that `?` passes on, and the edit.
use Rattle.std.proofs.Common.{◌≡◌, ◌-◌, length, true, sym, ap, ◌∙◌, arith}
use Rattle.std.proofs.lemmas.Result.{err_from_is_err_and}
use Rattle.pool.specs.Lent.{lent}
use Rattle.pool.specs.Number.{free, used-free}
use Rattle.pool.specs.Sound.{soundb}
use Rattle.modify.specs.Call.{sound_refused, sound_edited, survey_of}
use Rattle.modify.proofs.modify_sound.Goals as goal
use Rattle.modify.proofs.modify_sound.Goals.{After-count_used, After-survey_range-found}

-- past the first test the pool is sound, and what is left of it is known
sound : (c : After-count_used) → soundb c.args.pool.now.handle (lent c.args.pool.now) ≡ true
sound c = rw (← c.read-seen.ensures.handle, ← c.read-seen.ensures.state) (sym c.is_sound.ensures ∙ c.if-not-is_sound.false)

room : (c : After-count_used) → length c.read-seen.result.ledger.now - c.count_used.result ≡ free c.args.pool.now.ledger.now
room c =
    let u = used-free c.read-seen.result.ledger.now in
    omega (arith, c.count_used.ensures) ∙ ap free c.read-seen.ensures.ledger

-- what the survey finds
found : (c : After-survey_range-found)
    → c.survey_range-found.result ≡ survey_of c.args.pool.now.handle c.args.edit (lent c.args.pool.now)
found c = rw (← c.read-seen.ensures.handle, ← c.read-seen.ensures.state) c.survey_range-found.ensures

pub overflow_sub-free : goal.overflow_sub-free
overflow_sub-free c = let u = used-free c.read-seen.result.ledger.now in omega (arith, c.count_used.ensures)

pub returns-in_err-verify_survey-clause-leaves : goal.returns-in_err-verify_survey-clause-leaves
returns-in_err-verify_survey-clause-leaves c =
    let a = c.args in
    let at = goal.at.returns-in_err-verify_survey-clause-leaves c in
    let p = err_from_is_err_and c.from_residual.result c.from_residual.ensures.1 in
    rw (p.1, p.2)
    (sound_refused a.pool.now.handle a.edit (lent a.pool.now) a.list.now (sound at.After-count_used) (room at.After-count_used)
    (found at.After-survey_range-found) c.verify_survey.ensures _ c.in_err-verify_survey.was)

pub returns-clause-leaves : goal.returns-clause-leaves
returns-clause-leaves c =
    let a = c.args in
    let at = goal.at.returns-clause-leaves c in
    c.edit_tables.ensures.leaves
    ∙ sound_edited a.pool.now.handle a.edit (lent a.pool.now) a.list.now (sound at.After-count_used) (room at.After-count_used)
    (found at.After-survey_range-found) c.verify_survey.ensures c.in_ok-verify_survey.was
