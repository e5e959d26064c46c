-- `modify`: the refusals that `?` passes on, and the call on a shaped pool.
use Rattle.std.proofs.Common.{rules, ◌≡◌, ℕ, List, ◌-◌, ◌^◌, ◌≤◌, true, sym, ap, ap₂, ◌∙◌}
use mathlib.Core.Path.{subst⁻¹}
use Rattle.std.proofs.lemmas.Result.{err_from_is_err_and}
use Rattle.pool.specs.State.{st}
use Rattle.pool.specs.Refuse.{shaped, Shaped, shaped-says}
use Rattle.modify_entry.specs.declared.Edit.{Edit}
use Rattle.modify_verify.specs.Verify.{verify_edit, asked_edit, asked_is, asked-span}
use Rattle.modify.specs.Call.{modifying, modify_sound, call-refused, call-asked}
use Rattle.modify.proofs.modify.Goals as goal
use Rattle.modify.proofs.modify.Goals.{After-verify_edit}

-- past the first test the shape is known
good : (c : After-verify_edit) → shaped c.args.handle (st c.args.words.now c.args.ledger.now) ≡ true
good c = sym c.is_shaped.ensures ∙ c.if-not-is_shaped.false

shape : (c : After-verify_edit) → Shaped c.args.handle (st c.args.words.now c.args.ledger.now)
shape c = shaped-says c.args.handle (st c.args.words.now c.args.ledger.now) (rw (good c) tt)

-- what `verify_edit` answers on the edit that is asked for
verified : (c : After-verify_edit)
    → let a = c.args in
    c.verify_edit.result ≡ verify_edit a.handle a.end.0 (asked_edit a.start.0 a.end.0 a.set a.clear a.live)
verified c =
    let a = c.args in
    c.verify_edit.ensures ∙ ap (verify_edit a.handle a.end.0) (asked_is a.start.0 a.end.0 a.set a.clear a.live c.new.ensures)

pub returns-in_err-verify_edit : goal.returns-in_err-verify_edit
returns-in_err-verify_edit c =
    let a = c.args in
    let at = (goal.at.returns-in_err-verify_edit c).After-verify_edit in
    let p = err_from_is_err_and c.from_residual.result c.from_residual.ensures.1 in
    rw (p.1, p.2)
    (call-refused a.handle a.start.0 a.end.0 a.set a.clear a.live (st a.words.now a.ledger.now) a.list.now (good at) (verified at) _
    c.in_err-verify_edit.was)

pub invariant_of-pool : goal.invariant_of-pool
invariant_of-pool c = record { sized = (shape (goal.at.invariant_of-pool c).After-verify_edit).sized }

pub modify_sound-requires : goal.modify_sound-requires
modify_sound-requires c =
    let a = c.args in
    let at = (goal.at.modify_sound-requires c).After-verify_edit in
    let asked = asked_is a.start.0 a.end.0 a.set a.clear a.live c.new.ensures in
    let span = asked-span a.handle a.start.0 a.end.0 a.set a.clear a.live (sym (verified at) ∙ c.in_ok-verify_edit.was) in (
      shape at,
      subst⁻¹ (λ (e : Edit). e.region.end.0 - e.region.start.0 ≤ 2 ^ 48) asked span,
    )

pub returns : goal.returns
returns c =
    let a = c.args in
    let at = (goal.at.returns c).After-verify_edit in
    let s = st a.words.now a.ledger.now in
    ap₂ (λ (w l : List ℕ). modifying c.modify_sound.result (st w l) c.modify_sound.new.list) (search rules) (search rules)
    ∙ c.modify_sound.ensures.leaves
    ∙ ap (λ (e : Edit). modify_sound a.handle e s a.list.now) (asked_is a.start.0 a.end.0 a.set a.clear a.live c.new.ensures)
    ∙ call-asked a.handle a.start.0 a.end.0 a.set a.clear a.live s a.list.now (good at) (verified at) c.in_ok-verify_edit.was
