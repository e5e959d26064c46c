-- `map`: each way through the code by its law.
use Rattle.std.proofs.Common.{rules, ◌≡◌, ℕ, List, ap₂, ◌%◌, sym, ap, subst, ◌∙◌, eqb, arith}
use Rattle.pool.specs.State.{st}
use Rattle.pool.specs.Refuse.{out, shaped-says}
use Rattle.map_rules.specs.declared.Map.{Map}
use Rattle.map_rules.specs.Fit.{Fit}
use Rattle.map_verify.specs.Verify.{asked_map, verify_map, asked_is, asked_fit}
use Rattle.map_spec.specs.Call.{map_sound, call_misshaped, call-refused, call-asked}
use Rattle.std.proofs.lemmas.Result.{err_from_is_err_and}
use Rattle.map.proofs.map.Goals.{After-new, After-verify_map}
use Rattle.map.proofs.map.Goals as goal

-- the map that is asked for
asked : (c : After-new) → let a = c.args in
    ◌≡◌ {A = Map} (record { region = c.new.result; frame = a.frame; flags = a.flags; blocks = eqb (a.constraints.0 % 2) 0 })
    (asked_map a.start.0 a.end.0 a.frame.0 a.flags a.constraints.0)
asked c = let a = c.args in asked_is a.start.0 a.end.0 a.frame.0 a.flags a.constraints.0 c.new.ensures

-- what `verify_map` answers on the map that is asked for
verified : (c : After-verify_map) → let a = c.args in
    c.verify_map.result ≡ verify_map a.handle a.end.0 (asked_map a.start.0 a.end.0 a.frame.0 a.flags a.constraints.0)
verified c =
    let a = c.args in
    c.verify_map.ensures
    ∙ ap (verify_map a.handle a.end.0) (asked_is a.start.0 a.end.0 a.frame.0 a.flags a.constraints.0 c.new.ensures)

pub returns-then-not-is_shaped : goal.returns-then-not-is_shaped
returns-then-not-is_shaped c =
    let a = c.args in
    call_misshaped a.handle a.start.0 a.end.0 a.frame.0 a.flags a.constraints.0 (st a.words.now a.ledger.now)
    (sym c.is_shaped.ensures ∙ c.if-not-is_shaped.true)

pub map_sound-requires : goal.map_sound-requires
map_sound-requires c =
    let a = c.args in
    let at = goal.at.map_sound-requires c in
    let accepted = sym (verified at.After-verify_map) ∙ c.in_ok-verify_map.was in
    let fit = asked_fit a.handle a.start.0 a.end.0 a.frame.0 a.flags a.constraints.0 (omega arith) accepted in
    let shape = shaped-says a.handle (st a.words.now a.ledger.now) (rw (sym c.is_shaped.ensures ∙ c.if-not-is_shaped.false) tt) in
    (shape, subst Fit (sym (asked at.After-new)) fit)

pub returns-in_err-verify_map : goal.returns-in_err-verify_map
returns-in_err-verify_map c =
    let a = c.args in
    let passed_on = err_from_is_err_and c.from_residual.result c.from_residual.ensures.1 in
    rw (passed_on.1, passed_on.2)
    (call-refused a.handle a.start.0 a.end.0 a.frame.0 a.flags a.constraints.0 (st a.words.now a.ledger.now)
    (sym c.is_shaped.ensures ∙ c.if-not-is_shaped.false)
    (verified (goal.at.returns-in_err-verify_map c).After-verify_map) _ c.in_err-verify_map.was)

pub invariant_of-pool : goal.invariant_of-pool
invariant_of-pool c =
    let a = c.args in
    let shape = shaped-says a.handle (st a.words.now a.ledger.now) (rw (sym c.is_shaped.ensures ∙ c.if-not-is_shaped.false) tt) in
    record { sized = shape.sized }

-- the pool's slices end as the call leaves them
pub returns : goal.returns
returns c =
    let a = c.args in
    let at = goal.at.returns c in
    let s = st a.words.now a.ledger.now in
    ap₂ (λ (x y : List ℕ). out c.map_sound.result (st x y)) (search rules) (search rules)
    ∙ c.map_sound.ensures.leaves
    ∙ ap (λ (m : Map). map_sound a.handle m s) (asked at.After-new)
    ∙ call-asked a.handle a.start.0 a.end.0 a.frame.0 a.flags a.constraints.0 s (sym c.is_shaped.ensures ∙ c.if-not-is_shaped.false)
    (verified at.After-verify_map) c.in_ok-verify_map.was
