-- `verify_map`: each way through the code by its law.
use Rattle.map_verify.proofs.verify_map.Goals.{Else-not-are_from, Else-not-end_fits}
use mathlib.Core.Path.{◌≡◌, sym, ap, ◌∙◌}
use Prim.Native.Nat.{ℕ}
use mathlib.Core.Bool.{true}
use Rattle.entry.specs.Word.{only}
use Rattle.pool.specs.Sound.{flag_set}
use Rattle.region_verify.specs.Verify.{end_fits}
use Rattle.map_verify.specs.Verify.{frame_asked, ask_end, ask_invalid, ask_set, ask_region, ask_frame}
use Rattle.std.proofs.lemmas.Result.{err_from_is_err_and}
use Rattle.map_verify.proofs.verify_map.Goals as goal

ends : (c : Else-not-end_fits) → end_fits c.args.end ≡ true
ends c = sym c.end_fits.ensures ∙ c.if-not-end_fits.false

from : (c : Else-not-are_from)
    → let a = c.args in only (flag_set a.handle) a.map.flags ≡ true
from c = let a = c.args in
    ap (λ (x : ℕ). only x a.map.flags) (sym c.flag_set.ensures) ∙ sym c.are_from.ensures
    ∙ c.if-not-are_from.false

pub returns-then-not-end_fits : goal.returns-then-not-end_fits
returns-then-not-end_fits c =
    let a = c.args in
    ask_end a.handle a.end a.map (sym c.end_fits.ensures ∙ c.if-not-end_fits.true)

pub returns-then-map-eq1 : goal.returns-then-map-eq1
returns-then-map-eq1 c =
    let a = c.args in ask_invalid a.handle a.end a.map (ends (goal.at.returns-then-map-eq1 c).Else-not-end_fits) c.if-map-eq1.true

pub returns-then-not-are_from : goal.returns-then-not-are_from
returns-then-not-are_from c =
    let a = c.args in
    ask_set a.handle a.end a.map (ends (goal.at.returns-then-not-are_from c).Else-not-end_fits) c.if-map-eq1.false
    (ap (λ (x : ℕ). only x a.map.flags) (sym c.flag_set.ensures) ∙ sym c.are_from.ensures
    ∙ c.if-not-are_from.true)

pub returns-in_err-verify_region : goal.returns-in_err-verify_region
returns-in_err-verify_region c =
    let a = c.args in
    let refused = c.in_err-verify_region.was in
    let passed_on = err_from_is_err_and c.from_residual.result c.from_residual.ensures.1 in
    rw (passed_on.1, passed_on.2)
    (sym refused ∙ ask_region a.handle a.end a.map (ends (goal.at.returns-in_err-verify_region c).Else-not-end_fits)
    c.if-map-eq1.false (from (goal.at.returns-in_err-verify_region c).Else-not-are_from) c.verify_region.ensures _ refused)

pub returns : goal.returns
returns c =
    let a = c.args in
    c.verify_frame.ensures
    ∙ ap (λ (x : ℕ). frame_asked a.map.frame.0 x) c.len.ensures
    ∙ ask_frame a.handle a.end a.map (ends (goal.at.returns c).Else-not-end_fits)
    c.if-map-eq1.false (from (goal.at.returns c).Else-not-are_from)
    c.verify_region.ensures c.in_ok-verify_region.was
