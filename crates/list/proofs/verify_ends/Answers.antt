-- `verify_ends`: each way through the code by its law.
use mathlib.Core.Path.{sym, ◌∙◌}
use Rattle.list.specs.Call.{ends_past, ends_fit}
use Rattle.list.proofs.verify_ends.Goals as goal

pub returns-then-not-end_fits : goal.returns-then-not-end_fits
returns-then-not-end_fits c =
    let a = c.args in
    ends_past a.handle a.start a.end (sym c.end_fits.ensures ∙ c.if-not-end_fits.true)

pub returns : goal.returns
returns c =
    let a = c.args in
    c.verify_region.ensures
    ∙ ends_fit a.handle a.start a.end
    (sym c.end_fits.ensures ∙ c.if-not-end_fits.false) c.new.ensures
