-- `end_fits`: each way through the code by its law.
use Rattle.region_verify.specs.Verify.{end_zero, end_some}
use Rattle.region_verify.proofs.end_fits.Goals as goal

pub returns-then-end-eq0 : goal.returns-then-end-eq0
returns-then-end-eq0 c = end_zero c.args.end c.if-end-eq0.true

pub returns : goal.returns
returns c = end_some c.args.end c.if-end-eq0.false
