-- `verify_region`: each way through the code by its law.
use mathlib.Core.Path.{◌∙◌}
use native.Mathlib.Omega.{arith}
use Rattle.region_verify.specs.Verify.{verify_backwards, verify_forwards}
use Rattle.region_verify.proofs.verify_region.Goals as goal

pub returns-then-region : goal.returns-then-region
returns-then-region c = let a = c.args in verify_backwards a.handle a.region c.if-region.true

pub returns : goal.returns
returns c = let a = c.args in c.in_range.ensures ∙ verify_forwards a.handle a.region (omega arith)
