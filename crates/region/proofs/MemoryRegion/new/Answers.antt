-- `new`: each way through the code by its law.
use mathlib.Core.Path.{ap₂}
use Rattle.region.specs.Region.{region, rounded}
use Rattle.region.proofs.MemoryRegion.new.Goals as goal

pub returns : goal.returns
unfolding rounded
returns c = ap₂ region c.align_down.ensures c.align_up.ensures
