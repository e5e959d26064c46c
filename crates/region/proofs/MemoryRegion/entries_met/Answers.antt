-- `entries_met`: each way through the code by its law.
use Rattle.std.proofs.Common.{sym, arith}
use Rattle.region.specs.Chunks.{met_none, met_some}
use Rattle.region.proofs.MemoryRegion.entries_met.Goals as goal

pub returns-then-self : goal.returns-then-self
returns-then-self c = let a = c.args in sym (met_none a.level a.self.start.0 a.self.end.0 c.if-self.true)

pub returns : goal.returns
returns c =
    let a = c.args in
    omega (arith, met_some a.level a.self.start.0 a.self.end.0 (omega arith), c.entry_number.ensures, c.entry_number-2.ensures)
