-- `next`: each way through the code by its law.
use native.Mathlib.Omega.{arith}
use Rattle.region.specs.Region.{next_done, next_cut}
use Rattle.region.specs.Chunks.{next_goes}
use Rattle.region.proofs.ChunkedIteratorIterator.next.Goals as goal

pub returns-then-end-start : goal.returns-then-end-start
returns-then-end-start c = let is = next_done c.args.self.now c.if-end-start.true in record { steps = is; goes = next_goes c.args.self.now _ is }

pub returns : goal.returns
returns c = let is = next_cut c.args.self.now _ (omega arith) c.chunk_end.ensures in record { steps = is; goes = next_goes c.args.self.now _ is }
