-- `chunk_end_lem`: each way through the code by its law.
use native.Mathlib.Omega.{arith}
use Rattle.address_slot.specs.Slot.{chunk_end}
use Rattle.address_slot.proofs.chunk_end.Goals as goal

pub returns-then-end-eq0 : goal.returns-then-end-eq0
unfolding chunk_end
returns-then-end-eq0 c = omega arith

pub returns-then-end-last : goal.returns-then-end-last
unfolding chunk_end
returns-then-end-last c = omega (arith, c.entry_last-last.ensures)

pub returns-else-end-last : goal.returns-else-end-last
unfolding chunk_end
returns-else-end-last c = omega (arith, c.entry_last-last.ensures)
