-- `range_of` reads the number of a range.
use borrow.Author.Tests.{eq-eqb, ne_eqb}
use Rattle.pool_handle.specs.Handle.{range_of}
use Rattle.pool_handle.proofs.range_of.Goals as goal

pub returns-then-range-eq0 : goal.returns-then-range-eq0
unfolding range_of
returns-then-range-eq0 c = rw (eq-eqb c.args.range 0 c.if-range-eq0.true)

pub returns-else-range-eq0 : goal.returns-else-range-eq0
unfolding range_of
returns-else-range-eq0 c = rw (ne_eqb c.args.range 0 c.if-range-eq0.false)
