-- `root_level`: the level as given, or that of no root.
use borrow.Author.Tests.{le-leb, lt-leb}
use Rattle.pool_handle.specs.Handle.{root_level}
use Rattle.pool_handle.proofs.root_level.Goals as goal

pub returns-then-range-gt-UPPER : goal.returns-then-range-gt-UPPER
unfolding root_level
returns-then-range-gt-UPPER c = rw (lt-leb c.args.range 1 c.if-range-gt-UPPER.true)

pub returns : goal.returns
unfolding root_level
returns c = rw (le-leb c.args.range 1 c.if-range-gt-UPPER.false)
