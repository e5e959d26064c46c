-- `handle_of` makes a handle of three numbers.
use Rattle.pool_handle.proofs.handle_of.Goals as goal

pub returns : goal.returns
returns c = rw (c.root_level.ensures, c.range_of.ensures)
