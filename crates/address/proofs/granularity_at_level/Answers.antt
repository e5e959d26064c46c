-- `granularity_at_level`: each way through the code by its law.
use mathlib.Core.Path.{sym, ap}
use native.Mathlib.Omega.{arith}
use Rattle.laws.specs.Size.{size_at, size_page}
use Rattle.address.proofs.granularity_at_level.Goals as goal

pub returns-in-0 : goal.returns-in-0
unfolding size_at
returns-in-0 c = sym (ap size_at c.in-0.is)

pub returns-in-1 : goal.returns-in-1
unfolding size_at
returns-in-1 c = sym (ap size_at c.in-1.is)

pub returns-in-2 : goal.returns-in-2
unfolding size_at
returns-in-2 c = sym (ap size_at c.in-2.is)

pub returns-in_default : goal.returns-in_default
returns-in_default c = sym (size_page c.args.level (omega arith))
