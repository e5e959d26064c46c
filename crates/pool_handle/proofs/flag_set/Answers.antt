-- `flag_set`: each way through the code by its law.
use mathlib.Core.Path.{refl}
use Rattle.entry.specs.Word.{el1_flags}
use Rattle.pool.specs.Sound.{flag_set}
use Rattle.pool_handle.proofs.flag_set.Goals as goal

pub returns : goal.returns
unfolding flag_set el1_flags
returns c = refl
