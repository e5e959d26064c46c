-- `are_from`: each way through the code by its law.
use Rattle.std.proofs.Common.{refl}
use Rattle.entry.specs.Word.{only}
use Rattle.entry.proofs.are_from.Goals as goal

pub returns : goal.returns
unfolding only
returns c = refl
