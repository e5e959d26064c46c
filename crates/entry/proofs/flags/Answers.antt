-- `flags`: each way through the code by its law.
use Rattle.entry.specs.Word.{mask_flags}
use Rattle.entry.proofs.flags.Goals as goal

pub returns : goal.returns
returns c = mask_flags c.args.word c.ranges.word.fits
