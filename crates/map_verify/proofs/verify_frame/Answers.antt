-- `verify_frame`: each way through the code by its law.
use mathlib.Core.Path.{sym, ◌∙◌}
use Rattle.map_verify.specs.Verify.{frame_not, frame_may}
use Rattle.map_verify.proofs.verify_frame.Goals as goal

pub returns-then-not-has_frames : goal.returns-then-not-has_frames
returns-then-not-has_frames c =
    let a = c.args in
    frame_not a.frame.0 a.length (sym c.has_frames.ensures ∙ c.if-not-has_frames.true)

pub returns : goal.returns
returns c =
    let a = c.args in
    frame_may a.frame.0 a.length (sym c.has_frames.ensures ∙ c.if-not-has_frames.false)
