-- `has_frames`: each way through the code by its law.
use native.Mathlib.Omega.{arith}
use Rattle.map_verify.specs.Verify.{fit_part, fit_past, fit_rest}
use Rattle.map_verify.proofs.has_frames.Goals as goal

pub returns-then-frame-ne0 : goal.returns-then-frame-ne0
returns-then-frame-ne0 c = let a = c.args in fit_part a.frame.0 a.length c.if-frame-ne0.true

pub returns-then-length-gt281474976710656 : goal.returns-then-length-gt281474976710656
returns-then-length-gt281474976710656 c = let a = c.args in fit_past a.frame.0 a.length c.if-length-gt281474976710656.true

pub returns : goal.returns
returns c = let a = c.args in fit_rest a.frame.0 a.length (omega arith) (omega arith)
