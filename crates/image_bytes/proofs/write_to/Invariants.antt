use Rattle.std.proofs.Common.{◌≡◌}
use Rattle.image_bytes.specs.Image.{imaged_to}
use Rattle.image_bytes.proofs.write_to.Given as goal

abbrev pub invariant-loop-i : goal.invariant-loop-i
invariant-loop-i l = l.page ≡ imaged_to l.i l.table l.initial.page
