-- `length_of_line` keeps count of no more bytes than it has read, 2^32 at most.
use Rattle.std.proofs.Common.{◌≤◌}
use Rattle.text_script.proofs.line.length_of_line.Given as goal

abbrev pub invariant-loop : goal.invariant-loop
invariant-loop g l = l.length ≤ l.counter
