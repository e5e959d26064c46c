use Rattle.std.proofs.Common.{◌≡◌, ◌+◌, ◌-◌}
use Rattle.map_count_spec.specs.Closed.{rests}
use Rattle.map_count_leaf.proofs.count_rest.Given as goal

abbrev pub invariant-loop-below : goal.invariant-loop-below
invariant-loop-below l = l.count + rests (3 - l.below) l.map ≡ rests (3 - l.level) l.map
