use Rattle.std.proofs.Common.{◌≡◌, ◌+◌, ◌-◌}
use Rattle.map_count_spec.specs.Closed.{mets}
use Rattle.map_count_leaf.proofs.count_most.Given as goal

abbrev pub invariant-loop-below : goal.invariant-loop-below
invariant-loop-below l = l.count + mets (3 - l.below) l.region.start.0 l.region.end.0 ≡ mets (3 - l.level) l.region.start.0 l.region.end.0
