use Rattle.std.proofs.Common.{◌-◌}
use Rattle.map_count_leaf.proofs.+count_leaf.Given as goal

abbrev pub decreases-count_leaf : goal.decreases-count_leaf
decreases-count_leaf l = 3 - l.level
