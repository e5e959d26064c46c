use Rattle.std.proofs.Common.{◌-◌}
use Rattle.pool.specs.Lent.{read_state}
use Rattle.map_count.specs.Laws.{count_at}
use Rattle.map_count.proofs.Step.{Counting}
use Rattle.map_count.proofs.+count_new.Given as goal

abbrev pub invariant-loop-region : goal.invariant-loop-region
invariant-loop-region l =
    Counting l.level (count_at l.pool.handle (read_state l.pool) l.k l.level) l.map l.count l.region-iterator l.frame.0

abbrev pub decreases-count_new : goal.decreases-count_new
decreases-count_new l = 3 - l.level
