use Rattle.pool.specs.Lent.{read_state}
use Rattle.map_count.specs.Laws.{count_at}
use Rattle.map_count.proofs.Step.{Counting}
use Rattle.map_count.proofs.count_last.Given as goal

abbrev pub invariant-loop-region : goal.invariant-loop-region
invariant-loop-region l =
    Counting 2 (count_at l.pool.handle (read_state l.pool) l.k 2) l.map l.count l.region-iterator l.frame.0
