-- `count_over`: where as many tables are free as entries are met, none is counted.
use Rattle.std.proofs.Common.{◌-◌, arith}
use Rattle.pool.specs.Lent.{read_state}
use Rattle.map_count_spec.proofs.Closed.{closed-met}
use Rattle.map_count.specs.Laws.{over_none}
use Rattle.map_count.proofs.count_over.Goals as goal

pub returns-then-count_most-free : goal.returns-then-count_most-free
returns-then-count_most-free c =
    let a = c.args in
    let met = closed-met (3 - a.pool.now.handle.level) a.pool.now.handle (read_state a.pool.now) 0 a.map (omega arith) in
    over_none a.free _ (omega (arith, c.count_most.ensures, met))
