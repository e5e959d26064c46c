use Rattle.pool.specs.Lent.{read_state}
use Rattle.map_start.specs.Start.{Serves}
use Rattle.map_start.proofs.lowest_table.Given as goal

-- the map does in table k what it does from the root
abbrev pub invariant-loop-level : goal.invariant-loop-level
invariant-loop-level l = Serves l.pool.handle l.map (read_state l.pool) l.table l.level
