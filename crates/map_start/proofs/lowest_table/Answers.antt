-- `lowest_table` goes down while the map does.
use Rattle.std.proofs.Common.{◌∙◌, arith}
use Rattle.map_start.proofs.lowest_table.Goals as goal

pub loop-level-preserved : goal.loop-level-preserved
loop-level-preserved c =
    let leads = c.next_table-next.ensures _ c.in-Some.is in
    (leads.0 ∙ c.loop-level.invariant.0, leads.1, omega arith)
