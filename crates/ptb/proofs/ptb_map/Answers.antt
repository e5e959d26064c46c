-- `ptb_map`: the call told outside.
use Rattle.pool.specs.State.{st}
use Rattle.ptb_spec.specs.Calls.{ptb_map_told}
use Rattle.ptb_answer.specs.Answer.{told_counted}
use Rattle.ptb.proofs.ptb_map.Goals as goal

pub returns : goal.returns
unfolding told_counted
returns c =
    let a = c.args in
    ptb_map_told a.base a.level a.range a.start a.end a.frame a.flags a.constraints
    (st a.words.now a.ledger.now) a.answer.now
    c.handle_of-handle.ensures c.map-counted.ensures c.tell.ensures
