-- `ptb_list`: the call told outside.
use Rattle.pool.specs.State.{st}
use Rattle.ptb_spec.specs.Calls.{ptb_list_told}
use Rattle.ptb_answer.specs.Answer.{told_listed}
use Rattle.ptb.proofs.ptb_list.Goals as goal

pub returns : goal.returns
unfolding told_listed
returns c =
    let a = c.args in
    ptb_list_told a.base a.level a.range (st a.words.now a.ledger.now) a.start a.end a.lines.now a.answer.now
    c.handle_of-handle.ensures c.list-listed.ensures c.tell.ensures
