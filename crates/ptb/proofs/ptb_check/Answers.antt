-- `ptb_check`: the call told outside.
use Rattle.pool.specs.State.{st}
use Rattle.ptb_spec.specs.Calls.{ptb_check_told}
use Rattle.ptb_answer.specs.Answer.{told}
use Rattle.ptb.proofs.ptb_check.Goals as goal

pub returns : goal.returns
unfolding told
returns c =
    let a = c.args in
    ptb_check_told a.base a.level a.range (st a.words.now a.ledger.now) a.answer.now
    c.handle_of-handle.ensures c.check-outcome.ensures c.tell.ensures
