-- `ptb_compact`: the call told outside.
use Rattle.pool.specs.State.{st}
use Rattle.ptb_spec.specs.Calls.{ptb_compact_told}
use Rattle.ptb_answer.specs.Answer.{told_counted}
use Rattle.ptb.proofs.ptb_compact.Goals as goal

pub returns : goal.returns
unfolding told_counted
returns c =
    let a = c.args in
    ptb_compact_told a.base a.level a.range (st a.words.now a.ledger.now) a.answer.now
    c.handle_of-handle.ensures c.compact-counted.ensures c.tell.ensures
