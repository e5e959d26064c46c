-- `ptb_modify`: the call told outside.
use Rattle.pool.specs.State.{st}
use Rattle.ptb_spec.specs.Calls.{ptb_modify_told}
use Rattle.ptb_answer.specs.Answer.{told_modified}
use Rattle.ptb.proofs.ptb_modify.Goals as goal

pub returns : goal.returns
unfolding told_modified
returns c =
    let a = c.args in
    ptb_modify_told a.base a.level a.range a.start a.end a.set a.clear a.live
    (st a.words.now a.ledger.now) a.list.now a.answer.now
    c.handle_of-handle.ensures c.modify-modified.ensures c.tell.ensures
