-- `ptb_look_up`: the call told outside.
use Rattle.pool.specs.State.{st}
use Rattle.ptb_spec.specs.Calls.{ptb_look_up_told}
use Rattle.std.proofs.Common.{◌∙◌}
use Rattle.ptb_answer.specs.Answer.{told_looked_is}
use Rattle.ptb.proofs.ptb_look_up.Goals as goal

pub returns : goal.returns
returns c =
    let a = c.args in
    ptb_look_up_told a.base a.level a.range (st a.words.now a.ledger.now) a.va a.answer.now
    c.handle_of-handle.ensures c.look_up-looked.ensures (c.tell.ensures ∙ told_looked_is c.look_up-looked.result a.answer.now)
