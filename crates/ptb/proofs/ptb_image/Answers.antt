-- `ptb_image`: the call told outside.
use Rattle.pool.specs.State.{st}
use Rattle.ptb_spec.specs.Calls.{ptb_image_told}
use Rattle.ptb_answer.specs.Answer.{told}
use Rattle.ptb.proofs.ptb_image.Goals as goal

pub returns : goal.returns
unfolding told
returns c =
    let a = c.args in
    ptb_image_told a.base a.level a.range (st a.words.now a.ledger.now) a.table a.page.now a.answer.now
    c.handle_of-handle.ensures c.page_image-outcome.ensures c.tell.ensures
