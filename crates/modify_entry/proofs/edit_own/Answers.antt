-- `edit_own`: each way through the code by its law.
use Rattle.std.proofs.Common.{◌∙◌}
use lib.ListN.{length-set}
use Rattle.region.specs.Each.{left_step, left_done, left_all}
use Rattle.modify_entry.specs.Own.{Noted, noted, own_chunk, own_same, own-changed, own_all}
use Rattle.modify_entry.proofs.edit_own.Goals as goal
use Rattle.modify_entry.proofs.edit_own.Goals.{In-Some}

-- the words and the list before a chunk
abbrev noted_at : In-Some → Noted
noted_at c = noted c.loop-chunk.words c.loop-chunk.list c.loop-chunk.count

pub loop-chunk-preserved-then-new-word : goal.loop-chunk-preserved-then-new-word
loop-chunk-preserved-then-new-word c =
    let a = c.args in
    let n = noted_at (goal.at.loop-chunk-preserved-then-new-word c).In-Some in
    let same = own_same a.k a.level a.edit c.in-Some.chunk n c.entry_index-i.ensures c.edit_word-new.ensures c.if-new-word.true in (
      c.loop-chunk.invariant.0,
      left_step (own_chunk a.k a.level a.edit) _ _ c.in-Some.ensures.steps n same ∙ c.loop-chunk.invariant.1,
    )

pub loop-chunk-preserved : goal.loop-chunk-preserved
loop-chunk-preserved c =
    let a = c.args in
    let n = noted_at (goal.at.loop-chunk-preserved c).In-Some in
    let put = own-changed a.k a.level a.edit c.in-Some.chunk n c.entry_index-i.ensures c.edit_word-new.ensures
    c.if-new-word.false c.tlbi_address-number.ensures c.put_number-count.ensures in (
      length-set n.words _ _ ∙ c.loop-chunk.invariant.0,
      left_step (own_chunk a.k a.level a.edit) _ _ c.in-Some.ensures.steps n put ∙ c.loop-chunk.invariant.1,
    )

pub returns : goal.returns
returns c =
    let a = c.args in
    let n = noted c.loop-chunk.words c.loop-chunk.list c.loop-chunk.count in
    let f = own_chunk a.k a.level a.edit in
    let start = noted a.words.now a.list.now a.before in
    let whole = c.into_iter-chunk-iterator.ensures.into_iter_gives ∙ c.split-chunk-items.ensures in
    left_done f c.loop-chunk.chunk-iterator c.next.new.self c.in-None.ensures.steps n ∙ c.loop-chunk.invariant.1
    ∙ left_all f a.level a.edit.region whole start ∙ own_all a.k a.level a.edit start
