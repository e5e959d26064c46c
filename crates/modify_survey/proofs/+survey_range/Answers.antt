-- `survey_range`: each way through the code by its law.
use Rattle.std.proofs.Common.{◌≡◌, ◌+◌, ℕ, ◌-◌, ◌<◌, sym, ap, ◌∙◌, arith}
use mathlib.Core.Path.{subst⁻¹}
use Rattle.entry.specs.Sub.{sub_found}
use Rattle.region.specs.declared.MemoryRegion.{MemoryRegion}
use Rattle.region.specs.Region.{ChunkStep, step_of}
use Rattle.region.specs.Chunks.{step_fits}
use Rattle.region.specs.Each.{each_left, left_step, left_done, left_all}
use Rattle.pool.specs.State.{St, word_at}
use Rattle.pool.specs.Lent.{read_state}
use Rattle.pool.specs.declared.Handle.{Handle}
use Rattle.modify_entry.specs.Word.{chunk_edit}
use Rattle.modify_entry.specs.declared.Edit.{Edit}
use Rattle.modify_survey.specs.declared.Survey.{Survey}
use Rattle.modify_survey.specs.Survey.{survey_entry, survey_range, survey_step, survey_open, step-table, step-entry, step_outside}
use Rattle.modify_survey.specs.Room.{Room, Adds, same_adds, entry_adds, range_adds, room_chunk, room_after}
use Rattle.modify_survey.proofs.+survey_range.Goals as goal
use Rattle.modify_survey.proofs.+survey_range.Goals.{In-Some}

module _ {t : ℕ} (c : In-Some t) where
  -- the lent pool
  abbrev state : St
  state = read_state c.args.pool.now

  abbrev handle : Handle
  handle = c.args.pool.now.handle

  -- what is done with each chunk
  abbrev step : MemoryRegion → Survey → Survey
  step = survey_step handle state c.args.k c.args.level c.args.edit

  -- the chunk that is at hand
  taken : ChunkStep c.loop-chunk.chunk-iterator c.in-Some.chunk c.next.new.self
  taken = step_of _ _ c.in-Some.ensures.steps

  some : c.in-Some.chunk.start.0 < c.in-Some.chunk.end.0
  some = (step_fits taken).0

  room : Room c.in-Some.chunk c.loop-chunk.seen
  room = room_chunk taken.starts some (step_fits taken).1 c.loop-chunk.seen c.loop-chunk.invariant.0

  -- the invariant after the chunk, where the step and what it adds are known
  again : (x : Survey) → Adds c.in-Some.chunk c.loop-chunk.seen x → x ≡ step c.in-Some.chunk c.loop-chunk.seen
      → Room c.next.new.self.range x
      × (each_left step c.next.new.self x ≡ each_left step c.into_iter-chunk-iterator.result c.args.before)
  again x adds e = (
    rw taken.rest (room_after taken.starts some (step_fits taken).1 c.loop-chunk.seen c.loop-chunk.invariant.0 x adds),
    left_step step _ _ c.in-Some.ensures.steps c.loop-chunk.seen e ∙ c.loop-chunk.invariant.1,
  )

pub loop-chunk-preserved : goal.loop-chunk-preserved
loop-chunk-preserved t c =
    let a = c.args in
    let at = (goal.at.loop-chunk-preserved t c).In-Some in
    again at c.loop-chunk.seen (same_adds c.in-Some.chunk c.loop-chunk.seen)
    (step_outside (handle at) (state at) a.k a.level a.edit c.in-Some.chunk c.loop-chunk.seen c.entry_index-i.ensures c.subtable.ensures
    c.in-Outside.is)

pub survey_entry-seen-requires : goal.survey_entry-seen-requires
survey_entry-seen-requires t c =
    let at = (goal.at.survey_entry-seen-requires t c).In-Some in
    subst⁻¹ (λ (e : Edit). (e.region.start.0 < e.region.end.0) × Room e.region c.loop-chunk.seen) c.chunk_edit-part.ensures
    (some at, room at)

pub loop-chunk-preserved-in-Leaf : goal.loop-chunk-preserved-in-Leaf
loop-chunk-preserved-in-Leaf t c =
    let a = c.args in
    let at = (goal.at.loop-chunk-preserved-in-Leaf t c).In-Some in
    let s = state at in
    let v = c.loop-chunk.seen in
    let r = c.in-Some.chunk in
    let w = word_at s a.k c.entry_index-i.result in
    let done = c.survey_entry-seen.ensures ∙ ap (λ (e : Edit). survey_entry (handle at) a.level e w v) c.chunk_edit-part.ensures in
    let adds = subst⁻¹ (Adds r v) done (entry_adds (handle at) a.level (chunk_edit a.edit r) _ v (some at)) in
    again at _ adds
    (done ∙ step-entry (handle at) s a.k a.level a.edit r v c.entry_index-i.ensures c.subtable.ensures c.in-Leaf.is)

pub survey_range-seen-requires : goal.survey_range-seen-requires
survey_range-seen-requires t c =
    let at = (goal.at.survey_range-seen-requires t c).In-Some in
    let found = sub_found _ _ _ _ _ (sym c.subtable.ensures ∙ c.in-Table.is) in
    let fits = subst⁻¹ (λ (e : Edit). Room e.region c.loop-chunk.seen) c.chunk_edit-part.ensures (room at) in
    (omega (arith, found.high, c.decreases), (found.below, omega (arith, found.high), fits))

pub loop-chunk-preserved-in-Table : goal.loop-chunk-preserved-in-Table
loop-chunk-preserved-in-Table t c =
    let a = c.args in
    let at = (goal.at.loop-chunk-preserved-in-Table t c).In-Some in
    let s = state at in
    let v = c.loop-chunk.seen in
    let r = c.in-Some.chunk in
    let j = c.in-Table.j in
    let found = sub_found _ _ _ _ _ (sym c.subtable.ensures ∙ c.in-Table.is) in
    let below = survey_range (3 - (a.level + 1)) (handle at) s j in
    let done = c.survey_range-seen.ensures ∙ ap (λ (e : Edit). below e v) c.chunk_edit-part.ensures in
    let adds = subst⁻¹ (Adds r v) done (range_adds (3 - (a.level + 1)) (handle at) s j (chunk_edit a.edit r) v) in
    again at _ adds
    (done
    ∙ step-table (handle at) s a.k a.level a.edit r v c.entry_index-i.ensures c.subtable.ensures j c.in-Table.is found.high)

pub returns : goal.returns
returns t c =
    let a = c.args in
    let s = read_state a.pool.now in
    let f = survey_step a.pool.now.handle s a.k a.level a.edit in
    let whole = c.into_iter-chunk-iterator.ensures.into_iter_gives ∙ c.split-chunk-items.ensures in
    left_done f _ _ c.in-None.ensures.steps c.loop-chunk.seen ∙ c.loop-chunk.invariant.1 ∙ left_all f a.level a.edit.region whole a.before
    ∙ survey_open a.pool.now.handle s a.k a.level a.edit a.before c.requires.1
