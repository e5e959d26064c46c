-- `count_splits`: each way through the code by its law.
use Rattle.std.proofs.Common.{ℕ, ◌+◌, ◌*◌, ◌-◌, ◌^◌, ◌≤◌, sym, ◌∙◌, arith}
use Rattle.region.specs.Region.{step_of}
use Rattle.region.specs.Chunks.{step_fits}
use Rattle.region.specs.Each.{left_step, left_done, left_all}
use Rattle.modify_survey.specs.Survey.{adding, adding_is, splits_in, splits_page, splits-whole, splits_part}
use Rattle.modify_survey.specs.Room.{splits_most}
use Rattle.modify_survey.proofs.+count_splits.Goals as goal
use Rattle.modify_survey.proofs.+count_splits.Goals.{In-Some}

-- what holds of a chunk
record Facts {t : ℕ} (c : In-Some t) : Type 0 where
  span : c.in-Some.chunk.end.0 - c.in-Some.chunk.start.0 ≤ 2 ^ 48
  most : splits_in (3 - (c.args.level + 1)) c.in-Some.chunk ≤ (c.in-Some.chunk.end.0 - c.in-Some.chunk.start.0) * 3
  room : c.loop-chunk.count + (c.in-Some.chunk.end.0 - c.in-Some.chunk.start.0) * 3
      + (c.next.new.self.range.end.0 - c.next.new.self.range.start.0) * 3 ≤ 1 + 2 ^ 48 * 3
  after : c.next.new.self.range.end.0 - c.next.new.self.range.start.0 ≤ 2 ^ 48

facts : {t : ℕ} (c : In-Some t) → Facts c
facts c =
    let step = step_of _ _ c.in-Some.ensures.steps in
    let fits = step_fits step in
    record {
      span = omega (arith, step.starts, fits.0, fits.1, c.loop-chunk.invariant.0);
      most = splits_most (c.args.level + 1) c.in-Some.chunk fits.0;
      room = rw step.rest (omega (arith, step.starts, fits.0, fits.1, c.loop-chunk.invariant.1));
      after = rw step.rest (omega (arith, step.starts, fits.0, fits.1, c.loop-chunk.invariant.0));
    }

pub returns-then-level-ge-LEAF_LEVEL : goal.returns-then-level-ge-LEAF_LEVEL
returns-then-level-ge-LEAF_LEVEL t c = let a = c.args in splits_page a.level a.region c.if-level-ge-LEAF_LEVEL.true

pub returns-then-is_block : goal.returns-then-is_block
returns-then-is_block t c =
    let a = c.args in
    splits-whole a.level a.region (omega arith) (sym c.is_block.ensures ∙ c.if-is_block.true)

pub count_splits-count-requires : goal.count_splits-count-requires
count_splits-count-requires t c =
    let f = facts (goal.at.count_splits-count-requires t c).In-Some in
    (omega (arith, c.if-level-ge-LEAF_LEVEL.false, c.decreases), f.span)

pub overflow_add-count : goal.overflow_add-count
overflow_add-count t c =
    let f = facts (goal.at.overflow_add-count t c).In-Some in
    omega (arith, c.count_splits-count.ensures, f.most, f.room)

pub loop-chunk-preserved : goal.loop-chunk-preserved
loop-chunk-preserved t c =
    let f = facts (goal.at.loop-chunk-preserved t c).In-Some in
    let splits = splits_in (3 - (c.args.level + 1)) in
    let step = adding_is splits c.in-Some.chunk c.loop-chunk.count c.count_splits-count.ensures in (
      f.after,
      omega (arith, c.count_splits-count.ensures, f.most, f.room),
      left_step (adding splits) _ _ c.in-Some.ensures.steps c.loop-chunk.count step ∙ c.loop-chunk.invariant.2,
    )

pub returns : goal.returns
returns t c =
    let a = c.args in
    let f = adding (splits_in (3 - (a.level + 1))) in
    let whole = c.into_iter-chunk-iterator.ensures.into_iter_gives ∙ c.split-chunk-items.ensures in
    left_done f _ _ c.in-None.ensures.steps c.loop-chunk.count ∙ c.loop-chunk.invariant.2 ∙ left_all f (a.level + 1) a.region whole 1
    ∙ splits_part a.level a.region (omega arith) (sym c.is_block.ensures ∙ c.if-is_block.false)
