-- `modify_range`: each way through the code by its law.
use Rattle.std.proofs.Common.{◌≡◌, ℕ, ◌+◌, ◌-◌, sym, ap, ◌∙◌, arith}
use Rattle.region.specs.Each.{left_step, left_done, left_all}
use Rattle.pool.specs.Lent.{lent, keeps_on, shaped_kept}
use Rattle.pool.specs.declared.Handle.{Handle}
use Rattle.pool_table.specs.Table.{taken}
use Rattle.map_split.specs.Split.{below, below_inside}
use Rattle.modify_entry.specs.declared.Edit.{Edit}
use Rattle.modify_range.specs.Range.{Work, work, own_work, modify_range, down_step, own_done, modify_pages_lem, modify_open, step-own}
use Rattle.modify_range.specs.Range.{step_none, step-into}
use Rattle.modify_range.proofs.+modify_range.Goals as goal
use Rattle.modify_range.proofs.+modify_range.Goals.{In-Some, After-descend}

-- the pool and the list before a chunk
abbrev work_at : {t : ℕ} → In-Some t → Work
work_at c = work (lent c.loop-chunk.pool) c.loop-chunk.list c.loop-chunk.count

-- what `descend` answers, under the handle of the call
went : {t : ℕ} (c : After-descend t)
    → taken c.descend.result (lent c.descend.new.pool)
    ≡ below c.args.pool.now.handle c.args.k c.args.level c.entry_index-i.result (lent c.loop-chunk.pool)
went c =
    c.descend.ensures.leaves
    ∙ ap (λ (h : Handle). below h c.args.k c.args.level c.entry_index-i.result (lent c.loop-chunk.pool)) c.loop-chunk.invariant.0.handle

pub returns-then-level-ge-LEAF_LEVEL-clause-leaves : goal.returns-then-level-ge-LEAF_LEVEL-clause-leaves
returns-then-level-ge-LEAF_LEVEL-clause-leaves t c =
    let a = c.args in
    let w = work (lent a.pool.now) a.list.now a.before in
    own_done a.k a.level a.edit w c.edit_own.ensures
    ∙ modify_pages_lem a.pool.now.handle a.k a.level a.edit w c.requires.2 c.if-level-ge-LEAF_LEVEL.true

pub loop-chunk-preserved-then-is_own : goal.loop-chunk-preserved-then-is_own
loop-chunk-preserved-then-is_own t c =
    let a = c.args in
    let h = a.pool.now.handle in
    let w = work_at (goal.at.loop-chunk-preserved-then-is_own t c).In-Some in
    let own = sym c.is_own.ensures ∙ c.if-is_own.true in
    let step = step-own h a.k a.level a.edit c.in-Some.chunk w c.entry_index-i.ensures own in
    let inv = c.loop-chunk.invariant in
    (inv.0, left_step (down_step h a.k a.level a.edit) _ _ c.in-Some.ensures.steps w step ∙ inv.1)

pub loop-chunk-preserved-in_default : goal.loop-chunk-preserved-in_default
loop-chunk-preserved-in_default t c =
    let a = c.args in
    let h = a.pool.now.handle in
    let at = goal.at.loop-chunk-preserved-in_default t c in
    let w = work_at at.In-Some in
    let not_own = sym c.is_own.ensures ∙ c.if-is_own.false in
    let step = step_none h a.k a.level a.edit c.in-Some.chunk w c.entry_index-i.ensures not_own (went at.After-descend) c.in_default.is in
    let inv = c.loop-chunk.invariant in (
      keeps_on a.pool.now c.loop-chunk.pool c.descend.new.pool inv.0 c.descend.ensures.keeps,
      left_step (down_step h a.k a.level a.edit) _ _ c.in-Some.ensures.steps w step ∙ inv.1,
    )

pub modify_range-count-requires : goal.modify_range-count-requires
modify_range-count-requires t c =
    let a = c.args in
    let at = goal.at.modify_range-count-requires t c in
    let keeps = keeps_on a.pool.now c.loop-chunk.pool c.descend.new.pool c.loop-chunk.invariant.0 c.descend.ensures.keeps in
    let found = below_inside a.pool.now.handle a.k a.level c.entry_index-i.result (lent c.loop-chunk.pool) _ (went at.After-descend)
    c.in-Some-descend.is in (
      omega (arith, c.if-level-ge-LEAF_LEVEL.false, c.decreases),
      (
        shaped_kept a.pool.now c.descend.new.pool c.requires.0 keeps,
        omega (arith, found, c.descend.ensures.keeps.tables),
        omega (arith, c.if-level-ge-LEAF_LEVEL.false),
      ),
    )

pub loop-chunk-preserved : goal.loop-chunk-preserved
loop-chunk-preserved t c =
    let a = c.args in
    let h = a.pool.now.handle in
    let at = goal.at.loop-chunk-preserved t c in
    let under = c.descend.new.pool in
    let rec = c.modify_range-count in
    let inv = c.loop-chunk.invariant in
    let keeps = keeps_on a.pool.now c.loop-chunk.pool under inv.0 c.descend.ensures.keeps in
    let j = c.in-Some-descend.j in
    let pooled = work (lent under) c.loop-chunk.list c.loop-chunk.count in
    let handle = ap (λ (x : Handle). modify_range (3 - (a.level + 1)) x j c.chunk_edit-part.result pooled) keeps.handle in
    let part = ap (λ (e : Edit). modify_range (3 - (a.level + 1)) h j e pooled) c.chunk_edit-part.ensures in
    let not_own = sym c.is_own.ensures ∙ c.if-is_own.false in
    let into = step-into h a.k a.level a.edit c.in-Some.chunk (work_at at.In-Some) c.entry_index-i.ensures not_own (went at.After-descend) j
    c.in-Some-descend.is in (
      keeps_on a.pool.now under rec.new.pool keeps rec.ensures.keeps,
      left_step (down_step h a.k a.level a.edit) _ _ c.in-Some.ensures.steps (work_at at.In-Some)
          (rec.ensures.leaves ∙ handle ∙ part ∙ into) ∙ inv.1,
    )

pub returns-clause-leaves : goal.returns-clause-leaves
returns-clause-leaves t c =
    let a = c.args in
    let h = a.pool.now.handle in
    let f = down_step h a.k a.level a.edit in
    let w = work (lent c.loop-chunk.pool) c.loop-chunk.list c.loop-chunk.count in
    let start = work (lent a.pool.now) a.list.now a.before in
    let whole = c.into_iter-chunk-iterator.ensures.into_iter_gives ∙ c.split-chunk-items.ensures in
    own_done a.k a.level a.edit w c.edit_own-2.ensures
    ∙ ap (own_work a.k a.level a.edit)
    (left_done f _ _ c.in-None.ensures.steps w ∙ c.loop-chunk.invariant.1 ∙ left_all f a.level a.edit.region whole start)
    ∙ modify_open h a.k a.level a.edit start (omega arith)
