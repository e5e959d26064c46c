-- `count_last`: each way through the code by its law.
use Rattle.std.proofs.Common.{ℕ, ◌<◌, refl, ◌∙◌, arith}
use mathlib.Core.Path.{subst⁻¹}
use Rattle.region.specs.Region.{ChunkStep, step_of, none_left}
use Rattle.pool.specs.Lent.{read_state}
use Rattle.map_rules.specs.declared.Map.{Map}
use Rattle.map_rules.specs.Rules.{chunk_map}
use Rattle.map_rules.specs.Fit.{Fit}
use Rattle.map_count.specs.Laws.{count_at, closed_open, count_fit, last_table, last_none, last_down}
use Rattle.map_count_leaf.proofs.Tags.{no_down}
use Rattle.map_count.proofs.Step.{step_chunk, step_fit, step_adds, step_skips, step_most, counted, ruled}
use Rattle.map_count.proofs.count_last.Goals as goal
use Rattle.map_count.proofs.count_last.Goals.{In-Some}

-- what one chunk counts
abbrev counts : In-Some → Map → ℕ
counts c = count_at c.args.pool.now.handle (read_state c.args.pool.now) c.args.k 2

-- the chunk's own map
abbrev chunk : In-Some → Map
chunk c = chunk_map c.args.map c.in-Some.region c.loop-region.frame.0

taken : (c : In-Some) → ChunkStep c.loop-region.region-iterator c.in-Some.region c.next.new.self
taken c = step_of _ _ c.in-Some.ensures.steps

fits : (c : In-Some) → Fit (chunk c)
fits c = step_fit 2 (counts c) c.args.map c.loop-region.count (taken c) c.loop-region.frame.0 c.loop-region.invariant

pub overflow_sub-frame : goal.overflow_sub-frame
overflow_sub-frame c =
    let at = (goal.at.overflow_sub-frame c).In-Some in
    let one = step_chunk 2 (counts at) c.args.map c.loop-region.count (taken at) c.loop-region.frame.0 c.loop-region.invariant in
    omega (arith, one.some)

pub overflow_add-frame : goal.overflow_add-frame
overflow_add-frame c = let f = (fits (goal.at.overflow_add-frame c).In-Some).room in omega (arith, f)

pub loop-region-preserved-in_default : goal.loop-region-preserved-in_default
loop-region-preserved-in_default c =
    let a = c.args in
    let at = (goal.at.loop-region-preserved-in_default c).In-Some in
    step_skips 2 (counts at) a.map c.loop-region.count (taken at) c.loop-region.frame.0 c.loop-region.invariant refl
    (last_table a.pool.now.handle (read_state a.pool.now) a.k (chunk at) c.entry_index-i.ensures c.subtable.ensures c.in_default.not-Leaf)

pub rule_of-requires : goal.rule_of-requires
rule_of-requires c =
    let at = (goal.at.rule_of-requires c).In-Some in
    let one = step_chunk 2 (counts at) c.args.map c.loop-region.count (taken at) c.loop-region.frame.0 c.loop-region.invariant in
    subst⁻¹ (λ (m : Map). Fit m × (m.region.start.0 < m.region.end.0)) c.chunk_of-chunk.ensures (fits at, one.some)

pub loop-region-preserved-in_default-rule_of : goal.loop-region-preserved-in_default-rule_of
loop-region-preserved-in_default-rule_of c =
    let a = c.args in
    let at = (goal.at.loop-region-preserved-in_default-rule_of c).In-Some in
    let none = no_down c.rule_of.result c.in_default-rule_of.not-Down in
    step_skips 2 (counts at) a.map c.loop-region.count (taken at) c.loop-region.frame.0 c.loop-region.invariant refl
    (last_none a.pool.now.handle (read_state a.pool.now) a.k (chunk at) c.entry_index-i.ensures c.subtable.ensures c.in-Leaf.is
    (ruled _ _ _ _ c.rule_of.ensures c.chunk_of-chunk.ensures) none)

pub overflow_add-count : goal.overflow_add-count
overflow_add-count c =
    let a = c.args in
    let at = (goal.at.overflow_add-count c).In-Some in
    let s = read_state a.pool.now in
    let one = last_down a.pool.now.handle s a.k (chunk at) c.entry_index-i.ensures c.subtable.ensures c.in-Leaf.is
    (ruled _ _ _ _ c.rule_of.ensures c.chunk_of-chunk.ensures) c.in-Down.is in
    let most = step_most 2 (counts at) a.map c.loop-region.count (taken at) c.loop-region.frame.0 c.loop-region.invariant
    refl one in
    omega (arith, most, count_fit a.pool.now.handle s a.k 2 a.map (omega arith), c.requires.1.some, c.requires.1.room)

pub loop-region-preserved : goal.loop-region-preserved
loop-region-preserved c =
    let a = c.args in
    let at = (goal.at.loop-region-preserved c).In-Some in
    step_adds 2 (counts at) a.map c.loop-region.count (taken at) c.loop-region.frame.0 c.loop-region.invariant refl
    (last_down a.pool.now.handle (read_state a.pool.now) a.k (chunk at) c.entry_index-i.ensures c.subtable.ensures c.in-Leaf.is
    (ruled _ _ _ _ c.rule_of.ensures c.chunk_of-chunk.ensures) c.in-Down.is)

pub returns : goal.returns
returns c =
    let a = c.args in
    let s = read_state a.pool.now in
    counted 2 (count_at a.pool.now.handle s a.k 2) a.map c.loop-region.count c.loop-region.region-iterator c.loop-region.frame.0
    c.loop-region.invariant (none_left _ _ c.in-None.ensures.steps).0
    ∙ closed_open a.pool.now.handle s a.k 2 a.map (omega arith)
