-- `count_new`: each way through the code by its law.
use Rattle.std.proofs.Common.{◌≡◌, ℕ, ◌+◌, ◌-◌, ◌^◌, ◌<◌, refl, sym, ap, ◌∙◌, arith}
use mathlib.Core.Path.{subst⁻¹}
use Rattle.entry.specs.Sub.{sub-below}
use Rattle.region.specs.Region.{ChunkStep, step_of, none_left}
use Rattle.pool.specs.Lent.{read_state}
use Rattle.pool.specs.State.{St}
use Rattle.pool.specs.declared.Handle.{Handle}
use Rattle.map_rules.specs.declared.Map.{Map}
use Rattle.map_rules.specs.Rules.{chunk_map}
use Rattle.map_rules.specs.Fit.{Fit}
use Rattle.map_count_spec.specs.Closed.{closed}
use Rattle.map_count_spec.specs.Count.{Chunk}
use Rattle.map_count.specs.Laws.{count_at, closed_done, closed_open, count_fit, entry_outside, entry_leaf, entry_none, entry-table}
use Rattle.map_count_leaf.proofs.Tags.{no_down}
use Rattle.map_count.proofs.Step.{Counting, step_chunk, step_fit, step_adds, step_skips, step_most, counted, ruled}
use Rattle.map_count.proofs.+count_new.Goals as goal
use Rattle.map_count.proofs.+count_new.Goals.{In-Some}

-- what a table below answers, asked of the chunk's map
lower : (levels : ℕ) (h : Handle) (s : St) (j : ℕ) (m n : Map) {x : ℕ} → x ≡ closed levels h s j m → m ≡ n → x ≡ closed levels h s j n
lower levels h s j m n e q = e ∙ ap (closed levels h s j) q

module _ {t : ℕ} (c : In-Some t) where
  -- what one chunk counts
  abbrev counts : Map → ℕ
  counts = count_at c.args.pool.now.handle (read_state c.args.pool.now) c.args.k c.args.level

  -- the chunk's own map
  abbrev chunk : Map
  chunk = chunk_map c.args.map c.in-Some.region c.loop-region.frame.0

  -- how far the frame rises
  abbrev bytes : ℕ
  bytes = c.in-Some.region.end.0 - c.in-Some.region.start.0

  taken : ChunkStep c.loop-region.region-iterator c.in-Some.region c.next.new.self
  taken = step_of _ _ c.in-Some.ensures.steps

  one : Chunk c.args.level chunk
  one = step_chunk c.args.level counts c.args.map c.loop-region.count taken c.loop-region.frame.0 c.loop-region.invariant

  fits : Fit chunk
  fits = step_fit c.args.level counts c.args.map c.loop-region.count taken c.loop-region.frame.0 c.loop-region.invariant

  skips : counts chunk ≡ 0
      → Counting c.args.level counts c.args.map c.loop-region.count c.next.new.self (c.loop-region.frame.0 + bytes)
  skips = step_skips c.args.level counts c.args.map c.loop-region.count taken c.loop-region.frame.0 c.loop-region.invariant refl

  adds : (x : ℕ) → counts chunk ≡ x
      → Counting c.args.level counts c.args.map (c.loop-region.count + x) c.next.new.self (c.loop-region.frame.0 + bytes)
  adds x =
      step_adds c.args.level counts c.args.map c.loop-region.count taken c.loop-region.frame.0 c.loop-region.invariant refl

  small : (x : ℕ) → counts chunk ≡ x → c.loop-region.count + x < 2 ^ 64
  small x e =
      let a = c.args in
      let p = c.requires.2 in
      let most = step_most a.level counts a.map c.loop-region.count taken c.loop-region.frame.0 c.loop-region.invariant refl e in
      omega (arith, most, count_fit a.pool.now.handle (read_state a.pool.now) a.k a.level a.map (omega arith), p.some, p.room)

pub returns-then-level-ge-LEAF_LEVEL : goal.returns-then-level-ge-LEAF_LEVEL
returns-then-level-ge-LEAF_LEVEL t c =
    let a = c.args in
    closed_done a.pool.now.handle (read_state a.pool.now) a.k a.level a.map (omega arith)

pub overflow_sub-frame : goal.overflow_sub-frame
overflow_sub-frame t c = let at = (goal.at.overflow_sub-frame t c).In-Some in omega (arith, (one at).some)

pub overflow_add-frame : goal.overflow_add-frame
overflow_add-frame t c =
    let step = step_of _ _ c.in-Some.ensures.steps in
    let f = (step_fit _ _ _ _ step _ c.loop-region.invariant).room in
    omega (arith, f)

pub loop-region-preserved : goal.loop-region-preserved
loop-region-preserved t c =
    let a = c.args in
    let at = (goal.at.loop-region-preserved t c).In-Some in
    skips at
    (entry_outside a.pool.now.handle (read_state a.pool.now) a.k a.level (chunk at) c.entry_index-i.ensures c.subtable.ensures
    c.in-Outside.is)

pub count_entry-count-requires : goal.count_entry-count-requires
count_entry-count-requires t c =
    let at = (goal.at.count_entry-count-requires t c).In-Some in (fits at, one at, omega arith)

pub overflow_add-count-in-Leaf : goal.overflow_add-count-in-Leaf
overflow_add-count-in-Leaf t c =
    let a = c.args in
    let at = (goal.at.overflow_add-count-in-Leaf t c).In-Some in
    let here = entry_leaf a.pool.now.handle (read_state a.pool.now) a.k a.level (chunk at) c.entry_index-i.ensures c.subtable.ensures
    c.in-Leaf.is (omega arith) in
    omega (arith, small at c.count_entry-count.result (here ∙ sym c.count_entry-count.ensures))

pub loop-region-preserved-in-Leaf : goal.loop-region-preserved-in-Leaf
loop-region-preserved-in-Leaf t c =
    let a = c.args in
    let at = (goal.at.loop-region-preserved-in-Leaf t c).In-Some in
    adds at c.count_entry-count.result
    (entry_leaf a.pool.now.handle (read_state a.pool.now) a.k a.level (chunk at) c.entry_index-i.ensures c.subtable.ensures c.in-Leaf.is
    (omega arith) ∙ sym c.count_entry-count.ensures)

pub rule_of-requires : goal.rule_of-requires
rule_of-requires t c =
    let at = (goal.at.rule_of-requires t c).In-Some in
    subst⁻¹ (λ (m : Map). Fit m × (m.region.start.0 < m.region.end.0)) c.chunk_of-chunk.ensures (fits at, (one at).some)

pub loop-region-preserved-in_default : goal.loop-region-preserved-in_default
loop-region-preserved-in_default t c =
    let a = c.args in
    let at = (goal.at.loop-region-preserved-in_default t c).In-Some in
    let none = no_down c.rule_of.result c.in_default.not-Down in
    skips at
    (entry_none a.pool.now.handle (read_state a.pool.now) a.k a.level (chunk at) c.entry_index-i.ensures c.subtable.ensures
    (ruled _ _ _ _ c.rule_of.ensures c.chunk_of-chunk.ensures) none)

pub count_new-count-requires : goal.count_new-count-requires
count_new-count-requires t c =
    let at = (goal.at.count_new-count-requires t c).In-Some in
    let inside = sub-below c.args.pool.now.handle.base.0 _ c.args.level _ _ (sym c.subtable.ensures ∙ c.in-Table.is) in
    (omega arith, (inside, omega arith, subst⁻¹ Fit c.chunk_of-chunk.ensures (fits at)))

pub overflow_add-count : goal.overflow_add-count
overflow_add-count t c =
    let a = c.args in
    let at = (goal.at.overflow_add-count t c).In-Some in
    let here = entry-table a.pool.now.handle (read_state a.pool.now) a.k a.level (chunk at) c.entry_index-i.ensures c.subtable.ensures
    (ruled _ _ _ _ c.rule_of.ensures c.chunk_of-chunk.ensures) _ c.in-Table.is c.in-Down.is in
    omega (arith, small at c.count_new-count.result (here ∙ sym (lower _ _ _ _ _ _ c.count_new-count.ensures c.chunk_of-chunk.ensures)))

pub loop-region-preserved-in-Table : goal.loop-region-preserved-in-Table
loop-region-preserved-in-Table t c =
    let a = c.args in
    let at = (goal.at.loop-region-preserved-in-Table t c).In-Some in
    adds at c.count_new-count.result
    (entry-table a.pool.now.handle (read_state a.pool.now) a.k a.level (chunk at) c.entry_index-i.ensures c.subtable.ensures
    (ruled _ _ _ _ c.rule_of.ensures c.chunk_of-chunk.ensures) _ c.in-Table.is c.in-Down.is
    ∙ sym (lower _ _ _ _ _ _ c.count_new-count.ensures c.chunk_of-chunk.ensures))

pub returns : goal.returns
returns t c =
    let a = c.args in
    let s = read_state a.pool.now in
    counted a.level (count_at a.pool.now.handle s a.k a.level) a.map c.loop-region.count c.loop-region.region-iterator c.loop-region.frame.0
    c.loop-region.invariant (none_left _ _ c.in-None.ensures.steps).0
    ∙ closed_open a.pool.now.handle s a.k a.level a.map (omega arith)
