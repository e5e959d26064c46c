-- `map_range`: each way through the code by its law.
use Rattle.std.proofs.Common.{◌≡◌, ℕ, ◌+◌, ◌-◌, ◌<◌, sym, ap, ap₂, ◌∙◌, length, arith}
use mathlib.Core.Path.{subst⁻¹}
use Rattle.address_slot.specs.Slot.{entry_index}
use Rattle.region.specs.Region.{step_of, none_left}
use Rattle.region.specs.Chunks.{step_fits}
use Rattle.region.specs.declared.ChunkedIterator.{ChunkedIterator}
use Rattle.pool.specs.State.{St}
use Rattle.pool.specs.Lent.{lent, KeepsLent, keeps_on, shaped_kept}
use Rattle.pool.specs.Refuse.{Shaped}
use Rattle.pool.specs.declared.Handle.{Handle}
use Rattle.pool.specs.declared.lent.PoolMut.{PoolMut}
use Rattle.map_rules.specs.declared.Map.{Map}
use Rattle.map_rules.specs.Rules.{chunk_map}
use Rattle.map_rules.specs.Fit.{Fit}
use Rattle.map_rules.specs.Laws.{drop_high, down_high}
use Rattle.map_put.specs.Put.{each_map_chunk, map_range}
use Rattle.map_put.specs.Laws.{below_kept, below-nothing}
use Rattle.map_put.specs.Range.{map_step, map_open, map_each_done, chunk_here, chunk_none, chunk-into}
use Rattle.map_split.specs.Split.{below_inside}
use Rattle.map_range.proofs.Chunk.{chunk_fits, rest_fits, each_next}
use Rattle.map_range.proofs.+map_range.Goals.{After-chunk_of-chunk, In-Down}
use Rattle.map_range.proofs.+map_range.Goals as goal

-- the map of what is left after a chunk
abbrev left_of : (t : ℕ) → After-chunk_of-chunk t → Map
left_of t c = chunk_map c.args.map c.next.new.self.range (c.loop-region.frame.0 + (c.in-Some.region.end.0 - c.in-Some.region.start.0))

-- a chunk and what is left, once its slot and its map are known
record Facts (t : ℕ) (c : After-chunk_of-chunk t) : Type 0 where
  level : c.next.new.self.level ≡ c.args.level
  left : Fit (left_of t c)
  forwards : c.in-Some.region.start.0 < c.in-Some.region.end.0
  inside : c.args.k < length c.loop-region.pool.ledger.now
  slot : c.entry_index-i.result < 512
  index : c.entry_index-i.result ≡ entry_index c.args.level c.chunk_of-chunk.result.region.start.0
  shape : Shaped c.loop-region.pool.handle (lent c.loop-region.pool)
  fit : Fit c.chunk_of-chunk.result
  some : c.chunk_of-chunk.result.region.start.0 < c.chunk_of-chunk.result.region.end.0
  next : let a = c.args in let q = c.loop-region.pool in let f = map_step q.handle a.k a.level in
      each_map_chunk a.level f (left_of t c) (f c.chunk_of-chunk.result (lent q))
      ≡ each_map_chunk a.level (map_step a.pool.now.handle a.k a.level) a.map (lent a.pool.now)

facts : (t : ℕ) (c : After-chunk_of-chunk t) → Facts t c
unfolding entry_index
facts t c =
    let a = c.args in
    let at = c.loop-region in
    let inv = at.invariant in
    let frame = at.frame.0 in
    let s = lent at.pool in
    let f = map_step at.pool.handle a.k a.level in
    let step = step_of at.region-iterator c.next.new.self c.in-Some.ensures.steps in
    let chunk = c.chunk_of-chunk.ensures in
    record {
      level = ap (λ (d : ChunkedIterator). d.level) step.rest ∙ inv.level;
      left = rest_fits a.map frame inv.fit step;
      forwards = (step_fits step).0;
      inside = omega (arith, c.requires.1, inv.keeps.tables);
      slot = omega (arith, c.entry_index-i.ensures);
      index = c.entry_index-i.ensures ∙ ap (λ (m : Map). entry_index a.level m.region.start.0) (sym chunk);
      shape = shaped_kept a.pool.now at.pool c.requires.0 inv.keeps;
      fit = subst⁻¹ Fit chunk (chunk_fits a.map frame inv.fit step);
      some = subst⁻¹ (λ (m : Map). m.region.start.0 < m.region.end.0) chunk (step_fits step).0;
      next =
          ap (λ (m : Map). each_map_chunk a.level f (left_of t c) (f m s)) chunk
          ∙ each_next a.map frame inv.fit step a.level f s inv.level
          ∙ inv.same;
    }

-- what is left to do after the chunk, where the step is known
onwards : (t : ℕ) (c : After-chunk_of-chunk t) {p : PoolMut} → let a = c.args in let q = c.loop-region.pool in KeepsLent q p
    → lent p ≡ map_step q.handle a.k a.level c.chunk_of-chunk.result (lent q)
    → each_map_chunk a.level (map_step p.handle a.k a.level) (left_of t c) (lent p)
    ≡ each_map_chunk a.level (map_step a.pool.now.handle a.k a.level) a.map (lent a.pool.now)
onwards t c keeps e =
    let a = c.args in
    ap₂ (λ (h : Handle) (s : St). each_map_chunk a.level (map_step h a.k a.level) (left_of t c) s) keeps.handle e ∙ (facts t c).next

-- where the rule leads down there is a level below
high : (t : ℕ) (c : In-Down t) → c.args.level < 3
high t c = down_high c.args.level c.chunk_of-chunk.result _ c.rule_of-rule.ensures c.in-Down.is

pub overflow_sub-frame : goal.overflow_sub-frame
overflow_sub-frame t c = omega (arith, (facts t (goal.at.overflow_sub-frame t c).After-chunk_of-chunk).forwards)

pub overflow_add-frame : goal.overflow_add-frame
overflow_add-frame t c =
    let f = facts t (goal.at.overflow_add-frame t c).After-chunk_of-chunk in
    omega (arith, f.left.room)

pub overflow_add-word : goal.overflow_add-word
overflow_add-word t c =
    let f = facts t (goal.at.overflow_add-word t c).After-chunk_of-chunk in
    omega (arith, f.slot, f.shape.sized, f.inside)

pub offset_bounds-pool-k : goal.offset_bounds-pool-k
offset_bounds-pool-k t c =
    let f = facts t (goal.at.offset_bounds-pool-k t c).After-chunk_of-chunk in
    omega (arith, f.slot, f.shape.sized, f.inside)

pub bounds-pool-k : goal.bounds-pool-k
bounds-pool-k t c =
    let f = facts t (goal.at.bounds-pool-k t c).After-chunk_of-chunk in
    omega (arith, f.slot, f.shape.sized, f.inside)

pub rule_of-rule-requires : goal.rule_of-rule-requires
rule_of-rule-requires t c =
    let f = facts t (goal.at.rule_of-rule-requires t c).After-chunk_of-chunk in
    (f.fit, f.some)

pub put_entry-changed-requires : goal.put_entry-changed-requires
put_entry-changed-requires t c =
    let f = facts t (goal.at.put_entry-changed-requires t c).After-chunk_of-chunk in (
      f.shape,
      f.inside,
      f.slot,
      record { here = c.in_default.not-Down; high = drop_high c.args.level c.chunk_of-chunk.result _ c.rule_of-rule.ensures },
    )

pub loop-region-preserved-in_default : goal.loop-region-preserved-in_default
loop-region-preserved-in_default t c =
    let place = (goal.at.loop-region-preserved-in_default t c).After-chunk_of-chunk in
    let a = c.args in
    let q = c.loop-region.pool in
    let inv = c.loop-region.invariant in
    let f = facts t place in
    let put = c.put_entry-changed in
    let step = chunk_here q.handle a.k a.level c.chunk_of-chunk.result (lent q) f.index c.rule_of-rule.ensures c.in_default.not-Down in
    record {
      keeps = keeps_on a.pool.now q put.new.pool inv.keeps put.ensures.keeps;
      level = f.level;
      fit = f.left;
      same = onwards t place put.ensures.keeps (put.ensures.leaves.0 ∙ step);
      kept = λ e. let r = put.ensures.leaves.1 e in r.1 ∙ inv.kept r.0;
    }

pub descend-under-requires : goal.descend-under-requires
descend-under-requires t c =
    let f = facts t (goal.at.descend-under-requires t c).After-chunk_of-chunk in
    (f.shape, high t (goal.at.descend-under-requires t c).In-Down, f.inside, f.slot)

pub loop-region-preserved-in_default-under : goal.loop-region-preserved-in_default-under
loop-region-preserved-in_default-under t c =
    let place = (goal.at.loop-region-preserved-in_default-under t c).After-chunk_of-chunk in
    let a = c.args in
    let q = c.loop-region.pool in
    let inv = c.loop-region.invariant in
    let f = facts t place in
    let under = c.descend-under in
    let none = c.in_default-under.is in
    let same = below-nothing q.handle a.k a.level c.entry_index-i.result (lent q) under.ensures.leaves none in
    record {
      keeps = keeps_on a.pool.now q under.new.pool inv.keeps under.ensures.keeps;
      level = f.level;
      fit = f.left;
      same = onwards t place under.ensures.keeps
          (chunk_none q.handle a.k a.level c.chunk_of-chunk.result (lent q) f.index c.rule_of-rule.ensures c.in-Down.is
          under.ensures.leaves none);
      kept = λ e. ap (λ (x : St). x.ledger) same ∙ inv.kept e;
    }

pub map_range-below-requires : goal.map_range-below-requires
map_range-below-requires t c =
    let f = facts t (goal.at.map_range-below-requires t c).After-chunk_of-chunk in
    let low = high t (goal.at.map_range-below-requires t c).In-Down in
    let a = c.args in
    let q = c.loop-region.pool in
    let under = c.descend-under in
    let deep = lent under.new.pool in
    let found = below_inside q.handle a.k a.level c.entry_index-i.result (lent q) _ {t = deep} under.ensures.leaves c.in-Some-under.is in
    let shape = shaped_kept q under.new.pool f.shape under.ensures.keeps in
    let tables = under.ensures.keeps.tables in
    (omega (arith, low), (shape, omega (arith, found, tables), omega (arith, low), f.fit))

pub loop-region-preserved : goal.loop-region-preserved
loop-region-preserved t c =
    let place = (goal.at.loop-region-preserved t c).After-chunk_of-chunk in
    let low = high t (goal.at.loop-region-preserved t c).In-Down in
    let a = c.args in
    let q = c.loop-region.pool in
    let inv = c.loop-region.invariant in
    let f = facts t place in
    let s = lent q in
    let under = c.descend-under in
    let lower = c.map_range-below in
    let found = under.ensures.leaves in
    let rule = c.rule_of-rule.ensures in
    let keeps = keeps_on q under.new.pool lower.new.pool under.ensures.keeps lower.ensures.keeps in
    let deeper =
    ap (λ (h : Handle). map_range (3 - (a.level + 1)) h c.in-Some-under.j c.chunk_of-chunk.result (lent under.new.pool))
    under.ensures.keeps.handle
    in
    let step = chunk-into q.handle a.k a.level c.chunk_of-chunk.result s f.index rule c.in-Down.is found _ c.in-Some-under.is low in
    let kept = below_kept q.handle a.k a.level c.entry_index-i.result s found low in
    record {
      keeps = keeps_on a.pool.now q lower.new.pool inv.keeps keeps;
      level = f.level;
      fit = f.left;
      same = onwards t place keeps (lower.ensures.leaves.0 ∙ deeper ∙ step);
      kept = λ e. let r = c.ledger_changed-changed.ensures e in
          lower.ensures.leaves.1 r.2 ∙ ap (λ (x : St). x.ledger) (kept r.1) ∙ inv.kept r.0;
    }

pub returns-clause-leaves : goal.returns-clause-leaves
returns-clause-leaves t c =
    let a = c.args in
    let at = c.loop-region in
    let left = at.region-iterator.range in
    let f = map_step at.pool.handle a.k a.level in
    let none = none_left at.region-iterator c.next.new.self c.in-None.ensures.steps in (
      sym (map_each_done a.level f a.map left.start.0 left.end.0 at.frame.0 (lent at.pool) none.0)
          ∙ at.invariant.same
          ∙ map_open a.pool.now.handle a.k a.level a.map (lent a.pool.now) c.requires.2,
      at.invariant.kept,
    )
