-- `count_leaf`: each way through the code by its law.
use Rattle.std.proofs.Common.{◌≡◌, ℕ, ◌+◌, ◌*◌, ◌-◌, ◌^◌, ◌≤◌, ◌<◌, ap, ap₂, ◌∙◌, arith}
use mathlib.Core.Path.{subst⁻¹}
use Rattle.address_slot.specs.Slot.{chunk_end}
use Rattle.region.specs.Region.{region}
use Rattle.region.specs.Chunks.{chunk-fits}
use Rattle.map_rules.specs.declared.Map.{Map}
use Rattle.map_rules.specs.Rules.{chunk_map}
use Rattle.map_rules.specs.Fit.{Fit}
use Rattle.map_rules.specs.Laws.{down_high}
use Rattle.map_count_spec.specs.Closed.{rests, closed_leaf}
use Rattle.map_count_spec.specs.Ends.{leaf_none, leaf_low, leaf_down, leaf_fit, rests_fit, first_fit, length-fits}
use Rattle.map_count_leaf.proofs.Tags.{no_down}
use Rattle.map_count_leaf.proofs.+count_leaf.Goals as goal

-- the first chunk below, and what remains
abbrev first_of : Map → ℕ → Map
first_of m stop = chunk_map m (region m.region.start.0 stop) m.frame.0

abbrev rest_of : Map → ℕ → Map
rest_of m stop = chunk_map m (region stop m.region.end.0) (m.frame.0 + (stop - m.region.start.0))

-- where the first chunk below ends, and that its map fits
record Facts (m : Map) (stop : ℕ) : Type 0 where
  above : m.region.start.0 < stop
  under : stop ≤ m.region.end.0
  fit : Fit (first_of m stop)
  length : m.region.end.0 - m.region.start.0 ≤ 2 ^ 48

facts : (level : ℕ) (m : Map) (stop : ℕ) → Fit m × (m.region.start.0 < m.region.end.0)
    → stop ≡ chunk_end (level + 1) m.region.start.0 m.region.end.0 → Facts m stop
facts level m stop p e =
    let cut = chunk-fits (level + 1) m.region.start.0 m.region.end.0 p.1 in
    record {
      above = omega (arith, cut.0);
      under = omega (arith, cut.1);
      fit = subst⁻¹ (λ (x : ℕ). Fit (first_of m x)) e (first_fit (level + 1) m p.0 p.1);
      length = length-fits (level + 1) m p.0 p.1;
    }

-- what the calls one level down answer fits
deeper_fits : (level : ℕ) (m : Map) (stop part n : ℕ) → Facts m stop → n ≡ closed_leaf (3 - (level + 1)) (first_of m stop) part
    → n ≤ 3 * 2 ^ 48
deeper_fits level m stop part n f e =
    omega (arith, leaf_fit (level + 1) (first_of m stop) part f.above, f.above, f.under, f.length)

pub returns-in_default : goal.returns-in_default
returns-in_default t c =
    leaf_none c.args.level c.args.map c.args.word c.rule_of.ensures (no_down c.rule_of.result c.in_default.not-Down)

pub returns-then-level-ge2 : goal.returns-then-level-ge2
returns-then-level-ge2 t c =
    let a = c.args in
    let r = c.rule_of.ensures in
    let down = c.in-Down.is in
    leaf_low a.level a.map a.word r down (down_high a.level a.map a.word r down) (omega arith)

pub overflow_sub-after : goal.overflow_sub-after
overflow_sub-after t c = omega (arith, (facts c.args.level c.args.map _ c.requires c.chunk_end.ensures).above)

pub overflow_add-after : goal.overflow_add-after
overflow_add-after t c =
    let f = facts c.args.level c.args.map _ c.requires c.chunk_end.ensures in
    omega (arith, f.above, f.under, c.requires.0.room)

pub count_leaf-requires : goal.count_leaf-requires
count_leaf-requires t c =
    let f = facts c.args.level c.args.map _ c.requires c.chunk_end.ensures in (
      omega arith,
      subst⁻¹ (λ (m : Map). Fit m × (m.region.start.0 < m.region.end.0)) c.chunk_of-first.ensures (f.fit, f.above),
    )

pub overflow_add-result : goal.overflow_add-result
overflow_add-result t c =
    let a = c.args in
    let f = facts a.level a.map _ c.requires c.chunk_end.ensures in
    omega (arith, deeper_fits a.level a.map _ c.part_of-part.result c.count_leaf.result f (cc))

pub count_rest-requires : goal.count_rest-requires
count_rest-requires t c =
    let f = facts c.args.level c.args.map _ c.requires c.chunk_end.ensures in
    subst⁻¹ (λ (m : Map). m.region.end.0 - m.region.start.0 ≤ 2 ^ 48) c.chunk_of-rest.ensures
    (omega (arith, f.above, f.length))

pub overflow_add-result-2 : goal.overflow_add-result-2
overflow_add-result-2 t c =
    let a = c.args in
    let f = facts a.level a.map _ c.requires c.chunk_end.ensures in
    let rest : c.count_rest.result ≡ rests (3 - (a.level + 1)) (rest_of a.map c.chunk_end.result) = cc in
    omega (
      arith,
      deeper_fits a.level a.map _ c.part_of-part.result c.count_leaf.result f (cc),
      rest,
      rests_fit (a.level + 1) (rest_of a.map c.chunk_end.result),
      f.above,
      f.length,
    )

pub returns : goal.returns
returns t c =
    let a = c.args in
    let stop = c.chunk_end.ensures in
    let down = leaf_down a.level a.map a.word c.rule_of.ensures c.in-Down.is (omega arith) in
    ap₂ (λ (x y : ℕ). 1 + x + y)
    (c.count_leaf.ensures
    ∙ ap₂ (closed_leaf (3 - (a.level + 1))) (c.chunk_of-first.ensures ∙ ap (first_of a.map) stop) c.part_of-part.ensures)
    (c.count_rest.ensures ∙ ap (rests (3 - (a.level + 1))) (c.chunk_of-rest.ensures ∙ ap (rest_of a.map) stop))
    ∙ down
