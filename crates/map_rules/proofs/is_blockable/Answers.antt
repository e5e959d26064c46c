-- `is_blockable`: each way through the code by its law.
use Rattle.map_rules.proofs.is_blockable.Goals.{After-granularity_at_level}
use mathlib.Core.Path.{◌≡◌, sym, ap, ◌∙◌}
use Prim.Native.Nat.{ℕ, ◌-◌, ◌%◌}
use native.Mathlib.Omega.{arith}
use lib.Bits.{bit_and}
use borrow.Author.Tests.{eq-eqb, ne_eqb, not-true, not-false}
use Rattle.laws.specs.Size.{size_at, size_pos, size-mod}
use Rattle.map_rules.specs.Rules.{blockable}
use Rattle.map_rules.proofs.is_blockable.Goals as goal

-- the frame's offset in an entry, by a mask
aligned : (c : After-granularity_at_level)
    → bit_and c.args.map.frame.0 (c.granularity_at_level.result - 1)
    ≡ c.args.map.frame.0 % size_at c.args.level
aligned c =
    let a = c.args in
    ap (λ (g : ℕ). bit_and a.map.frame.0 (g - 1)) c.granularity_at_level.ensures ∙ size-mod a.level a.map.frame.0

pub overflow_sub-granularity_at_level : goal.overflow_sub-granularity_at_level
overflow_sub-granularity_at_level c = omega (arith, c.granularity_at_level.ensures, size_pos c.args.level)

pub returns-then-map-granularity_at_level-ne0 : goal.returns-then-map-granularity_at_level-ne0
unfolding blockable
returns-then-map-granularity_at_level-ne0 c =
    let p = (goal.at.returns-then-map-granularity_at_level-ne0 c).After-granularity_at_level in
    rw (ne_eqb _ 0 (λ e. c.if-map-granularity_at_level-ne0.true (aligned p ∙ e)))

pub returns-then-not-map : goal.returns-then-not-map
unfolding blockable
returns-then-not-map c =
    rw (
      eq-eqb _ 0 (sym (aligned (goal.at.returns-then-not-map c).After-granularity_at_level) ∙ c.if-map-granularity_at_level-ne0.false),
      not-true c.args.map.blocks c.if-not-map.true,
    )

pub returns : goal.returns
unfolding blockable
returns c =
    rw (
      eq-eqb _ 0 (sym (aligned (goal.at.returns c).After-granularity_at_level) ∙ c.if-map-granularity_at_level-ne0.false),
      not-false c.args.map.blocks c.if-not-map.false,
    )
