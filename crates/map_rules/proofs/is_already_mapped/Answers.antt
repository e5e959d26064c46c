-- `is_already_mapped`: each way through the code by its law.
use Rattle.map_rules.proofs.is_already_mapped.Goals.{After-granularity_at_level}
use mathlib.Core.Path.{◌≡◌, sym, ap, ap₂, ◌∙◌}
use Prim.Native.Nat.{ℕ, ◌-◌, ◌%◌}
use native.Mathlib.Omega.{arith}
use lib.Bits.{bit_and}
use lib.Dec.{eqb}
use Rattle.laws.specs.Size.{size_at, size_pos, size-mod}
use Rattle.entry.specs.Word.{mask_address}
use Rattle.map_rules.specs.Laws.{same-table, same_flags_lem, same-below, same_place}
use Rattle.map_rules.proofs.is_already_mapped.Goals as goal

-- the chunk's offset in its entry, by a mask
offset : (c : After-granularity_at_level)
    → bit_and c.args.map.region.start.0 (c.granularity_at_level.result - 1)
    ≡ c.args.map.region.start.0 % size_at
    c.args.level
offset c =
    let a = c.args in
    ap (λ (g : ℕ). bit_and a.map.region.start.0 (g - 1)) c.granularity_at_level.ensures
    ∙ size-mod a.level a.map.region.start.0

pub returns-then-word-eq3 : goal.returns-then-word-eq3
returns-then-word-eq3 c = let a = c.args in same-table a.level a.map a.word c.if-word-eq3.true

pub returns-then-flags-map : goal.returns-then-flags-map
returns-then-flags-map c =
    let a = c.args in
    same_flags_lem a.level a.map a.word c.if-word-eq3.false
    (λ e. c.if-flags-map.true (c.flags.ensures ∙ e))

pub overflow_sub-offset : goal.overflow_sub-offset
overflow_sub-offset c = omega (arith, c.granularity_at_level.ensures, size_pos c.args.level)

pub returns-then-map-offset : goal.returns-then-map-offset
returns-then-map-offset c =
    let a = c.args in
    let e = offset (goal.at.returns-then-map-offset c).After-granularity_at_level in
    same-below a.level a.map a.word c.if-word-eq3.false
    (sym c.flags.ensures ∙ c.if-flags-map.false)
    (omega arith)

pub returns : goal.returns
returns c =
    let a = c.args in
    let e = offset (goal.at.returns c).After-granularity_at_level in
    let flags = sym c.flags.ensures ∙ c.if-flags-map.false in
    ap₂ (λ (x y : ℕ). eqb (a.map.frame.0 - x) y) e (mask_address a.word)
    ∙ same_place a.level a.map a.word c.if-word-eq3.false flags (omega arith)
