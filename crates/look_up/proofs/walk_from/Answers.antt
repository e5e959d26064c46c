-- `walk_from`: each way through the code by its law.
use Rattle.look_up.proofs.walk_from.Goals.{At-loop-j}
use Rattle.look_up.proofs.Tags.{is_leaf}
use Rattle.look_up.specs.Call.{answer}
use mathlib.Core.Path.{◌≡◌, refl, sym, ap, ◌∙◌}
use mathlib.Core.List.{List}
use Prim.Native.Nat.{ℕ, ◌+◌, ◌*◌, ◌<◌}
use native.Mathlib.Omega.{arith}
use lib.ListN.{get_or}
use Rattle.entry.specs.Sub.{sub_found}
use Rattle.arm.specs.Arm.{reach, says, walk, fetch}
use Rattle.arm.specs.Walk.{slots_at, slot_below, fetch_is, reach-table, reach_outside, reach_leaf}
use Rattle.look_up.proofs.walk_from.Goals as goal

-- the slot that is read
slot : (c : At-loop-j) → get_or c.slots_of-slots.result c.loop-j.level 0 < 512
slot c =
    let va = c.args.va.0 in
    let level = c.loop-j.level in
    let e = ap (λ (l : List ℕ). get_or l level 0) c.loop-j.invariant.2 ∙ slots_at level va c.loop-j.invariant.0 in
    let h = slot_below level va in
    omega arith

-- the word that is read
word : (c : At-loop-j)
    → get_or c.args.pool.now.words.now (512 * c.loop-j.k + get_or c.slots_of-slots.result c.loop-j.level 0) 0
    ≡ fetch c.args.pool.now.words.now c.args.va.0 c.loop-j.k c.loop-j.level
word c =
    let a = c.args in
    fetch_is a.pool.now.words.now a.va.0 c.loop-j.k c.loop-j.level c.loop-j.invariant.2 c.loop-j.invariant.0

pub loop-j-init : goal.loop-j-init
unfolding walk reach
loop-j-init c = (omega arith, omega arith, c.slots_of-slots.ensures, refl)

pub overflow_add-word : goal.overflow_add-word
overflow_add-word c = let h = slot (goal.at.overflow_add-word c).At-loop-j in omega arith

pub offset_bounds-pool-k : goal.offset_bounds-pool-k
offset_bounds-pool-k c = let h = slot (goal.at.offset_bounds-pool-k c).At-loop-j in omega arith

pub bounds-pool-k : goal.bounds-pool-k
bounds-pool-k c = let h = slot (goal.at.bounds-pool-k c).At-loop-j in omega arith

pub returns-in-Outside : goal.returns-in-Outside
unfolding answer says
returns-in-Outside c =
    let a = c.args in
    let l = c.loop-j in
    let out = sym c.subtable-kind.ensures ∙ c.in-Outside.is in
    let read = word (goal.at.returns-in-Outside c).At-loop-j in
    let reached = reach_outside _ _ _ a.va.0 l.k l.level l.invariant.0 read out in
    ap answer (sym (ap (says a.va.0) reached) ∙ l.invariant.3)

pub returns-in_default : goal.returns-in_default
returns-in_default c =
    let a = c.args in
    let l = c.loop-j in
    let sub = c.subtable-kind.ensures in
    let leaf = sym sub ∙ is_leaf _ c.in_default.not-Table c.in_default-kind.not-Outside in
    let read = word (goal.at.returns-in_default c).At-loop-j in
    let reached = reach_leaf _ _ _ a.va.0 l.k l.level l.invariant.0 read leaf in
    c.leaf.ensures ∙ ap answer (sym (ap (says a.va.0) reached) ∙ l.invariant.3)

pub overflow_add-level : goal.overflow_add-level
overflow_add-level c = omega (arith, c.loop-j.invariant.0)

pub loop-j-smaller : goal.loop-j-smaller
loop-j-smaller c = omega (arith, c.loop-j.invariant.0)

pub loop-j-preserved : goal.loop-j-preserved
loop-j-preserved c =
    let a = c.args in
    let l = c.loop-j in
    let table = sym c.subtable-kind.ensures ∙ c.in-Table.is in
    let found = sub_found _ _ l.level _ _ table in
    let read = word (goal.at.loop-j-preserved c).At-loop-j in
    let reached = reach-table _ _ _ a.va.0 l.k l.level l.invariant.0 read _ table in
    (omega (arith, found.high), found.below, l.invariant.2, sym (ap (says a.va.0) reached) ∙ l.invariant.3)
