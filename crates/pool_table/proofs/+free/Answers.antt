-- `free`: each way through the code by its law.
use Rattle.std.proofs.Common.{inl, inr}
use Rattle.entry.proofs.Tags.{no_table}
use mathlib.Core.Path.{◌≡◌, sym, ap, ◌∙◌}
use native.Mathlib.Omega.{arith}
use Rattle.laws.specs.Slot.{iter_none, iter-step}
use Rattle.entry.specs.Sub.{sub_found}
use Rattle.pool.specs.Lent.{lent, keeps_all, keeps_on}
use Rattle.pool_table.specs.Table.{clear, free_slot, slot_table, slot_outside, slot_leaf, free-down}
use Rattle.pool_table.proofs.+free.Invariants.{below}
use Rattle.pool_table.proofs.+free.Goals as goal

pub loop-i-init : goal.loop-i-init
loop-i-init t c = record { keeps = keeps_all c.args.pool.now; frees = iter_none _ _ }

pub loop-i-preserved-in_default : goal.loop-i-preserved-in_default
loop-i-preserved-in_default t c =
    let a = c.args in
    let h = a.pool.now.handle in
    let before = c.loop-i.invariant in
    let s = lent c.loop-i.pool in
    let i = c.loop-i.i in
    let b = below a.level h in
    let kind = rw before.keeps.handle at c.subtable-kind.ensures in
    record {
      keeps = before.keeps;
      frees =
          iter-step (free_slot b h a.k a.level) i (lent a.pool.now) before.frees
          (elim (no_table c.subtable-kind.result c.in_default.not-Table) [
            | inl e ↦ slot_outside b h a.k a.level i s kind e
            | inr e ↦ slot_leaf b h a.k a.level i s kind e
          ]);
    }

pub free-requires : goal.free-requires
free-requires t c =
    let found = sub_found _ _ _ _ _ (sym c.subtable-kind.ensures ∙ c.in-Table.is) in
    (omega arith, (found.below, omega arith))

pub loop-i-preserved : goal.loop-i-preserved
loop-i-preserved t c =
    let a = c.args in
    let h = a.pool.now.handle in
    let before = c.loop-i.invariant in
    let s = lent c.loop-i.pool in
    let i = c.loop-i.i in
    let b = below a.level h in
    let kind = rw before.keeps.handle at c.subtable-kind.ensures in
    let freed = rw before.keeps.handle at c.free.ensures.leaves in
    record {
      keeps = keeps_on a.pool.now c.loop-i.pool c.free.new.pool before.keeps c.free.ensures.keeps;
      frees =
          iter-step (free_slot b h a.k a.level) i (lent a.pool.now) before.frees
          (freed ∙ slot_table b h a.k a.level i s kind _ c.in-Table.is);
    }

pub returns-clause-leaves : goal.returns-clause-leaves
returns-clause-leaves t c =
    let a = c.args in
    let all : c.loop-i.i ≡ 512 = omega arith in
    c.clear_table-2.ensures.leaves
    ∙ ap (clear a.k) (rw all at c.loop-i.invariant.frees)
    ∙ free-down a.pool.now.handle a.k a.level (lent a.pool.now) (omega arith)
