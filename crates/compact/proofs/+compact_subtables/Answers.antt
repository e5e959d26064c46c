-- `compact_subtables`: each way through the code by its law.
use Rattle.std.proofs.Common.{◌≡◌, inl, inr, ℕ, ◌+◌, ◌-◌, sym, ap, ◌∙◌, arith}
use Rattle.entry.proofs.Tags.{no_table}
use Rattle.laws.specs.Slot.{iter_none, iter-step}
use Rattle.entry.specs.Sub.{sub_found}
use Rattle.pool.specs.State.{St}
use Rattle.pool.specs.Lent.{lent, keeps_all, keeps_on}
use Rattle.pool.specs.declared.Handle.{Handle}
use Rattle.compact_spec.specs.Compact.{release_empty, compact_entry, compact_table, entry-table}
use Rattle.compact_spec.specs.Compact.{entry_outside, entry_leaf, compact_down}
use Rattle.compact.proofs.+compact_subtables.Goals as goal

-- what the call one level down does
abbrev below : ℕ → Handle → ℕ → St → St
below level handle = λ j t. compact_table (3 - (level + 1)) handle j t

pub loop-i-init : goal.loop-i-init
loop-i-init t c = record { keeps = keeps_all c.args.pool.now; compacts = iter_none _ _ }

pub loop-i-preserved-in_default : goal.loop-i-preserved-in_default
loop-i-preserved-in_default t c =
    let at = c.loop-i in
    let a = c.args in
    let h = a.pool.now.handle in
    let before = at.invariant in
    let s = lent at.pool in
    let b = below a.level h in
    let sub = c.subtable-kind in
    let kind = rw before.keeps.handle at sub.ensures in
    record {
      keeps = before.keeps;
      compacts =
          iter-step (compact_entry b h a.k a.level) at.i (lent a.pool.now) before.compacts
          (elim (no_table sub.result c.in_default.not-Table) [
            | inl e ↦ entry_outside b h a.k a.level at.i s kind e
            | inr e ↦ entry_leaf b h a.k a.level at.i s kind e
          ]);
    }

pub compact_subtables-requires : goal.compact_subtables-requires
compact_subtables-requires t c =
    let found = sub_found _ _ _ _ _ (sym c.subtable-kind.ensures ∙ c.in-Table.is) in
    (omega arith, (found.below, omega arith))

pub release_empty-requires : goal.release_empty-requires
release_empty-requires t c =
    let found = sub_found _ _ _ _ _ (sym c.subtable-kind.ensures ∙ c.in-Table.is) in
    let j = found.below in
    let tables = c.compact_subtables.ensures.keeps.tables in
    (omega (arith, c.loop-i.invariant.keeps.tables), omega arith, omega arith)

pub loop-i-preserved : goal.loop-i-preserved
loop-i-preserved t c =
    let at = c.loop-i in
    let a = c.args in
    let h = a.pool.now.handle in
    let before = at.invariant in
    let inner = c.compact_subtables in
    let last = c.release_empty in
    let s = lent at.pool in
    let b = below a.level h in
    let kind = rw before.keeps.handle at c.subtable-kind.ensures in
    let compacted = rw before.keeps.handle at inner.ensures.leaves in
    record {
      keeps =
          keeps_on a.pool.now inner.new.pool last.new.pool
          (keeps_on a.pool.now at.pool inner.new.pool before.keeps inner.ensures.keeps) last.ensures.keeps;
      compacts =
          iter-step (compact_entry b h a.k a.level) at.i (lent a.pool.now) before.compacts
          (last.ensures.leaves
          ∙ ap (release_empty a.k at.i c.in-Table.j) compacted
          ∙ entry-table b h a.k a.level at.i s kind c.in-Table.j c.in-Table.is);
    }

pub returns-clause-leaves : goal.returns-clause-leaves
returns-clause-leaves t c =
    let a = c.args in
    let all : c.loop-i.i ≡ 512 = omega arith in
    rw all at c.loop-i.invariant.compacts ∙ compact_down a.pool.now.handle a.k a.level (lent a.pool.now) (omega arith)
