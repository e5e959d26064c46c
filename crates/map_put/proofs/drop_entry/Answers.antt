-- `drop_entry`: each way through the code by its law.
use Rattle.std.proofs.Common.{◌≡◌, ℕ, refl, sym, ◌∙◌, arith}
use Rattle.entry.specs.declared.Sub.{Sub}
use Rattle.entry.specs.declared.Sub.TheVariants.{Table, Outside, Leaf}
use Rattle.entry.specs.Sub.{sub_of, sub-below}
use Rattle.pool.specs.declared.Handle.{Handle}
use Rattle.pool.specs.Lent.{lent}
use Rattle.pool.specs.State.{St, tables}
use Rattle.map_put.specs.Put.{drop_entry}
use Rattle.map_put.specs.Laws.{drop-table, drop_outside, drop_leaf}
use Rattle.map_put.proofs.drop_entry.Goals as goal

-- where no table stands nothing is freed
kept : (h : Handle) (level w : ℕ) (s : St) (x : Sub) → x ≡ sub_of h.base.0 (tables s) level w → ((j : ℕ) → x ≡ Table j → ⊥)
    → s ≡ drop_entry h level w s
kept h level w s (Table j) is n = absurd (n j refl)
kept h level w s Outside is n = drop_outside h level w s is refl
kept h level w s Leaf is n = drop_leaf h level w s is refl

pub returns-in_default-clause-leaves : goal.returns-in_default-clause-leaves
returns-in_default-clause-leaves c = kept c.args.pool.now.handle c.args.level c.args.word _ _ c.subtable-kind.ensures c.in_default.not-Table

pub free-requires : goal.free-requires
free-requires c = (sub-below _ _ _ _ _ (sym c.subtable-kind.ensures ∙ c.in-Table.is), omega arith)

pub returns-clause-leaves : goal.returns-clause-leaves
returns-clause-leaves c =
    let a = c.args in
    c.free.ensures.leaves
    ∙ drop-table a.pool.now.handle a.level a.word (lent a.pool.now) c.subtable-kind.ensures _ c.in-Table.is
