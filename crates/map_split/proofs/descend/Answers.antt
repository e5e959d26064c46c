-- `descend`: each way through the code by its law.
use Rattle.std.proofs.Common.{◌≡◌, ℕ, sym, refl, ◌∙◌}
use Rattle.entry.specs.declared.Sub.{Sub}
use Rattle.entry.specs.declared.Sub.TheVariants.{Table, Outside, Leaf}
use Rattle.pool.specs.Lent.{lent}
use Rattle.entry.specs.Sub.{sub_some}
use Rattle.map_split.specs.Split.{below-table, below_outside, below_split}
use Rattle.map_split.proofs.descend.Goals as goal

-- neither a table nor a leaf
outside : (x : Sub) → ((j : ℕ) → x ≡ Table j → ⊥) → (x ≡ Leaf → ⊥) → x ≡ Outside
outside (Table j) t l = absurd (t j refl)
outside Outside t l = refl
outside Leaf t l = absurd (l refl)

pub returns-in_default-kind-clause-leaves : goal.returns-in_default-kind-clause-leaves
returns-in_default-kind-clause-leaves c =
    let a = c.args in
    below_outside a.pool.now.handle a.k a.level a.i (lent a.pool.now) c.subtable-kind.ensures
    (outside _ c.in_default.not-Table c.in_default-kind.not-Leaf)

pub split_entry-requires : goal.split_entry-requires
split_entry-requires c =
    let a = c.args in
    let p = c.requires in (
      p.0,
      p.1,
      p.2,
      p.3,
      λ e. sub_some a.pool.now.handle.base.0 _ a.level _ p.1 e (sym c.subtable-kind.ensures ∙ c.in-Leaf.is),
    )

pub returns-in_default-clause-leaves : goal.returns-in_default-clause-leaves
returns-in_default-clause-leaves c =
    let a = c.args in
    c.split_entry.ensures.leaves
    ∙ below_split a.pool.now.handle a.k a.level a.i (lent a.pool.now) c.subtable-kind.ensures c.in-Leaf.is

pub returns-clause-leaves : goal.returns-clause-leaves
returns-clause-leaves c =
    let a = c.args in
    below-table a.pool.now.handle a.k a.level a.i (lent a.pool.now) c.subtable-kind.ensures _ c.in-Table.is
