-- `put_entry`: each way through the code by its law.
use Rattle.std.proofs.Common.{refl, ◌∙◌}
use mathlib.Core.Bool.{true≢false}
use Rattle.pool.specs.Lent.{lent}
use Rattle.map_put.specs.Laws.{put_write, put_keep, put-drop}
use Rattle.map_put.proofs.put_entry.Goals as goal

pub returns-in-Write-clause-leaves : goal.returns-in-Write-clause-leaves
returns-in-Write-clause-leaves c =
    let a = c.args in
    (put_write (λ j t. t) a.pool.now.handle a.k a.level a.i (lent a.pool.now) _ c.in-Write.is, λ e. (e, refl))

pub returns-in-Drop-clause-leaves : goal.returns-in-Drop-clause-leaves
returns-in-Drop-clause-leaves c =
    let a = c.args in (
      c.drop_entry.ensures.leaves ∙ put-drop (λ j t. t) a.pool.now.handle a.k a.level a.i (lent a.pool.now) _ c.in-Drop.is,
      λ e. absurd (true≢false e),
    )

pub returns-in-Keep-clause-leaves : goal.returns-in-Keep-clause-leaves
returns-in-Keep-clause-leaves c =
    let a = c.args in
    (put_keep (λ j t. t) a.pool.now.handle a.k a.level a.i (lent a.pool.now) c.in-Keep.is, λ e. (e, refl))
