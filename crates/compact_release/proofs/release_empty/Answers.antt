-- `release_empty`: each way through the code by its law.
use Rattle.std.proofs.Common.{◌≡◌, sym, ap, ◌∙◌, ℕ, ◌+◌, ◌*◌, ◌-◌, arith}
use Rattle.laws.specs.Part.{part_of}
use Rattle.pool.specs.Lent.{lent}
use Rattle.compact_spec.specs.Compact.{all_zero, table_words, release_kept, release_freed}
use Rattle.compact_release.proofs.release_empty.Goals as goal
use Rattle.compact_release.proofs.release_empty.Goals.{After-is_empty}

-- the answer is of table j's words
whole : (c : After-is_empty) → let a = c.args in c.is_empty.result ≡ all_zero (table_words (lent a.pool.now) a.j)
whole c =
    let a = c.args in
    let size : 512 * a.j + 512 - 512 * a.j ≡ 512 = omega arith in
    (rw c.read.ensures.words at c.is_empty.ensures) ∙ ap (λ (n : ℕ). all_zero (part_of (512 * a.j) n a.pool.now.words.now)) size

pub returns-then-not-is_empty-clause-leaves : goal.returns-then-not-is_empty-clause-leaves
returns-then-not-is_empty-clause-leaves c =
    let a = c.args in
    let w = (goal.at.returns-then-not-is_empty-clause-leaves c).After-is_empty in
    release_kept a.k a.i a.j (lent a.pool.now) (sym (whole w) ∙ c.if-not-is_empty.true)

pub returns-clause-leaves : goal.returns-clause-leaves
returns-clause-leaves c =
    let a = c.args in
    let w = (goal.at.returns-clause-leaves c).After-is_empty in
    c.clear_table.ensures.leaves ∙ release_freed a.k a.i a.j (lent a.pool.now) (sym (whole w) ∙ c.if-not-is_empty.false)
