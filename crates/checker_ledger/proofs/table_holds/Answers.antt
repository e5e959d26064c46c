-- `table_holds`: each way through the code by its law.
use mathlib.Core.Bool.{true}
use mathlib.Core.Path.{◌≡◌, refl, sym, ap, ◌∙◌}
use Prim.Native.Nat.{ℕ, zero, suc}
use borrow.Author.Tests.{eq-eqb, ne_eqb}
use Rattle.pool.specs.State.{St, number_at}
use Rattle.pool.specs.Lent.{read_state}
use Rattle.pool.specs.Number.{root_number}
use Rattle.pool.specs.Sound.{hangsb, tableb}
use Rattle.pool.specs.declared.Handle.{Handle}
use Rattle.checker_ledger.proofs.table_holds.Goals as goal

-- a table other than the root: free, or it hangs
free-holds : (h : Handle) (s : St) (k : ℕ) → (k ≡ 0 → ⊥) → number_at s k ≡ 0 → true ≡ tableb h s k
unfolding tableb
free-holds h s zero n e = absurd (n refl)
free-holds h s (suc k) n e = rw (eq-eqb (number_at s (suc k)) 0 e)

used-holds : (h : Handle) (s : St) (k : ℕ) → (k ≡ 0 → ⊥) → (number_at s k ≡ 0 → ⊥) → hangsb h.base.0 s k ≡ tableb h s k
unfolding tableb
used-holds h s zero n e = absurd (n refl)
used-holds h s (suc k) n e = rw (ne_eqb (number_at s (suc k)) 0 e)

pub returns-then-k-eq0 : goal.returns-then-k-eq0
unfolding tableb root_number
returns-then-k-eq0 c =
    let a = c.args in
    sym (ap (tableb a.pool.now.handle (read_state a.pool.now)) c.if-k-eq0.true)

pub returns-then-pool-k-eq0 : goal.returns-then-pool-k-eq0
returns-then-pool-k-eq0 c =
    let a = c.args in
    free-holds a.pool.now.handle (read_state a.pool.now) a.k c.if-k-eq0.false c.if-pool-k-eq0.true

pub returns : goal.returns
returns c =
    let a = c.args in
    c.hangs.ensures
    ∙ used-holds a.pool.now.handle (read_state a.pool.now) a.k c.if-k-eq0.false c.if-pool-k-eq0.false
