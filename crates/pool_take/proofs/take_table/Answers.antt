-- `take_table`: each way through the code by its law.
use Rattle.pool_take.proofs.take_table.Goals.{In_ok-j, Start}
use mathlib.Core.List.{List}
use mathlib.Core.Path.{◌≡◌, sym, ap, ap₂, ◌∙◌}
use Prim.Native.Nat.{ℕ, ◌+◌, ◌*◌, ◌-◌}
use native.Mathlib.Omega.{arith}
use lib.ListN.{set}
use borrow.Rule.Slice.PartMut.{put_mid}
use Rattle.entry.specs.Word.{link_of, link_fits}
use Rattle.pool.specs.State.{st}
use Rattle.pool.specs.Lent.{lent}
use Rattle.pool.specs.Refuse.{max_tables}
use Rattle.pool.specs.Number.{number_of, LowestFree, lowest_found}
use Rattle.pool_table.specs.Table.{rising, length-rising, taken, take_at, take_none, take_some}
use Rattle.pool_table.proofs.Parts.{table_part}
use Rattle.pool_take.proofs.take_table.Goals as goal
use Rattle.std.specs.Prelude.{Some}

-- the table that was found
lowest : (c : In_ok-j) → LowestFree c.args.pool.now.ledger.now c.in_ok-j.j
lowest c = lowest_found c.args.pool.now.ledger.now _ (sym (rw c.read.ensures.ledger at c.lowest_free.ensures) ∙ c.in_ok-j.was)

pub returns-in_err-j-clause-leaves : goal.returns-in_err-j-clause-leaves
returns-in_err-j-clause-leaves c =
    let a = c.args in
    let p = a.pool.now in
    rw c.from_residual.ensures
    (take_none p.handle a.p a.level a.i (rising 512 a.first a.step) (lent p)
    (rw c.read.ensures.ledger at c.lowest_free.ensures) c.in_err-j.was)

pub overflow_mul-a : goal.overflow_mul-a
overflow_mul-a c = omega (arith, (lowest (goal.at.overflow_mul-a c).In_ok-j).inside, c.args.pool.now.sized)

pub overflow_add-e : goal.overflow_add-e
overflow_add-e c = omega (arith, (lowest (goal.at.overflow_add-e c).In_ok-j).inside, c.args.pool.now.sized)

pub offset_bounds-pool-a : goal.offset_bounds-pool-a
offset_bounds-pool-a c = omega (arith, (lowest (goal.at.offset_bounds-pool-a c).In_ok-j).inside, c.args.pool.now.sized)

pub slice_bounds-fill-end : goal.slice_bounds-fill-end
slice_bounds-fill-end c = omega (arith, (lowest (goal.at.slice_bounds-fill-end c).In_ok-j).inside, c.args.pool.now.sized)

pub overflow_cast-pool : goal.overflow_cast-pool
unfolding max_tables
overflow_cast-pool c = omega (arith, c.requires.0.limit)

pub returns-clause-leaves : goal.returns-clause-leaves
unfolding take_at number_of
returns-clause-leaves c =
    let a = c.args in
    let p = a.pool.now in
    let h = p.handle in
    let shape = c.requires.0 in
    let j = c.in_ok-j.j in
    let inside = (lowest (goal.at.returns-clause-leaves c).In_ok-j).inside in
    let part = c.fill in
    let all = rising 512 a.first a.step in
    let linked : c.link.result ≡ link_of h.base.0 j = c.link.ensures ∙ link_fits h.base.0 j shape.paged (omega (arith, shape.ended)) in
    let filled = ap (put_mid (512 * j) (512 * j + 512 - 512 * j) p.words.now) part.ensures
    ∙ table_part j p.words.now all (length-rising 512 a.first a.step) in
    ap₂ (λ (w : List ℕ) (x : ℕ). taken (Some j)
    (st (set w (512 * a.p + a.i) x) (set p.ledger.now j (4 + a.level + 8 * (512 * a.p + a.i + 1))))) filled linked
    ∙ take_some h a.p a.level a.i all (lent p) j
    (rw c.read.ensures.ledger at c.lowest_free.ensures) c.in_ok-j.was
