-- `list_lines`: each way through the code by its law.
use mathlib.Core.Path.{ap, ap₂, ◌∙◌}
use mathlib.Core.List.{List}
use Prim.Native.Nat.{ℕ, ◌*◌, ◌-◌, ◌^◌, ◌≤◌}
use native.Mathlib.Omega.{arith}
use lib.ListN.{length}
use Rattle.pool.specs.declared.Refusal.TheVariants.{Short}
use Rattle.list_lines.specs.Lines.{lines_from, lines_bound, Written, write_lines}
use Rattle.list.specs.Call.{listing, list_short, list_written}
use Rattle.list.proofs.list_lines.Goals.{Start}
use Rattle.list.proofs.list_lines.Goals as goal
use Rattle.std.specs.Prelude.{Err, Ok}

-- no more than 2^48 lines
few : (c : Start)
    → let a = c.args in length (lines_from a.handle.base.0 a.tables a.words.now (3 - a.handle.level) 0 a.region) ≤ 2 ^ 48
few c =
    let a = c.args in
    let b = lines_bound a.handle.base.0 a.tables a.words.now (3 - a.handle.level) 0 a.region in
    omega (arith, c.requires.3)

pub count_lines-count-requires : goal.count_lines-count-requires
count_lines-count-requires c =
    let f = few (goal.at.count_lines-count-requires c).Start in (omega arith, omega arith, omega arith, omega arith)

pub overflow_mul-result : goal.overflow_mul-result
overflow_mul-result c = let f = few (goal.at.overflow_mul-result c).Start in omega (arith, c.count_lines-count.ensures)

pub returns-then-list-count : goal.returns-then-list-count
returns-then-list-count c =
    let a = c.args in
    ap (λ (x : ℕ). listing (Err (Short (4 * x))) a.list.now) c.count_lines-count.ensures
    ∙ list_short (lines_from a.handle.base.0 a.tables a.words.now (3 - a.handle.level) 0 a.region) a.list.now
    (omega (arith, c.count_lines-count.ensures))

pub returns : goal.returns
unfolding write_lines
returns c =
    let a = c.args in
    ap₂ (λ (x : ℕ) (l : List ℕ). listing (Ok x) l) c.count_lines-count.ensures (ap (λ (x : Written). x.list) c.visit_range.ensures)
    ∙ list_written (lines_from a.handle.base.0 a.tables a.words.now (3 - a.handle.level) 0 a.region) a.list.now
    (omega (arith, c.count_lines-count.ensures))
