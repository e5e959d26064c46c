-- `count_sound`: each way through the code by its law.
use mathlib.Core.Path.{sym, ap, ◌∙◌}
use Prim.Native.Nat.{◌+◌}
use native.Mathlib.Omega.{arith}
use lib.Dec.{eqb}
use borrow.Author.Tests.{eq-eqb, ne_eqb}
use Rattle.pool.specs.Lent.{read_state}
use Rattle.pool.specs.Refuse.{max_tables}
use Rattle.checker.specs.Scan.{scan_unsound, scan_few, scan_counted}
use Rattle.checker.specs.Call.{count_none, count_some}
use Rattle.checker.proofs.count_sound.Goals as goal

pub returns-in_err-links : goal.returns-in_err-links
returns-in_err-links c =
    let a = c.args in
    let s = read_state a.pool.now in
    let unsound = scan_unsound a.pool.now.handle s c.requires c.scan_tables.ensures c.in_err-links.was in
    rw c.from_residual.ensures (count_none a.pool.now.handle s (sym unsound))

pub overflow_add-links : goal.overflow_add-links
unfolding max_tables
overflow_add-links c =
    let a = c.args in
    let p = c.requires in
    omega (
      arith,
      p.limit,
      scan_few a.pool.now.handle (read_state a.pool.now) p
          c.scan_tables.ensures _ c.in_ok-links.was,
    )

pub returns-then-links-used : goal.returns-then-links-used
returns-then-links-used c =
    let a = c.args in
    let s = read_state a.pool.now in
    let links = c.in_ok-links.links in
    let counted = ap (eqb (links + 1)) c.count_used-used.ensures
    ∙ scan_counted a.pool.now.handle s c.requires
    c.scan_tables.ensures _ c.in_ok-links.was in
    count_none a.pool.now.handle s (sym counted ∙ ne_eqb (links + 1) c.count_used-used.result c.if-links-used.true)

pub returns : goal.returns
returns c =
    let a = c.args in
    let s = read_state a.pool.now in
    let links = c.in_ok-links.links in
    let used = c.count_used-used in
    let scanned = scan_counted a.pool.now.handle s c.requires c.scan_tables.ensures _ c.in_ok-links.was in
    let counted = ap (eqb (links + 1)) used.ensures ∙ scanned in
    count_some a.pool.now.handle s used.ensures (sym counted ∙ eq-eqb (links + 1) used.result c.if-links-used.false)

pub count_used-used-requires : goal.count_used-used-requires
unfolding max_tables
count_used-used-requires c = omega (arith, c.requires.limit)
