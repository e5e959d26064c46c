-- `put_line`: each way through the code by its law.
use native.Mathlib.Omega.{arith}
use lib.ListN.{length-set}
use Rattle.list_lines.specs.Lines.{numbers, put_four}
use Rattle.list_lines.proofs.put_line.Goals as goal

pub bounds-list-to-2 : goal.bounds-list-to-2
bounds-list-to-2 c = simp length-set (omega arith)

pub bounds-list-to-3 : goal.bounds-list-to-3
bounds-list-to-3 c = simp length-set (omega arith)

pub bounds-list-to-4 : goal.bounds-list-to-4
bounds-list-to-4 c = simp length-set (omega arith)

pub returns : goal.returns
unfolding numbers
returns c = let a = c.args in put_four a.list.now a.to _ _ _ _ c.requires
