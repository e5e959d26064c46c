-- The letters that the lines of the list begin with.
use Rattle.std.specs.Prelude.{ℕ, ◌==◌, cond, Result, Ok, Err}
use Rattle.replay_lines.specs.declared.kind.Kind.{Kind}
use Rattle.replay_lines.specs.declared.kind.Kind.TheVariants.{Make, Lend, Word, Number, Map, Modify, Compact, LookUp, List, Page, Check}
use Rattle.replay_lines.specs.declared.numbers.Fault.{Fault}
use Rattle.replay_lines.specs.declared.numbers.Fault.TheVariants.{NoKind}

-- the kind of a line by its letter: n, o, w, g, m, e, c, u, l, p or s
abbrev pub kind_of : ℕ → Result Kind Fault
kind_of b =
    cond (b == 110) (Ok Make)
    (cond (b == 111) (Ok Lend)
    (cond (b == 119) (Ok Word)
    (cond (b == 103) (Ok Number)
    (cond (b == 109) (Ok Map)
    (cond (b == 101) (Ok Modify)
    (cond (b == 99) (Ok Compact)
    (cond (b == 117) (Ok LookUp)
    (cond (b == 108) (Ok List)
    (cond (b == 112) (Ok Page)
    (cond (b == 115) (Ok Check)
    (Err NoKind)))))))))))
