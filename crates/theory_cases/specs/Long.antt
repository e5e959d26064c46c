-- Document 01, "Bench cases": the starred cases of map that go over whole tables, by computing the definitions.
use Rattle.std.specs.Prelude.{refl}
use Rattle.theory_case_rows.specs.Computes.{checks, regions, takes, maps}
use Rattle.theory_case_rows.specs.Bench.{fresh_row, RowHolds, pool_f, EF, H, rows}

-- E, F: the whole GiB after B, without VALID and with A's map; H
abbrev pub Long : Type 0
Long = RowHolds (EF 0 0 1 (fresh_row 1 8)) × RowHolds (EF 0x4000_0000 0x401 3 pool_f) × RowHolds H

pub long : Long
unfolding checks regions takes maps rows
long = (refl, refl, refl)
