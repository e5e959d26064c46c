-- THE STARRED TABLE (document 01, "Bench cases"): every starred case, one theorem about the definitions.
use Rattle.pool.specs.declared.Refusal.TheVariants.{WantOfRoom}
use Rattle.theory_case_rows.specs.Bench.{fresh_row, Made, made, RowHolds, pool_a, pool_b, pool_d, pool_f, pool_g, A, B, CD, EF, G, H, quick}
use Rattle.theory_case_rows.specs.Edited.{WholeEdited, PartEdited, StillEdited, case_I}
use Rattle.theory_case_rows.specs.Listed.{J, case_J}
use Rattle.theory_cases.specs.Compacted as compact
use Rattle.theory_cases.specs.Long.{long}
use Rattle.std.specs.Prelude.{Err, Ok}

-- A to H of map, in the document's order
abbrev pub StarredMaps : Type 0
StarredMaps =
    RowHolds A
    × RowHolds (B 8 (Ok 3) (pool_b 8)) × RowHolds (B 3 (Ok 3) (pool_b 3))
    × RowHolds (B 2 (Err (WantOfRoom 2 1)) (fresh_row 1 2))
    × RowHolds (CD 0x4020_0000 1 pool_a) × RowHolds (CD 0x5000_0000 3 pool_d)
    × RowHolds (EF 0 0 1 (fresh_row 1 8)) × RowHolds (EF 0x4000_0000 0x401 3 pool_f)
    × RowHolds (G 0 3 pool_g) × RowHolds (G 0x1000 1 (fresh_row 1 8))
    × RowHolds H

pub starred_maps : StarredMaps
starred_maps = (quick.0, quick.1, quick.2, quick.3, quick.4, quick.5, long.0, long.1, quick.6, quick.7, long.2)

-- the pools as make gives them; A to H of map; compact's half of G; I of modify; J of list
pub starred : Made × StarredMaps × compact.GCompacted × (WholeEdited × PartEdited × StillEdited) × J
starred = (made, starred_maps, compact.case_G, case_I, case_J)
