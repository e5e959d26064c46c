-- Document 01, "Bench cases", J: after B, list 0..0x3000. By computing the definitions. Leans on `Bench`.
use Rattle.std.specs.Prelude.{[], ◌∷◌, ◌≡◌, refl, replicate, Ok}
use Rattle.arm.specs.Arm.{bits, low_bit, index, fetch}
use Rattle.list_lines.specs.Lines.{numbers, each, sub_lines, chunk_lines, lines_at, lines_from, lines_of}
use Rattle.pool.specs.Refuse.{first_refused}
use Rattle.list.specs.Call.{verify_ends, listing, put, list_lines, list_sound, list_call}
use Rattle.theory_case_rows.specs.Computes.{checks, regions}
use Rattle.theory_case_rows.specs.Bench.{handle, pool_b, rows}

-- three lines; the rest of the list stays
abbrev pub J : Type 0
J =
    list_call (handle 1) (pool_b 8) 0 0x3000 (replicate 16 7)
    ≡ listing (Ok 3) (0 ∷ 0x1000 ∷ 0 ∷ 3 ∷ 0x1000 ∷ 0x2000 ∷ 0x9403 ∷ 3 ∷ 0x2000 ∷ 0x3000 ∷ 0xA403 ∷ 3 ∷ 7 ∷ 7 ∷ 7 ∷ 7 ∷ [])

pub case_J : J
unfolding checks regions rows bits low_bit index fetch numbers each sub_lines chunk_lines lines_at lines_from lines_of verify_ends put list_lines
    list_sound first_refused list_call
case_J = refl
