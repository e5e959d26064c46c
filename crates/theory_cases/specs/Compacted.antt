-- Document 01, "Bench cases", G: compact after it returns to 1 table. By computing the definitions. Leans on theory_case_rows.
use Rattle.std.specs.Prelude.{◌≡◌, refl, Ok}
use Rattle.laws.specs.Slot.{iter}
use Rattle.pool.specs.Number.{used}
use Rattle.pool.specs.Refuse.{out}
use Rattle.pool_table.specs.Table.{clear}
use Rattle.compact_spec.specs.Compact.{all_zero, release_empty, compact_sub, compact_entry, compact_table}
use Rattle.compact_spec.specs.Call.{compacted, compact_sound, compact_call}
use Rattle.theory_case_rows.specs.Computes.{checks}
use Rattle.theory_case_rows.specs.Bench.{handle, fresh_row, pool_g, rows}

-- both empty tables are freed, the lower one first, and the pool is as it was made
abbrev pub GCompacted : Type 0
GCompacted = compact_call (handle 1) pool_g ≡ out (Ok 1) (fresh_row 1 8)

pub case_G : GCompacted
unfolding checks rows used clear iter all_zero release_empty compact_sub compact_entry compact_table compacted compact_sound compact_call
case_G = refl
