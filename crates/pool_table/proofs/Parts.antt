-- One table's words, lent as a part of the pool from its middle, come back.
use mathlib.Core.List.{List}
use mathlib.Core.Path.{◌≡◌, ap, ◌∙◌}
use Prim.Native.Nat.{ℕ, ◌+◌, ◌*◌, ◌-◌, ◌≤◌}
use native.Mathlib.Omega.{arith}
use lib.ListN.{length, replicate}
use borrow.Rule.Slice.PartMut.{put_mid, mid_of}
use Rattle.laws.specs.Part.{part_back, part_length}
use Rattle.pool_table.specs.Table.{put_table, zeros, length-zeros}

-- any 512 words
pub table_part : (k : ℕ) (w t : List ℕ) → length t ≡ 512 → put_mid (512 * k) (512 * k + 512 - 512 * k) w t ≡ put_table k t w
unfolding put_table
table_part k w t e = part_back (512 * k) (512 * k + 512) w t (omega arith) (omega arith)

-- the length of what was lent
pub table-length : (k : ℕ) (w : List ℕ) → 512 * k + 512 ≤ length w → length (mid_of (512 * k) (512 * k + 512 - 512 * k) w) ≡ 512
table-length k w h = part_length (512 * k) (512 * k + 512) w h ∙ (let e : 512 * k + 512 - 512 * k ≡ 512 = omega arith in e)

-- all zero
pub zeroed_part : (k : ℕ) (w t : List ℕ) → 512 * k + 512 ≤ length w
    → t ≡ replicate (length (mid_of (512 * k) (512 * k + 512 - 512 * k) w)) 0
    → put_mid (512 * k) (512 * k + 512 - 512 * k) w t ≡ put_table k zeros w
unfolding zeros
zeroed_part k w t h e =
    let z : t ≡ zeros = e ∙ ap (λ (n : ℕ). replicate n 0) (table-length k w h) in
    ap (put_mid (512 * k) (512 * k + 512 - 512 * k) w) z ∙ table_part k w zeros length-zeros
