-- In a sound pool every word that is no table is lawful at its level, so that the closed form is the count. Leans on `Count`.
use Rattle.std.specs.Prelude.{◌&&◌, ltb}
use Rattle.std.proofs.Common.{ltb→lt}
use Prim.Native.Nat.{ℕ, zero, suc, ◌%◌, ◌<◌}
use native.Mathlib.Omega.{arith}
use Rattle.std.proofs.Math.Dec.{T, eqb, eqb→eq}
use Rattle.laws.specs.Size.{size_at}
use Rattle.laws.specs.Test.{and_l, and_r}
use Rattle.entry.specs.Word.{address_of}
use Rattle.pool.specs.Sound.{fits}
use Rattle.map_count_spec.specs.Missed.{Lawful}

-- a word that fits its level, and is no table, is lawful there
pub fits_lawful : (level w : ℕ) → level < 3 → T (fits level w) → Lawful level w
unfolding fits
fits_lawful zero w h t =
    let z = eqb→eq (w % 4) 0 (and_l (eqb (w % 4) 0) (eqb (address_of w) 0) t) in
    record { plain = (λ e. omega arith); aligned = (λ e. absurd (omega arith)) }
fits_lawful (suc zero) w h t = low 1 t
  where
    low : (l : ℕ) → T (ltb (w % 4) 2 && eqb (address_of w % size_at l) 0) → Lawful l w
    low l t =
        let a = ltb→lt (w % 4) 2 (and_l (ltb (w % 4) 2) (eqb (address_of w % size_at l) 0) t) in
        record {
          plain = (λ e. omega arith);
          aligned = (λ e. eqb→eq (address_of w % size_at l) 0 (and_r (ltb (w % 4) 2) (eqb (address_of w % size_at l) 0) t));
        }
fits_lawful (suc (suc zero)) w h t = low 2 t
  where
    low : (l : ℕ) → T (ltb (w % 4) 2 && eqb (address_of w % size_at l) 0) → Lawful l w
    low l t =
        let a = ltb→lt (w % 4) 2 (and_l (ltb (w % 4) 2) (eqb (address_of w % size_at l) 0) t) in
        record {
          plain = (λ e. omega arith);
          aligned = (λ e. eqb→eq (address_of w % size_at l) 0 (and_r (ltb (w % 4) 2) (eqb (address_of w % size_at l) 0) t));
        }
fits_lawful (suc (suc (suc l))) w h t = absurd (omega arith)
