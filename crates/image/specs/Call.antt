-- Page image, the whole call: one table's 512 words, little-endian, into 4096 bytes. Refusals 1 (a table number not below n counts), 11.
use Rattle.std.specs.Prelude.{◌≡◌, true, false, cond, List, ℕ, ◌*◌, ◌≤◌, ◌<◌, ltb, eqb, length, Err}
use borrow.Author.Tests.{lt-ltb, le-ltb, eq-eqb, ne_eqb}
use Rattle.laws.specs.Part.{part_of}
use Rattle.pool.specs.State.{St, tables}
use Rattle.pool.specs.Refuse.{shaped, granted, Outcome}
use Rattle.image_bytes.specs.Image.{image_of}
use Rattle.pool.specs.declared.Handle.{Handle}
use Rattle.pool.specs.declared.Refusal.TheVariants.{Shape, Short}

-- the answer and the page
pub record Imaged : Type 0 where
  pub answer : Outcome
  pub page : List ℕ

abbrev pub imaged : Outcome → List ℕ → Imaged
imaged r p = record { answer = r; page = p }

unfoldable pub image_call : Handle → St → ℕ → List ℕ → Imaged
image_call h s k page =
    cond (shaped h s)
    (cond (ltb k (tables s))
    (cond (eqb (length page) 4096) (imaged granted (image_of (part_of (512 * k) 512 s.words))) (imaged (Err (Short 4096)) page))
    (imaged (Err Shape) page))
    (imaged (Err Shape) page)

-- ---- laws: one for each way through the code

module _ (h : Handle) (s : St) (k : ℕ) (page : List ℕ) where
  pub image_misshaped : shaped h s ≡ false → imaged (Err Shape) page ≡ image_call h s k page
  unfolding image_call
  image_misshaped e = rw e

  pub image_no_table : shaped h s ≡ true → tables s ≤ k → imaged (Err Shape) page ≡ image_call h s k page
  unfolding image_call
  image_no_table e l = rw (e, le-ltb k (tables s) l)

  pub image_short : shaped h s ≡ true → k < tables s → (length page ≡ 4096 → ⊥) → imaged (Err (Short 4096)) page ≡ image_call h s k page
  unfolding image_call
  image_short e l n = rw (e, lt-ltb k (tables s) l, ne_eqb (length page) 4096 n)

  pub image_written : shaped h s ≡ true → k < tables s → length page ≡ 4096
      → imaged granted (image_of (part_of (512 * k) 512 s.words)) ≡ image_call h s k page
  unfolding image_call
  image_written e l n = rw (e, lt-ltb k (tables s) l, eq-eqb (length page) 4096 n)
