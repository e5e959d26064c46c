-- Rounding up in 64 bits, and a law for each way through `align_up`.
use Rattle.std.specs.Prelude.{◌≡◌, cond, ℕ, ◌+◌, ◌-◌, ◌%◌, ◌^◌, ◌≤◌, ◌<◌, ltb}
use Rattle.std.proofs.Common.{sym, ap, ◌∙◌, arith, ltb→lt, lt-ltb, le-ltb}
use Rattle.laws.specs.Test.{by_bool}
use Rattle.laws.specs.Size.{down, up, up-zero, up_exact, up_next, down_rest}

-- the multiple of the alignment at or above the value where it fits 64 bits, and 0 where it doesn't or the alignment is 0
unfoldable pub align_up : ℕ → ℕ → ℕ
align_up value alignment = cond (ltb (up value alignment) (2 ^ 64)) (up value alignment) 0

pub align_up_none : (v a : ℕ) → a ≡ 0 → 0 ≡ align_up v a
unfolding align_up
align_up_none v a e = rw (e, up-zero v)

-- the rounding is known to be u
align_up_is : (v a u : ℕ) → up v a ≡ u → align_up v a ≡ cond (ltb u (2 ^ 64)) u 0
unfolding align_up
align_up_is v a u e = ap (λ (x : ℕ). cond (ltb x (2 ^ 64)) x 0) e

pub align_up_exact : (v a : ℕ) → 0 < a → v % a ≡ 0 → v < 2 ^ 64 → v ≡ align_up v a
align_up_exact v a h e f = sym (align_up_is v a v (up_exact v a h e) ∙ rw (lt-ltb v (2 ^ 64) f))

-- v - v % a, and one alignment more
up_above : (v a : ℕ) → 0 < a → (v % a ≡ 0 → ⊥) → up v a ≡ v - v % a + a
up_above v a h n = up_next v a h n ∙ (let r = down_rest v a in let s : down v a + a ≡ v - v % a + a = omega arith in s)

pub align_up_past : (v a : ℕ) → 0 < a → (v % a ≡ 0 → ⊥) → 2 ^ 64 ≤ v - v % a + a → 0 ≡ align_up v a
align_up_past v a h n f = sym (align_up_is v a (v - v % a + a) (up_above v a h n) ∙ rw (le-ltb (v - v % a + a) (2 ^ 64) f))

pub align_up_next : (v a : ℕ) → 0 < a → (v % a ≡ 0 → ⊥) → v - v % a + a < 2 ^ 64 → v - v % a + a ≡ align_up v a
align_up_next v a h n f = sym (align_up_is v a (v - v % a + a) (up_above v a h n) ∙ rw (lt-ltb (v - v % a + a) (2 ^ 64) f))

-- what is rounded up fits 64 bits
pub up-below : (v a : ℕ) → align_up v a < 2 ^ 64
unfolding align_up
up-below v a = by_bool (ltb (up v a) (2 ^ 64)) (λ e. rw e (ltb→lt (up v a) (2 ^ 64) (rw e tt))) (λ e. rw e (omega arith))
