-- A handle made of three numbers.
use Rattle.std.specs.Prelude.{◌≡◌, false, cond, ℕ, ◌<◌, eqb, leb}
use Rattle.std.proofs.Common.{arith}
use Rattle.std.proofs.lemmas.Bool.{lt-leb}
use Rattle.laws.specs.Test.{is_false}
use Rattle.pool.specs.State.{St}
use Rattle.pool.specs.Refuse.{shaped, shaped-says}
use Rattle.pool.specs.declared.Handle.{Handle}
use Rattle.pool.specs.declared.VaRange.{VaRange}
use Rattle.pool.specs.declared.VaRange.TheVariants.{Lower, Upper}

-- 0 is lower, 1 upper
unfoldable pub range_of : ℕ → VaRange
range_of range = cond (eqb range 0) Lower Upper

-- no other number names a range, and its handle has a level that no root has
unfoldable pub root_level : ℕ → ℕ → ℕ
root_level level range = cond (leb range 1) level 4

-- all 64 bits of each number count
abbrev pub handle_of : ℕ → ℕ → ℕ → Handle
handle_of base level range = record { base = record { 0 = base }; level = root_level level range; range = range_of range }

-- ---- laws

pub past_the_roots : (level range : ℕ) → 1 < range → root_level level range ≡ 4
unfolding root_level
past_the_roots level range above = rw (lt-leb range 1 above)

-- a range above 1 is refusal 1 of every call
pub no_range : (base level range : ℕ) (s : St) → 1 < range → shaped (handle_of base level range) s ≡ false
no_range base level range s above =
    is_false (shaped (handle_of base level range) s)
    (λ t. omega (arith, (shaped-says (handle_of base level range) s t).level, past_the_roots level range above))
