-- The house rule for live edits of a valid entry (document 01, "Putting down a map", Modify).
use Rattle.std.specs.Prelude.{◌≡◌, refl, Bool, ℕ}
use Rattle.std.specs.Int.Bits.{bit_xor}
use Rattle.entry.specs.Word.{only}
use Rattle.pool.specs.declared.Handle.{Handle}

-- "only bits 0 (clearing), 7, 10, 11, 51, 53, 54 and 55 to 58 may change"; setting bit 0 is refused 4
unfoldable pub house_rule : Handle → ℕ
house_rule h = 0x07E8_0000_0000_0C81

-- a valid entry may change from one word to the other while its table is in use
unfoldable pub may_change : Handle → ℕ → ℕ → Bool
may_change h old new = only (house_rule h) (bit_xor old new)

-- ---- laws

pub house_is : (h : Handle) → 0x07E8_0000_0000_0C81 ≡ house_rule h
unfolding house_rule
house_is h = refl

pub change_is : (h : Handle) (old new : ℕ) {m : ℕ} → m ≡ house_rule h → only m (bit_xor old new) ≡ may_change h old new
unfolding may_change
change_is h old new e = rw e
