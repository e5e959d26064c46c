-- What the library's `to_le_bytes` gives, by divisions one after the other.
use Rattle.std.specs.Int.{w64, to_le_bytes}
use Rattle.std.proofs.Common.{◌≡◌, ℕ}
use native.Mathlib.Nat.{div-div-eq-div-mul}
use Rattle.image_bytes.specs.Image.{bytes_of}

pub low_bytes : (word : ℕ) → to_le_bytes w64 word ≡ bytes_of 8 word
unfolding bytes_of
low_bytes word = simp div-div-eq-div-mul
