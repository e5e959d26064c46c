-- The number that a word says.
use Rattle.std.specs.Prelude.{ℕ, ◌+◌, ◌-◌, ◌*◌, ◌^◌, Bool, ◌&&◌, ◌||◌, cond, nat_le, ◌==◌}
use Rattle.std.specs.Prelude.{length, drop, slice_index}
use Rattle.std.specs.Prelude.{Option, Some, None, Result, Ok, Err, List, [], ◌∷◌}
use Rattle.text_words.specs.declared.number.NumberError.{NumberError}
use Rattle.text_words.specs.declared.number.NumberError.TheVariants.{TooLarge, NoNumber}

-- a byte from one up to another
abbrev pub within : ℕ → ℕ → ℕ → Bool
within least most b = nat_le least b && nat_le b most

-- the value of a digit: 0 to 9, a to f, A to F
abbrev pub digit_of : ℕ → Option ℕ
digit_of b =
    cond (within 48 57 b) (Some (b - 48))
    (cond (within 97 102 b) (Some (b - 87))
    (cond (within 65 70 b) (Some (b - 55))
    None))

-- a number with one more digit of its base
abbrev pub with_digit : ℕ → ℕ → Option ℕ → Result ℕ NumberError
with_digit base n None = Err NoNumber
with_digit base n (Some d) =
    cond (nat_le base d) (Err NoNumber)
    (cond (nat_le (2 ^ 64) (n * base + d)) (Err TooLarge)
    (Ok (n * base + d)))

-- a number with one more byte: an underscore, byte 95, is passed over
abbrev pub with_byte : ℕ → ℕ → ℕ → Result ℕ NumberError
with_byte base n b = cond (b == 95) (Ok n) (with_digit base n (digit_of b))

-- what comes of a number, or the error in its place
abbrev pub on_ok : (ℕ → Result ℕ NumberError) → Result ℕ NumberError → Result ℕ NumberError
on_ok next (Ok n) = next n
on_ok next (Err e) = Err e

-- a number with more bytes, the first one first
unfoldable pub number_from : ℕ → ℕ → List ℕ → Result ℕ NumberError
number_from base n [] = Ok n
number_from base n (b ∷ bs) = on_ok (λ m. number_from base m bs) (with_byte base n b)

-- a word that says no number: the empty one, and one that begins with an underscore
abbrev pub says_none : List ℕ → Bool
says_none w = length w == 0 || slice_index w 0 == 95

-- a word that says a hexadecimal number: something stands behind 0x, bytes 48 and 120
abbrev pub says_hexadecimal : List ℕ → Bool
says_hexadecimal w = nat_le 3 (length w) && (slice_index w 0 == 48 && slice_index w 1 == 120)

-- the number that a word says
abbrev pub number_of : List ℕ → Result ℕ NumberError
number_of w =
    cond (says_none w) (Err NoNumber)
    (cond (says_hexadecimal w) (number_from 16 0 (drop 2 w))
    (number_from 10 0 w))
