-- What is left of the digits, from the number so far, says what all say.
use Rattle.std.proofs.Common.{◌≡◌, drop}
use Rattle.text_words.specs.Says.{number_from}
use Rattle.text_words.proofs.number.number_in.Given as goal

abbrev pub invariant-loop-byte : goal.invariant-loop-byte
invariant-loop-byte l = number_from l.base l.number (drop l.byte-index l.digits) ≡ number_from l.base 0 l.digits
