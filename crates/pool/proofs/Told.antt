-- A refusal is written in two parts: what all have, and what each carries.
use Rattle.std.specs.Prelude.{List, ◌++◌, ◌≡◌, ℕ, codes, decimal}
use Rattle.std.specs.Fmt.{HasWritten, IsPlainFormatter}
use Rattle.std.specs.declared.fmt.Formatter.{Formatter}
use Rattle.std.proofs.Common.{ap₂, append_assoc}
use Rattle.std.proofs.Output.{has_written_append, has_written_of_eq}
use Rattle.pool.specs.Refuse.{number}
use Rattle.pool.specs.Words.{meaning, carried_text, refusal_text}
use Rattle.pool.specs.declared.Refusal.{Refusal}

-- what all have
abbrev opening : ℕ → List ℕ → List ℕ
opening n words = codes "refused " ++ (decimal n ++ (codes ": " ++ words))

parts : (r : Refusal) → opening (number r) (meaning r) ++ carried_text r ≡ refusal_text r
parts r = simp append_assoc

module _ {W : Type 0} (took : W → List ℕ → W → Type 0) {f g h : Formatter W} (r : Refusal) where
  pub told : {n : ℕ} {words carries : List ℕ} → n ≡ number r → words ≡ meaning r → carries ≡ carried_text r
      → HasWritten took f (opening n words) g → (IsPlainFormatter g → HasWritten took g carries h) → HasWritten took f (refusal_text r) h
  told n words carries first last =
      has_written_of_eq took f _ _ h (parts r)
      (has_written_append took f _ g _ h (has_written_of_eq took f _ _ g (ap₂ opening n words) first)
      (has_written_of_eq took g _ _ h carries (last first.plain)))
