use mathlib.Core.Path.{◌≡◌}
use lib.ListN.{take}
use Rattle.checker_words.specs.Words.{union}
use Rattle.checker_words.proofs.scan_free.Given as goal

abbrev pub invariant-loop-word : goal.invariant-loop-word
invariant-loop-word l = (l.any ≡ union (take l.word-index l.run))
