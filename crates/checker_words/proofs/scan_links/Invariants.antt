use mathlib.Core.Path.{◌≡◌}
use Prim.Native.Nat.{◌≤◌}
use lib.ListN.{take}
use Rattle.checker_words.specs.Words.{leaves, links as linksIn}
use Rattle.checker_words.proofs.scan_links.Given as goal

abbrev pub invariant-loop-word : goal.invariant-loop-word
invariant-loop-word l =
    (l.links ≤ l.word-index) × (l.any ≡ leaves (take l.word-index l.run)) × (l.links ≡ linksIn (take l.word-index l.run))
