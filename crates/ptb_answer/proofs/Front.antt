-- Values over the front of a list: they, and what stood after as many.
use Rattle.std.proofs.Common.{◌≡◌, refl, ap, List, [], ◌∷◌, ◌++◌, ℕ, ◌≤◌, length, drop, arith}
use Rattle.ptb_answer.specs.Answer.{over_front}

pub front : (values old : List ℕ) → length values ≤ length old → values ++ drop (length values) old ≡ over_front values old
unfolding over_front
front [] old h = refl
front (v ∷ vs) [] h = absurd (omega arith)
front (v ∷ vs) (x ∷ old) h = ap (λ (l : List ℕ). v ∷ l) (front vs old (omega arith))
