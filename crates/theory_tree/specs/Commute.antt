-- Two VALID maps that share no page: both orders leave the same tree.
use Prim.Native.Nat.{ℕ, ◌≤◌, ◌<◌}
use Rattle.theory_tree.specs.Rules.{Map}

-- the regions share no page
abbrev pub Apart : Map → Map → Type 0
Apart m n = (page : ℕ) → m.from ≤ page → page < m.upto → n.from ≤ page → page < n.upto → ⊥

pub apart_flip : (m n : Map) → Apart m n → Apart n m
apart_flip m n apart page p q r s = apart page r s p q
