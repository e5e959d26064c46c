-- Any number of maps in any order (Q-13); demand 3 is the case of two.
use Rattle.std.specs.Prelude.{◌≡◌, true, ℕ, ◌+◌, ◌-◌, ◌≤◌}
use Rattle.std.proofs.Common.{subst, subst₂}
use mathlib.Core.List.{List, [], ◌∷◌, Permᴰ}
use Rattle.entry.specs.Word.{valid}
use Rattle.theory_forest.specs.Tree.{Tree}
use Rattle.theory_forest.specs.Nodes.{nodes}
use Rattle.theory_tree.specs.Walk.{Seen}
use Rattle.theory_tree.specs.Rules.{Map, Given}
use Rattle.theory_tree.specs.After.{after}
use Rattle.theory_tree.specs.Commute.{Apart, apart_flip}
use Rattle.theory_tree.specs.Root.{map_tree, map_made}

-- ns is a reordering of ms
abbrev pub Reorders : {A : Type 0} → List A → List A → Type 0
Reorders ms ns = Permᴰ ms ns

-- a fact of every item of a list
abbrev pub Each : {A : Type 0} → (A → Type 0) → List A → Type 0
Each P [] = Unit {0}
Each P (m ∷ ms) = P m × Each P ms

-- a fact of every two of them
abbrev pub Pairs : {A : Type 0} → (A → A → Type 0) → List A → Type 0
Pairs R [] = Unit {0}
Pairs R (m ∷ ms) = Each (R m) ms × Pairs R ms

-- no two maps share a page
abbrev pub Pairwise : List Map → Type 0
Pairwise ms = Pairs Apart ms

-- a map that may be given, with VALID
pub record ValidMap (m : Map) : Type 0 where
  pub given : Given m
  pub valid : valid m.flags ≡ true

-- ---- a reordering keeps what is asked of a list

pub each_reorders : {A : Type 0} (P : A → Type 0) {ms ns : List A} → Reorders ms ns → Each P ms → Each P ns
each_reorders P Permᴰ.nil h = h
each_reorders P (Permᴰ.cons e d) h = (subst P e h.0, each_reorders P d h.1)
each_reorders P (Permᴰ.swap p q) h = (subst P q h.1.0, (subst P p h.0, h.1.1))
each_reorders P (Permᴰ.trans c d) h = each_reorders P d (each_reorders P c h)

pub pairs_reorders : {A : Type 0} (R : A → A → Type 0) → ((m n : A) → R m n → R n m) → {ms ns : List A} → Reorders ms ns → Pairs R ms
    → Pairs R ns
pairs_reorders R flip Permᴰ.nil h = h
pairs_reorders R flip (Permᴰ.cons {a = a} {l₂ = k} e d) h =
    (subst (λ m. Each (R m) k) e (each_reorders (R a) d h.0), pairs_reorders R flip d h.1)
pairs_reorders R flip (Permᴰ.swap {a = a} {b = b} {l = k} p q) h =
    ((subst₂ R q p (flip a b h.0.0), subst (λ m. Each (R m) k) q h.1.0), (subst (λ m. Each (R m) k) p h.0.1, h.1.1))
pairs_reorders R flip (Permᴰ.trans c d) h = pairs_reorders R flip d (pairs_reorders R flip c h)

pub pairwise_reorders : {ms ns : List Map} → Reorders ms ns → Pairwise ms → Pairwise ns
pairwise_reorders reorders apart = pairs_reorders Apart apart_flip reorders apart

-- ---- what a page shows after the maps of a list

unfoldable pub afters : List Map → ℕ → Seen → Seen
afters [] page old = old
afters (m ∷ ms) page old = afters ms page (after m page old)

-- ---- a list of calls on a root's tree

module _ (depth r : ℕ) where
  -- the maps of a list, one after the other
  unfoldable pub run : List Map → Tree → Tree
  run [] t = t
  run (m ∷ ms) t = run ms (map_tree depth r m t)

  -- refusal 9 is given to none of them, in a pool of n tables
  abbrev pub RoomFor : ℕ → List Map → Tree → Type 0
  RoomFor n [] t = Unit {0}
  RoomFor n (m ∷ ms) t = (map_made depth r m t ≤ n - nodes t) × RoomFor n ms (map_tree depth r m t)

  -- the new tables of a list, want of room aside
  unfoldable pub made_all : List Map → Tree → ℕ
  made_all [] t = 0
  made_all (m ∷ ms) t = map_made depth r m t + made_all ms (map_tree depth r m t)
