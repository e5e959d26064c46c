-- What maps without VALID may cost, computed on trees (root level 1, lower: two levels below the root's own, root number 0): the order of
-- maps shows, and an unmap takes tables. The starred cases stand in `theory_cases`.
use Rattle.std.specs.Prelude.{◌≡◌, true, List, [], ◌∷◌, ℕ}
use Rattle.theory_forest.specs.Tree.{Tree, leaf, node}
use Rattle.theory_forest.specs.Nodes.{nodes}
use Rattle.theory_tree.specs.Rules.{Map}
use Rattle.theory_tree.specs.Root.{map_made}
use Rattle.theory_tree.specs.Order.{run}

-- a map in pages, blocks allowed
abbrev pub map_in_pages : ℕ → ℕ → ℕ → ℕ → Map
map_in_pages from upto frame flags = record { from = from; upto = upto; frame = frame; flags = flags; blocks = true }

unfoldable pub fresh_tree : Tree
fresh_tree = node (λ i. leaf 0)

-- a fresh tree after some maps, and how many tables one more takes
unfoldable pub maps_of : List Map → Tree
maps_of ms = run 2 0 ms fresh_tree

unfoldable pub takes : List Map → Map → ℕ
takes ms m = map_made 2 0 m (maps_of ms)

-- Q-13's case: without VALID the order shows in the tables. X maps page 0; Y, flags 0, is page 513 to frame 513. Y first finds its hole by
-- rule 2, after X's split it does not.
abbrev X : Map
X = map_in_pages 0 1 9 0x401

abbrev Y : Map
Y = map_in_pages 513 514 513 0

pub record OrderShows : Type 0 where
  pub first : nodes (maps_of (Y ∷ X ∷ [])) ≡ 3
  pub last : nodes (maps_of (X ∷ Y ∷ [])) ≡ 4
