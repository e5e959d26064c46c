-- Theorems about the definitions of specs/Cases.
use Rattle.std.specs.Prelude.{◌≡◌, refl, [], ◌∷◌}
use Rattle.laws.specs.Sum.{sum}
use Rattle.entry.specs.Word.{flags_of, valid}
use Rattle.theory_forest.specs.Tree.{each_slot}
use Rattle.theory_forest.specs.Nodes.{nodes}
use Rattle.theory_tree.specs.Page.{pages_in, first, child}
use Rattle.theory_tree.specs.Word.{frame_in, page_bit, leaf_word_of, fill_word}
use Rattle.theory_tree.specs.Visit.{fill_tree, opened, splits, total, obey, counted, visit, made, visit_table, made_table}
use Rattle.theory_tree.specs.Rules.{Map, meets, whole, frame_at, same, fits, drops, map_rule}
use Rattle.theory_tree.specs.Root.{map_tree, map_made}
use Rattle.theory_tree.specs.Order.{run}
use Rattle.theory_tree.specs.Cases.{map_in_pages, fresh_tree, maps_of, takes, OrderShows}

-- what a map on trees computes with: to unfold this is to unfold all that its line names
unfoldable mapping : Unit {0}
unfolding fresh_tree maps_of run each_slot sum pages_in first child valid frame_in page_bit leaf_word_of fill_word flags_of fill_tree opened obey visit
    visit_table meets whole frame_at same fits drops map_rule map_tree
mapping = tt

-- pages 1 and 2, mapped
abbrev B : Map
B = map_in_pages 1 3 9 0x401

pub order_shows : OrderShows
unfolding mapping nodes
order_shows = record { first = refl; last = refl }

-- an unmap takes tables where its frame is not aligned to a block: over a table none, once more over the hole that it left 513
abbrev U : Map
U = map_in_pages 0 0x4_0000 1 0

pub unmap_twice : (takes (B ∷ []) U ≡ 0) × (takes (B ∷ U ∷ []) U ≡ 513)
unfolding mapping takes splits total counted made made_table map_made
unmap_twice = (refl, refl)
