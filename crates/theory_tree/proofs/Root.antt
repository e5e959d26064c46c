-- Theorems about the definitions of specs/Root.
use Rattle.std.specs.Prelude.{◌≡◌, true, ℕ, suc, ◌+◌}
use Rattle.std.proofs.Common.{arith}
use Rattle.entry.specs.Word.{valid}
use Rattle.theory_forest.specs.Tree.{Tree}
use Rattle.theory_forest.specs.Nodes.{nodes}
use Rattle.theory_tree.specs.Page.{In}
use Rattle.theory_tree.specs.Walk.{seen}
use Rattle.theory_tree.proofs.Count.{table-count, table_frees_none}
use Rattle.theory_tree.specs.Shown.{FineTable}
use Rattle.theory_tree.proofs.Shown.{fine_table, seen-table}
use Rattle.theory_tree.specs.Rules.{Map, Given, map_rule}
use Rattle.theory_tree.proofs.Rules.{rule_keeps_table}
use Rattle.theory_tree.specs.After.{after}
use Rattle.theory_tree.proofs.After.{map_shows}
use Rattle.theory_tree.specs.Commute.{Apart}
use Rattle.theory_tree.proofs.Commute.{commute_table}
use Rattle.theory_tree.specs.Root.{map_tree, map_made, map_freed}

module _ (depth r : ℕ) where
  pub map_fine : (m : Map) → Given m → (t : Tree) → FineTable depth t → FineTable depth (map_tree depth r m t)
  unfolding map_tree
  map_fine m G t fine = fine_table (map_shows m G) depth r t fine

  pub map-seen : (m : Map) → Given m → (t : Tree) → FineTable depth t → (page : ℕ) → In (suc depth) r page
      → seen (suc depth) (map_tree depth r m t) page ≡ after m page (seen (suc depth) t page)
  unfolding map_tree
  map-seen m G t fine page at = seen-table (map_shows m G) depth r t page fine at

  pub map-count : (m : Map) (t : Tree) → nodes (map_tree depth r m t) + map_freed depth r m t ≡ nodes t + map_made depth r m t
  unfolding map_tree map_made map_freed
  map-count m t = table-count (map_rule m) depth r t

  pub valid_frees_none : (m : Map) → valid m.flags ≡ true → (t : Tree) → map_freed depth r m t ≡ 0
  unfolding map_freed
  valid_frees_none m v t = table_frees_none (map_rule m) (λ k b f x. rule_keeps_table m v k b f x) depth r t

  pub valid_grows : (m : Map) → valid m.flags ≡ true → (t : Tree) → nodes (map_tree depth r m t) ≡ nodes t + map_made depth r m t
  valid_grows m v t = omega (arith, map-count m t, valid_frees_none m v t)

  pub map_commute : (m n : Map) → Apart m n → valid m.flags ≡ true → valid n.flags ≡ true → (t : Tree) → FineTable depth t
      → map_tree depth r m (map_tree depth r n t) ≡ map_tree depth r n (map_tree depth r m t)
  unfolding map_tree
  map_commute m n apart vm vn t fine = commute_table m n apart vm vn depth r t fine
