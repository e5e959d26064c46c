-- Theorems about the definitions of specs/Count.
use Rattle.std.specs.Prelude.{◌≡◌}
use Rattle.std.proofs.Math.Path.{refl, ap}
use Rattle.std.proofs.Common.{◌∙◌, arith}
use Prim.Native.Nat.{ℕ, zero, suc, ◌+◌}
use Rattle.laws.specs.Sum.{sum_none}
use Rattle.theory_forest.specs.Tree.{Tree, leaf, node}
use Rattle.theory_forest.specs.Nodes.{nodes}
use Rattle.theory_tree.specs.Page.{first, child}
use Rattle.theory_tree.specs.Word.{fill_word}
use Rattle.theory_tree.specs.Visit.{Rule, keep, write, down, opened, splits, obey, counted, visit, made, freed, visit_table}
use Rattle.theory_tree.specs.Visit.{made_table, freed_table}
use Rattle.theory_tree.specs.Slots.{fill_slot}
use Rattle.theory_tree.proofs.Slots.{fill_node, fill_slot_lem}
use Rattle.theory_tree.specs.Count.{nodes_leaf, nodes_node, table_balance, total_none}

-- opening an entry adds the table that it makes
nodes-opened : (depth : ℕ) (t : Tree) → nodes (opened depth t) ≡ nodes t + splits t
unfolding opened splits
nodes-opened depth (leaf w) =
    let none = sum_none 512 (λ i. nodes (fill_slot depth w i)) (λ i l. ap nodes (fill_slot_lem depth w i l)
    ∙ nodes_leaf (fill_word depth w i)) in
    ap nodes (fill_node depth w) ∙ nodes_node (fill_slot depth w) ∙ (let z = nodes_leaf w in omega arith)
nodes-opened depth (node f) = omega arith

-- a rule obeyed
obey_balance : (r : Rule) (t u : Tree) (less more : ℕ) → nodes u + less ≡ nodes t + more
    → nodes (obey r t u) + counted r (nodes t) less ≡ nodes t + counted r 0 more
unfolding obey counted
obey_balance keep t u less more e = refl
obey_balance (write x) t u less more e = let z = nodes_leaf x in omega arith
obey_balance down t u less more e = e

counted_none : (r : Rule) → counted r 0 0 ≡ 0
unfolding counted
counted_none keep = refl
counted_none (write x) = refl
counted_none down = refl

module _ (rule : ℕ → ℕ → Tree → Rule) where
  -- nodes after + freed = nodes before + made, whatever the rule and the tree
  pub balance : (depth q : ℕ) (t : Tree) → nodes (visit rule depth q t) + freed rule depth q t ≡ nodes t + made rule depth q t
  unfolding visit made freed
  balance zero q t =
      obey_balance (rule zero (first zero q) t) t t 0 0 refl ∙ ap (λ (x : ℕ). nodes t + x) (counted_none (rule zero (first zero q) t))
  balance (suc depth) q t =
      let table = table_balance (λ i u. visit rule depth (child q i) u) (λ i u. freed rule depth (child q i) u)
      (λ i u. made rule depth (child q i) u)
      (λ i u. balance depth (child q i) u) (opened depth t) in
      let new = nodes-opened depth t in
      obey_balance (rule (suc depth) (first (suc depth) q) t) t _ _ _ (omega arith)

  pub table-count : (depth q : ℕ) (t : Tree)
      → nodes (visit_table rule depth q t) + freed_table rule depth q t ≡ nodes t + made_table rule depth q t
  unfolding visit_table freed_table made_table
  table-count depth q t =
      table_balance (λ i u. visit rule depth (child q i) u) (λ i u. freed rule depth (child q i) u) (λ i u. made rule depth (child q i) u)
      (λ i u. balance depth (child q i) u) t

  -- ---- a rule that never writes over a table frees nothing

  module _ (never : (depth b : ℕ) (f : ℕ → Tree) (x : ℕ) → rule depth b (node f) ≡ write x → ⊥) where
    counted-below : (depth b : ℕ) (t : Tree) (below : ℕ) → below ≡ 0 → counted (rule depth b t) (nodes t) below ≡ 0
    unfolding counted
    counted-below depth b (leaf w) below z = go (rule depth b (leaf w))
      where
        go : (r : Rule) → counted r (nodes (leaf w)) below ≡ 0
        go keep = refl
        go (write x) = nodes_leaf w
        go down = z
    counted-below depth b (node f) below z = go (rule depth b (node f)) refl
      where
        go : (r : Rule) → rule depth b (node f) ≡ r → counted r (nodes (node f)) below ≡ 0
        go keep e = refl
        go (write x) e = absurd (never depth b f x e)
        go down e = z

    pub frees_none : (depth q : ℕ) (t : Tree) → freed rule depth q t ≡ 0
    unfolding freed
    frees_none zero q t = counted-below zero (first zero q) t 0 refl
    frees_none (suc depth) q t =
        counted-below (suc depth) (first (suc depth) q) t _
        (total_none (λ i u. freed rule depth (child q i) u) (λ i u. frees_none depth (child q i) u) (opened depth t))

    pub table_frees_none : (depth q : ℕ) (t : Tree) → freed_table rule depth q t ≡ 0
    unfolding freed_table
    table_frees_none depth q t = total_none (λ i u. freed rule depth (child q i) u) (λ i u. frees_none depth (child q i) u) t
