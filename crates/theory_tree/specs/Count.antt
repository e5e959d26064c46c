-- Tables: after a visit there are as many as before, more by those that it makes and fewer by those that it frees.
use Rattle.std.specs.Prelude.{◌≡◌}
use Rattle.std.proofs.Math.Path.{refl, ap}
use Rattle.std.proofs.Common.{◌∙◌, arith}
use Prim.Native.Nat.{ℕ, suc, ◌+◌}
use Rattle.laws.specs.Sum.{sum, sum_ext, sum_none, sum-add}
use Rattle.theory_forest.specs.Tree.{Tree, leaf, node, each_slot}
use Rattle.theory_forest.specs.Nodes.{nodes}
use Rattle.theory_tree.specs.Visit.{total}
use Rattle.theory_tree.specs.Slots.{each_node, each_leaf, slot_after_lem, slot_after}

pub nodes_leaf : (w : ℕ) → nodes (leaf w) ≡ 0
unfolding nodes
nodes_leaf w = refl

pub nodes_node : (f : ℕ → Tree) → nodes (node f) ≡ suc (sum 512 (λ i. nodes (f i)))
unfolding nodes
nodes_node f = refl

pub nodes-each : (h : ℕ → Tree → Tree) (f : ℕ → Tree) → nodes (each_slot h (node f)) ≡ suc (sum 512 (λ i. nodes (h i (f i))))
nodes-each h f =
    ap nodes (each_node h f) ∙ nodes_node (slot_after h f)
    ∙ ap suc (sum_ext 512 (λ i. nodes (slot_after h f i)) (λ i. nodes (h i (f i))) (λ i l. ap nodes (slot_after_lem h f i l)))

-- slot by slot
pub table_balance : (h : ℕ → Tree → Tree) (less more : ℕ → Tree → ℕ) → ((i : ℕ) (u : Tree) → nodes (h i u) + less i u ≡ nodes u + more i u)
    → (t : Tree) → nodes (each_slot h t) + total less t ≡ nodes t + total more t
unfolding total
table_balance h less more each (leaf w) = ap (λ (x : ℕ). x + 0) (ap nodes (each_leaf h w))
table_balance h less more each (node f) =
    let a = nodes-each h f in
    let b = nodes_node f in
    let c = sum-add 512 (λ i. nodes (h i (f i))) (λ i. less i (f i)) in
    let d = sum-add 512 (λ i. nodes (f i)) (λ i. more i (f i)) in
    let e = sum_ext 512 (λ i. nodes (h i (f i)) + less i (f i)) (λ i. nodes (f i) + more i (f i)) (λ i l. each i (f i)) in
    omega arith

pub total_none : (h : ℕ → Tree → ℕ) → ((i : ℕ) (u : Tree) → h i u ≡ 0) → (t : Tree) → total h t ≡ 0
unfolding total
total_none h each (leaf w) = refl
total_none h each (node f) = sum_none 512 (λ i. h i (f i)) (λ i l. each i (f i))
