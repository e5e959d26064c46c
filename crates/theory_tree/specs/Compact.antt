-- Compact on trees: no empty table is left below the root, and the tables that go are counted. Leans on `compact_tree` of `theory_forest`.
use Rattle.std.specs.Prelude.{◌≡◌, refl, true, false, ℕ, zero, suc, ◌+◌, ◌<◌}
use Rattle.std.proofs.Common.{sym, ap, subst, ◌∙◌, true≢false, arith}
use Rattle.laws.specs.Sum.{sum_none, tally}
use Rattle.laws.specs.Test.{by_bool}
use Rattle.theory_forest.specs.Tree.{Tree, leaf, node, each_slot}
use Rattle.theory_forest.specs.Compact.{empty_tree, squash, compact_tree}
use Rattle.theory_forest.specs.CompactWalk.{empty_slot, not_empty, squash_leaf, squash-drops, squash_stays}
use Rattle.theory_forest.specs.Nodes.{nodes}
use Rattle.theory_tree.specs.Visit.{total}
use Rattle.theory_tree.specs.Slots.{each_node, slot_after_lem}
use Rattle.theory_tree.specs.Count.{nodes_leaf, nodes_node, total_none, table_balance}

-- ---- definitions

-- the tables that go in one slot: those below, and the table itself if that leaves it empty
unfoldable pub gone : (Tree → ℕ) → (Tree → Tree) → Tree → ℕ
gone below rec (leaf w) = 0
gone below rec (node f) = below (node f) + tally (empty_tree (rec (node f)))

-- the tables that go in a table with `depth` levels below its own
unfoldable pub emptied : ℕ → Tree → ℕ
emptied zero t = 0
emptied (suc depth) t = total (λ i u. gone (λ v. emptied depth v) (λ v. compact_tree depth v) u) t

-- no table below this one is empty
abbrev pub Tight : ℕ → Tree → Type 0
Tight zero t = Unit {0}
Tight (suc depth) (leaf w) = Unit {0}
Tight (suc depth) (node f) = (i : ℕ) → i < 512 → (empty_tree (f i) ≡ false) × Tight depth (f i)

-- what is done with a slot
abbrev squashed : ℕ → Tree → Tree
squashed depth u = squash (λ v. compact_tree depth v) u

-- ---- an empty table

-- an empty table is one table
empty_nodes : (c : Tree) → empty_tree c ≡ true → nodes c ≡ 1
empty_nodes (leaf w) e = absurd (true≢false (sym e ∙ not_empty w))
empty_nodes (node f) e = nodes_node f ∙ ap suc (sum_none 512 (λ i. nodes (f i)) (λ i l. ap nodes (empty_slot f e i l) ∙ nodes_leaf 0))

-- ---- TABLES: as many as before, fewer by those that go

slot_count : (depth : ℕ) (u : Tree) → ((f : ℕ → Tree) → nodes (compact_tree depth (node f)) + emptied depth (node f) ≡ nodes (node f))
    → nodes (squashed depth u) + gone (λ v. emptied depth v) (λ v. compact_tree depth v) u ≡ nodes u + 0
unfolding gone tally
slot_count depth (leaf w) ih = ap (λ (v : Tree). nodes v + 0) (squash_leaf (λ v. compact_tree depth v) w)
slot_count depth (node f) ih =
    let b = ih f in
    by_bool (empty_tree (compact_tree depth (node f)))
    (λ e. let one = empty_nodes (compact_tree depth (node f)) e in
    let zero = ap nodes (squash-drops (λ v. compact_tree depth v) f e) ∙ nodes_leaf 0 in
    rw e (omega arith))
    (λ e. let same = ap nodes (squash_stays (λ v. compact_tree depth v) f e) in rw e (omega arith))

pub compact_count : (depth : ℕ) (t : Tree) → nodes (compact_tree depth t) + emptied depth t ≡ nodes t
unfolding compact_tree emptied
compact_count zero t = omega arith
compact_count (suc depth) t =
    let balance : nodes (each_slot (λ i u. squashed depth u) t) + total (λ i u. gone (λ v. emptied depth v) (λ v. compact_tree depth v) u) t
    ≡ nodes t + total (λ i u. 0) t =
    table_balance (λ i u. squashed depth u) (λ i u. gone (λ v. emptied depth v) (λ v. compact_tree depth v) u) (λ i u. 0)
    (λ i u. slot_count depth u (λ f. compact_count depth (node f))) t in
    let none = total_none (λ i u. 0) (λ i u. refl) t in
    omega arith

-- ---- NO EMPTY TABLE IS LEFT below this one

tight_leaf : (depth w : ℕ) → Tight depth (leaf w)
tight_leaf zero w = tt
tight_leaf (suc depth) w = tt

slot_tight : (depth : ℕ) (u : Tree) → ((f : ℕ → Tree) → Tight depth (compact_tree depth (node f)))
    → (empty_tree (squashed depth u) ≡ false) × Tight depth (squashed depth u)
slot_tight depth (leaf w) ih = (
  ap empty_tree (squash_leaf (λ v. compact_tree depth v) w)
      ∙ not_empty w,
  subst (Tight depth) (sym (squash_leaf (λ v. compact_tree depth v) w)) (tight_leaf depth w),
)
slot_tight depth (node f) ih = by_bool (empty_tree (compact_tree depth (node f)))
    (λ e. (
      ap empty_tree (squash-drops (λ v. compact_tree depth v) f e)
          ∙ not_empty 0,
      subst (Tight depth) (sym (squash-drops (λ v. compact_tree depth v) f e)) (tight_leaf depth 0),
    ))
    (λ e. (
      ap empty_tree (squash_stays (λ v. compact_tree depth v) f e)
          ∙ e,
      subst (Tight depth) (sym (squash_stays (λ v. compact_tree depth v) f e)) (ih f),
    ))

pub compact_tight : (depth : ℕ) (t : Tree) → Tight depth (compact_tree depth t)
unfolding compact_tree each_slot
compact_tight zero t = tt
compact_tight (suc depth) (leaf w) = tt
compact_tight (suc depth) (node f) =
    subst (Tight (suc depth)) (sym (each_node (λ i u. squashed depth u) f))
    (λ i l. subst (λ (v : Tree). (empty_tree v ≡ false) × Tight depth v) (sym (slot_after_lem (λ i u. squashed depth u) f i l))
    (slot_tight depth (f i) (λ g. compact_tight depth (node g))))
