-- Theorems about the definitions of specs/Modify.
use Rattle.std.specs.Prelude.{◌≡◌}
use Rattle.std.proofs.Math.Path.{refl}
use Rattle.std.proofs.Math.Bool.{false}
use Prim.Native.Nat.{ℕ, zero, suc, ◌+◌}
use native.Mathlib.Omega.{arith}
use Rattle.theory_forest.specs.Tree.{Tree, leaf, node}
use Rattle.theory_forest.specs.Nodes.{nodes}
use Rattle.theory_tree.specs.Page.{In}
use Rattle.theory_tree.specs.Walk.{seen}
use Rattle.theory_tree.specs.Visit.{Rule, keep, write, no_write}
use Rattle.theory_tree.proofs.Count.{table-count, table_frees_none}
use Rattle.theory_tree.specs.Shown.{FineTable}
use Rattle.theory_tree.proofs.Shown.{seen-table}
use Rattle.theory_tree.specs.Rules.{Map, meets}
use Rattle.theory_tree.specs.Local.{Agree, Local, agree_meets}
use Rattle.theory_tree.proofs.Local.{agree_whole}
use Rattle.theory_tree.specs.Modify.{Modify, GivenModify, pages_of, modify_rule, after_modify, modify_shows, modify_tree, modify_made}

module _ (set clear : ℕ) where
  -- ---- the rule looks at an entry's own part of the region alone

  modify_off : (m : Map) (depth b : ℕ) (t : Tree) → meets depth b m ≡ false → modify_rule set clear m depth b t ≡ keep
  unfolding modify_rule
  modify_off m zero b (leaf w) e = rw e
  modify_off m zero b (node f) e = refl
  modify_off m (suc depth) b (leaf w) e = rw e
  modify_off m (suc depth) b (node f) e = rw e

  modify_agree : (m n : Map) (depth b : ℕ) (t : Tree) → Agree depth b m n
      → modify_rule set clear m depth b t ≡ modify_rule set clear n depth b t
  unfolding modify_rule
  modify_agree m n zero b (leaf w) a = rw (agree_meets zero b m n a)
  modify_agree m n zero b (node f) a = refl
  modify_agree m n (suc depth) b (leaf w) a = rw (agree_meets (suc depth) b m n a, agree_whole (suc depth) b m n a)
  modify_agree m n (suc depth) b (node f) a = rw (agree_meets (suc depth) b m n a)

  pub modify_local : Local (modify_rule set clear)
  modify_local = record { off = modify_off; agree = modify_agree }

  -- a modify never writes over a table
  modify_keeps_table : (m : Map) (depth b : ℕ) (f : ℕ → Tree) (x : ℕ) → modify_rule set clear m depth b (node f) ≡ write x → ⊥
  unfolding modify_rule
  modify_keeps_table m zero b f x e = no_write false x e
  modify_keeps_table m (suc depth) b f x e = no_write (meets (suc depth) b m) x e

-- ---- a call on a root's tree

module _ (depth r : ℕ) where
  pub modify_seen : (e : Modify) → GivenModify e → (t : Tree) → FineTable depth t → (page : ℕ) → In (suc depth) r page
      → seen (suc depth) (modify_tree depth r e t) page ≡ after_modify e.set e.clear (pages_of e) page (seen (suc depth) t page)
  unfolding modify_tree
  modify_seen e G t fine page at = seen-table (modify_shows e.set e.clear G.set G.clear (pages_of e)) depth r t page fine at

  -- a modify frees nothing
  pub modify_count : (e : Modify) (t : Tree) → nodes (modify_tree depth r e t) ≡ nodes t + modify_made depth r e t
  unfolding modify_tree modify_made
  modify_count e t =
      let rule : ℕ → ℕ → Tree → Rule = modify_rule e.set e.clear (pages_of e) in
      omega (
        arith,
        table-count rule depth r t,
        table_frees_none rule
            (λ k b f x. modify_keeps_table e.set e.clear (pages_of e) k b f x) depth r t,
      )
