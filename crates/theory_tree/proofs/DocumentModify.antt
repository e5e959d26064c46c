-- Theorems about the definitions of specs/DocumentModify.
use Rattle.std.specs.Prelude.{◌≡◌}
use Rattle.std.proofs.Math.Path.{refl}
use Rattle.std.proofs.Math.Bool.{false}
use Prim.Native.Nat.{ℕ, zero, suc, ◌≤◌}
use Rattle.region.specs.Region.{region}
use Rattle.theory_forest.specs.Tree.{Tree, leaf, node}
use Rattle.theory_tree.specs.Page.{pages_in, first}
use Rattle.theory_tree.specs.Chunks.{Inside, chunked_table}
use Rattle.theory_tree.proofs.Sweep.{RulesSay, table_is}
use Rattle.theory_tree.specs.Document.{meets_is}
use Rattle.theory_tree.proofs.Document.{whole_is}
use Rattle.theory_tree.specs.Needed.{needed_table}
use Rattle.theory_tree.proofs.Needed.{table-needed}
use Rattle.theory_tree.specs.Modify.{modify_rule, modify_tree, modify_made}
use Rattle.theory_tree.proofs.Modify.{modify_local}
use Rattle.theory_tree.specs.DocumentModify.{document_modify, modify_pages}

module _ (set clear : ℕ) where
  modify_says : RulesSay (modify_local set clear) (document_modify set clear) 0 false
  unfolding document_modify modify_rule
  modify_says zero q s e p (leaf w) low some I = rw (meets_is zero q s e p 0 false low some I)
  modify_says zero q s e p (node f) low some I = refl
  modify_says (suc depth) q s e p (leaf w) low some I =
      rw (meets_is (suc depth) q s e p 0 false low some I, whole_is (suc depth) q s e p 0 false low some I)
  modify_says (suc depth) q s e p (node f) low some I = rw (meets_is (suc depth) q s e p 0 false low some I)

  module _ (depth r start end : ℕ) (f : ℕ → Tree) (low : depth ≤ 3)
      (inside : Inside (first (suc depth) r) (pages_in (suc depth)) start end 0) where
    -- THE DOCUMENT'S LOOP IS THE MODIFY ON TREES
    pub document_modifies : chunked_table (document_modify set clear) depth (region start end) 0 (node f)
        ≡ modify_tree depth r (modify_pages set clear start end) (node f)
    unfolding modify_tree
    document_modifies = table_is (modify_local set clear) (document_modify set clear) 0 false modify_says depth r start end 0 f low inside

    pub document_modify_needs : needed_table (document_modify set clear) depth (region start end) 0 (node f)
        ≡ modify_made depth r (modify_pages set clear start end) (node f)
    unfolding modify_made
    document_modify_needs = table-needed (modify_local set clear) (document_modify set clear) 0 false modify_says depth r start end 0 f low inside
