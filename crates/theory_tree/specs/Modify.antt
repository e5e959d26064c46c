-- Modify on trees (document 01, "Putting down a map", Modify): valid blocks and pages of the region get their flags edited, a table's word
-- never; a partly covered entry is split first, hole or not.
use Rattle.std.specs.Prelude.{◌≡◌, true, cond}
use Rattle.std.proofs.Math.Path.{ap}
use Rattle.std.proofs.Common.{sym, ◌∙◌}
use Rattle.std.proofs.Math.Bool.{false}
use Prim.Native.Nat.{ℕ, zero, suc}
use native.Mathlib.Omega.{arith}
use Rattle.laws.specs.Test.{by_bool}
use Rattle.entry.specs.Word.{valid, Plain, edited}
use Rattle.theory_forest.specs.Tree.{Tree, leaf, node}
use Rattle.theory_tree.specs.Page.{span-zero, first, In, in_from}
use Rattle.theory_tree.specs.Fine.{Fine}
use Rattle.theory_tree.specs.Walk.{Seen, mapped, hole, seen, seen_in, seen_leaf, seen_fine}
use Rattle.theory_tree.specs.Visit.{Rule, keep, write, down, visit_table, made_table}
use Rattle.theory_tree.specs.Shown.{FineTree, Good, Right, Shows}
use Rattle.theory_tree.specs.Rules.{Map, meets, whole, page_in}
use Rattle.theory_tree.specs.After.{covers, yes_covers, off_out, whole_in}
use Rattle.theory_tree.specs.Edit.{edited_frame, edited_plain, edited-valid, fine_edited}

-- a call of modify: the pages from `from` up to `upto`, the bits to set and to clear
pub record Modify : Type 0 where
  pub from : ℕ
  pub upto : ℕ
  pub set : ℕ
  pub clear : ℕ

-- what the refusals leave of a call
pub record GivenModify (e : Modify) : Type 0 where
  pub set : Plain e.set
  pub clear : Plain e.clear

-- the region of a modify as a map's; no more than the region is read
abbrev pub pages_of : Modify → Map
pages_of e = record { from = e.from; upto = e.upto; frame = 0; flags = 0; blocks = false }

module _ (set clear : ℕ) where
  -- what is done with a word that lies in the region
  unfoldable pub edit_rule : ℕ → Rule
  edit_rule w = cond (valid w) (write (edited set clear w)) keep

  unfoldable pub modify_rule : Map → ℕ → ℕ → Tree → Rule
  modify_rule m zero b (leaf w) = cond (meets zero b m) (edit_rule w) keep
  modify_rule m zero b (node f) = keep
  modify_rule m (suc depth) b (leaf w) = cond (meets (suc depth) b m) (cond (whole (suc depth) b m) (edit_rule w) down) keep
  modify_rule m (suc depth) b (node f) = cond (meets (suc depth) b m) down keep

  -- what a page of the region shows: the same frame with the flags edited, a hole where that clears VALID; a hole stays as it is
  unfoldable pub changed : Seen → Seen
  changed (mapped f p) = cond (valid (edited set clear f)) (mapped (edited set clear f) p) (hole (edited set clear f))
  changed (hole f) = hole f

  unfoldable pub after_modify : Map → ℕ → Seen → Seen
  after_modify m page old = cond (covers m page) (changed old) old

  -- ---- what is written, and what is seen

  module _ (S : Plain set) (C : Plain clear) where
    edit_good : (depth w : ℕ) → Fine depth w → Good depth (edit_rule w)
    unfolding edit_rule
    edit_good depth w fine = by_bool (valid w) (λ v. rw v (fine_edited set clear S C depth w fine v)) (λ v. rw v tt)

    edit_seen : (depth w page : ℕ) → Fine depth w → valid w ≡ true
        → seen_in depth (edited set clear w) page ≡ changed (seen_in depth w page)
    unfolding changed
    edit_seen depth w page fine v =
        seen_fine depth (edited set clear w) page (fine_edited set clear S C depth w fine v)
        ∙ rw (
          seen_fine depth w page fine,
          v,
          edited_plain set clear S C w fine.wide,
          edited_frame set clear S C w fine.wide,
          ← edited-valid set clear S C w fine.wide,
        )

    hole_seen : (depth w page : ℕ) → Fine depth w → valid w ≡ false → seen_in depth w page ≡ changed (seen_in depth w page)
    unfolding changed
    hole_seen depth w page fine v = rw (seen_fine depth w page fine, v)

    module _ (m : Map) where
      in_region : (depth page : ℕ) (t : Tree) → covers m page ≡ true → changed (seen depth t page) ≡ after_modify m page (seen depth t page)
      unfolding after_modify
      in_region depth page t c = rw c

      out_of_region : (depth page : ℕ) (t : Tree) → covers m page ≡ false → seen depth t page ≡ after_modify m page (seen depth t page)
      unfolding after_modify
      out_of_region depth page t c = rw c

      -- a word in the region
      edit_right : (depth w page : ℕ) → Fine depth w → covers m page ≡ true → Right (after_modify m) depth (leaf w) page (edit_rule w)
      unfolding edit_rule
      edit_right depth w page fine c = by_bool (valid w)
          (λ v. rw v (edit_seen depth w page fine v ∙ ap changed (sym (seen_leaf depth w page)) ∙ in_region depth page (leaf w) c))
          (λ v. rw v
          (seen_leaf depth w page ∙ hole_seen depth w page fine v ∙ ap changed (sym (seen_leaf depth w page))
          ∙ in_region depth page (leaf w) c))

      modify_good : (depth q : ℕ) (t : Tree) → FineTree depth t → Good depth (modify_rule m depth (first depth q) t)
      unfolding modify_rule
      modify_good zero q (leaf w) fine = by_bool (meets zero (first zero q) m) (λ e. rw e (edit_good zero w fine)) (λ e. rw e tt)
      modify_good zero q (node f) fine = tt
      modify_good (suc depth) q (leaf w) fine =
          let b : ℕ = first (suc depth) q in
          by_bool (meets (suc depth) b m)
          (λ e. by_bool (whole (suc depth) b m) (λ k. rw (e, k) (edit_good (suc depth) w fine)) (λ k. rw (e, k) tt))
          (λ e. rw e tt)
      modify_good (suc depth) q (node f) fine = by_bool (meets (suc depth) (first (suc depth) q) m) (λ e. rw e tt) (λ e. rw e tt)

      modify_right : (depth q : ℕ) (t : Tree) (page : ℕ) → FineTree depth t → In depth q page
          → Right (after_modify m) depth t page (modify_rule m depth (first depth q) t)
      unfolding modify_rule
      modify_right zero q (leaf w) page fine at =
          let b : ℕ = first zero q in
          by_bool (meets zero b m)
          (λ e. let x = page_in b m e in let y = in_from zero q page at in let z = span-zero in
          rw e (edit_right zero w page fine (yes_covers m page (omega arith) (omega arith))))
          (λ e. rw e (out_of_region zero page (leaf w) (off_out m zero q page at e)))
      modify_right zero q (node f) page fine at = absurd fine
      modify_right (suc depth) q (leaf w) page fine at =
          let b : ℕ = first (suc depth) q in
          by_bool (meets (suc depth) b m)
          (λ e. by_bool (whole (suc depth) b m)
          (λ k. rw (e, k) (edit_right (suc depth) w page fine (whole_in m (suc depth) q page at k)))
          (λ k. rw (e, k) tt))
          (λ e. rw e (out_of_region (suc depth) page (leaf w) (off_out m (suc depth) q page at e)))
      modify_right (suc depth) q (node f) page fine at = by_bool (meets (suc depth) (first (suc depth) q) m)
          (λ e. rw e tt)
          (λ e. rw e (out_of_region (suc depth) page (node f) (off_out m (suc depth) q page at e)))

      pub modify_shows : Shows (modify_rule m) (after_modify m)
      modify_shows = record { good = modify_good; right = modify_right }

-- ---- a call on a root's tree

module _ (depth r : ℕ) where
  unfoldable pub modify_tree : Modify → Tree → Tree
  modify_tree e t = visit_table (modify_rule e.set e.clear (pages_of e)) depth r t

  -- the tables that it takes
  unfoldable pub modify_made : Modify → Tree → ℕ
  modify_made e t = made_table (modify_rule e.set e.clear (pages_of e)) depth r t
