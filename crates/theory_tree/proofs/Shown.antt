-- Theorems about the definitions of specs/Shown.
use Rattle.std.specs.Prelude.{◌≡◌}
use Rattle.std.proofs.Common.{sym, ◌∙◌}
use Rattle.std.proofs.Math.Path.{ap, subst}
use Prim.Native.Nat.{ℕ, zero, suc, ◌<◌}
use Rattle.theory_forest.specs.Tree.{Tree, leaf, node, each_slot}
use Rattle.theory_tree.specs.Page.{first, child, In, slot_of_page, slot_lt, in_child}
use Rattle.theory_tree.specs.Word.{fill_word}
use Rattle.theory_tree.specs.Fine.{Fine}
use Rattle.theory_tree.proofs.Fine.{fine_fill}
use Rattle.theory_tree.specs.Walk.{Seen, seen, seen_leaf, seen_node}
use Rattle.theory_tree.proofs.Walk.{fill_seen}
use Rattle.theory_tree.specs.Visit.{Rule, keep, write, down, opened, obey, visit, visit_table}
use Rattle.theory_tree.specs.Slots.{slot_after, each_node, slot_after_lem, fill_slot}
use Rattle.theory_tree.proofs.Slots.{fill_node, fill_slot_lem}
use Rattle.theory_tree.specs.Shown.{FineTree, FineTable, Good, Right, Shows}

-- ---- a split

pub fine_fill_slots : (depth w : ℕ) → Fine (suc depth) w → (i : ℕ) → i < 512 → FineTree depth (fill_slot depth w i)
fine_fill_slots depth w fine i l = subst (FineTree depth) (sym (fill_slot_lem depth w i l)) (fine_fill depth w fine i l)

fill_slot_seen : (depth w page : ℕ) → Fine (suc depth) w
    → seen depth (fill_slot depth w (slot_of_page page depth)) page ≡ seen (suc depth) (leaf w) page
fill_slot_seen depth w page fine =
    let i : ℕ = slot_of_page page depth in
    ap (λ (t : Tree). seen depth t page) (fill_slot_lem depth w i (slot_lt page depth))
    ∙ seen_leaf depth (fill_word depth w i) page ∙ fill_seen depth w page fine ∙ sym (seen_leaf (suc depth) w page)

-- ---- the visit

module _ {rule : ℕ → ℕ → Tree → Rule} {new : ℕ → Seen → Seen} (S : Shows rule new) where
  obey_fine : (depth : ℕ) (r : Rule) (t u : Tree) → Good depth r → FineTree depth t → FineTree depth u → FineTree depth (obey r t u)
  unfolding obey
  obey_fine depth keep t u g ft fu = ft
  obey_fine depth (write x) t u g ft fu = g
  obey_fine depth down t u g ft fu = fu

  each_fine : (depth : ℕ) (h : ℕ → Tree → Tree) (f : ℕ → Tree) → ((i : ℕ) → i < 512 → FineTree depth (h i (f i)))
      → FineTree (suc depth) (each_slot h (node f))
  each_fine depth h f each =
      subst (FineTree (suc depth)) (sym (each_node h f)) (λ i l. subst (FineTree depth) (sym (slot_after_lem h f i l)) (each i l))

  -- FINE AGAIN
  pub fine_visit : (depth q : ℕ) (t : Tree) → FineTree depth t → FineTree depth (visit rule depth q t)
  unfolding visit opened
  fine_visit zero q t fine = obey_fine zero (rule zero (first zero q) t) t t (S.good zero q t fine) fine fine
  fine_visit (suc depth) q (leaf w) fine =
      obey_fine (suc depth) (rule (suc depth) (first (suc depth) q) (leaf w)) (leaf w) _ (S.good (suc depth) q (leaf w) fine) fine
      (subst (λ (t : Tree). FineTree (suc depth) (each_slot (λ i u. visit rule depth (child q i) u) t)) (sym (fill_node depth w))
      (each_fine depth (λ i u. visit rule depth (child q i) u) (fill_slot depth w)
      (λ i l. fine_visit depth (child q i) (fill_slot depth w i) (fine_fill_slots depth w fine i l))))
  fine_visit (suc depth) q (node f) fine =
      obey_fine (suc depth) (rule (suc depth) (first (suc depth) q) (node f)) (node f) _ (S.good (suc depth) q (node f) fine) fine
      (each_fine depth (λ i u. visit rule depth (child q i) u) f (λ i l. fine_visit depth (child q i) (f i) (fine i l)))

  pub fine_table : (depth q : ℕ) (t : Tree) → FineTable depth t → FineTable depth (visit_table rule depth q t)
  unfolding visit_table
  fine_table depth q (leaf w) fine = absurd fine
  fine_table depth q (node f) fine =
      subst (FineTable depth) (sym (each_node (λ i u. visit rule depth (child q i) u) f))
      (λ i l. subst (FineTree depth) (sym (slot_after_lem (λ i u. visit rule depth (child q i) u) f i l))
      (fine_visit depth (child q i) (f i) (fine i l)))

  -- a page's slot after the visit of a table
  each_seen : (depth : ℕ) (h : ℕ → Tree → Tree) (f : ℕ → Tree) (page : ℕ)
      → seen depth (h (slot_of_page page depth) (f (slot_of_page page depth))) page
      ≡ new page (seen depth (f (slot_of_page page depth)) page)
      → seen (suc depth) (each_slot h (node f)) page ≡ new page (seen depth (f (slot_of_page page depth)) page)
  each_seen depth h f page below =
      ap (λ (t : Tree). seen (suc depth) t page) (each_node h f) ∙ seen_node depth (slot_after h f) page
      ∙ ap (λ (t : Tree). seen depth t page) (slot_after_lem h f (slot_of_page page depth) (slot_lt page depth)) ∙ below

  obey-seen : (depth : ℕ) (r : Rule) (t u : Tree) (page : ℕ) → Right new (suc depth) t page r
      → seen (suc depth) u page ≡ new page (seen (suc depth) t page)
      → seen (suc depth) (obey r t u) page ≡ new page (seen (suc depth) t page)
  unfolding obey
  obey-seen depth keep t u page right below = right
  obey-seen depth (write x) t u page right below = seen_leaf (suc depth) x page ∙ right
  obey-seen depth down t u page right below = below

  low_seen : (r : Rule) (t : Tree) (page : ℕ) → Right new zero t page r → seen zero (obey r t t) page ≡ new page (seen zero t page)
  unfolding obey
  low_seen keep t page right = right
  low_seen (write x) t page right = seen_leaf zero x page ∙ right
  low_seen down t page right = absurd right

  -- WHAT EACH PAGE SHOWS
  pub seen-visit : (depth q : ℕ) (t : Tree) (page : ℕ) → FineTree depth t → In depth q page
      → seen depth (visit rule depth q t) page ≡ new page (seen depth t page)
  unfolding visit opened
  seen-visit zero q t page fine at = low_seen (rule zero (first zero q) t) t page (S.right zero q t page fine at)
  seen-visit (suc depth) q (leaf w) page fine at =
      let i : ℕ = slot_of_page page depth in
      let h : ℕ → Tree → Tree = λ i u. visit rule depth (child q i) u in
      obey-seen depth (rule (suc depth) (first (suc depth) q) (leaf w)) (leaf w) _ page (S.right (suc depth) q (leaf w) page fine at)
      (ap (λ (t : Tree). seen (suc depth) (each_slot h t) page) (fill_node depth w)
      ∙ each_seen depth h (fill_slot depth w) page
      (seen-visit depth (child q i) (fill_slot depth w i) page (fine_fill_slots depth w fine i (slot_lt page depth))
      (in_child depth q page at))
      ∙ ap (new page) (fill_slot_seen depth w page fine))
  seen-visit (suc depth) q (node f) page fine at =
      let i : ℕ = slot_of_page page depth in
      let h : ℕ → Tree → Tree = λ i u. visit rule depth (child q i) u in
      obey-seen depth (rule (suc depth) (first (suc depth) q) (node f)) (node f) _ page (S.right (suc depth) q (node f) page fine at)
      (each_seen depth h f page (seen-visit depth (child q i) (f i) page (fine i (slot_lt page depth)) (in_child depth q page at))
      ∙ ap (new page) (sym (seen_node depth f page)))

  pub seen-table : (depth q : ℕ) (t : Tree) (page : ℕ) → FineTable depth t → In (suc depth) q page
      → seen (suc depth) (visit_table rule depth q t) page ≡ new page (seen (suc depth) t page)
  unfolding visit_table
  seen-table depth q (leaf w) page fine at = absurd fine
  seen-table depth q (node f) page fine at =
      let i : ℕ = slot_of_page page depth in
      each_seen depth (λ i u. visit rule depth (child q i) u) f page
      (seen-visit depth (child q i) (f i) page (fine i (slot_lt page depth)) (in_child depth q page at))
      ∙ ap (new page) (sym (seen_node depth f page))
