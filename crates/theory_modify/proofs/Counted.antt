-- Theorems about the definitions of specs/Counted.
use Rattle.std.specs.Prelude.{◌≡◌, refl, true, ◌⊎◌, ◌≢◌, length, None}
use Rattle.std.proofs.Math.Path.{sym, ap, ap₂, subst}
use Rattle.std.proofs.Common.{◌∙◌, inl, inr, eq-eqb, ne_eqb}
use Rattle.std.proofs.Math.Bool.{false}
use mathlib.Core.List.{List, [], ◌∷◌, ◌++◌, append-nil}
use Prim.Native.Nat.{ℕ, zero, suc, ◌+◌, ◌-◌, ◌≤◌}
use native.Mathlib.Omega.{arith}
use Rattle.std.proofs.Math.ListN.{length-append}
use Rattle.laws.specs.Test.{by_bool, eq_or}
use Rattle.entry.specs.Word.{kind_of, valid, flags_valid, edited}
use Rattle.entry.specs.declared.Kind.{Kind}
use Rattle.entry.specs.declared.Kind.TheVariants.{Table as table, Block, Page, Hole}
use Rattle.address_slot.specs.Slot.{entry_index}
use Rattle.region.specs.Region.{whole}
use Rattle.region.specs.Chunks.{chunks}
use Rattle.region.specs.Each.{each_of, each_chunk}
use Rattle.region.specs.declared.MemoryRegion.{MemoryRegion}
use Rattle.pool.specs.State.{St}
use Rattle.pool.specs.declared.Handle.{Handle}
use Rattle.map_rules.specs.declared.Map.{Map}
use Rattle.map_rules.specs.Rules.{chunk_map}
use Rattle.map_count_spec.specs.Needed.{slot_below}
use Rattle.modify_entry.specs.declared.Edit.{Edit}
use Rattle.modify_entry.specs.Word.{chunk_edit, edit_word}
use Rattle.modify_survey.specs.declared.Survey.{Survey}
use Rattle.modify_survey.specs.House.{may_change}
use Rattle.modify_survey.specs.Survey.{splits_in, breach, if_block, survey_part, entry_part}
use Rattle.modify_survey.specs.Survey.{survey_whole, survey_entry, survey_chunk, survey_range, entry_whole}
use Rattle.theory_forest.specs.Tree.{Tree, leaf, node}
use Rattle.theory_sound.specs.Codec.{Placed, tree_from}
use Rattle.theory_sound.specs.Step.{Ready}
use Rattle.theory_sound.specs.Slot.{slot_shows}
use Rattle.theory_tree.specs.Page.{child}
use Rattle.theory_tree.specs.Word.{fill_word}
use Rattle.theory_tree.specs.Visit.{fill_tree}
use Rattle.theory_tree.proofs.Visit.{opens_leaf, opens_node}
use Rattle.theory_tree.specs.Fine.{Fine}
use Rattle.theory_tree.proofs.Split.{fill_address}
use Rattle.theory_tree.specs.Needed.{slot_tree}
use Rattle.theory_map.specs.Stand.{Piece}
use Rattle.theory_map.specs.Pieces.{Area, slot_at, Pieces, pieces}
use Rattle.theory_map.specs.Need.{slot_fill}
use Rattle.theory_map.specs.Loop.{slot_of_lem}
use Rattle.theory_modify.specs.Word.{hole_stays, valid-edited}
use Rattle.theory_modify.specs.Pass.{area_of}
use Rattle.theory_modify.specs.Entry.{survey_page, survey_slot}
use Rattle.theory_modify.specs.Numbers.{gathered, changed_number, own_numbers, lower_numbers, table_numbers}
use Rattle.theory_modify.specs.Gathered.{number-changed, number_same, number_hole, own_on, own_here, lower-own, lower_on, leaf_page}
use Rattle.theory_modify.specs.Gathered.{gathered_both, gathered_none}
use Rattle.theory_modify.specs.Counted.{AddsNumbers, valid_block, page_whole}
use Rattle.theory_modify.specs.Found.{by_broken}

-- ---- a split of a hole lists nothing

module _ (set clear : ℕ) where
  fill_hole : (depth w i : ℕ) → suc depth ≤ 3 → valid w ≡ false → valid (fill_word depth w i) ≡ false
  fill_hole depth w i low v = ap valid (fill_address depth w i low ∙ rw v) ∙ flags_valid w ∙ v

  page_number : (c : MemoryRegion) (w : ℕ) → own_numbers set clear 0 c (leaf w) ≡ changed_number set clear c w
  page_number c w = sym (leaf_page set clear c (leaf w))

  pub hole_none : (depth : ℕ) (c : MemoryRegion) (w : ℕ) → suc depth ≤ 3 → valid w ≡ false
      → table_numbers set clear depth c (fill_tree depth w) ≡ []
  unfolding table_numbers
  hole_none zero c w low v =
      gathered_none 0 (own_numbers set clear 0) (chunks 3 c.start.0 c.end.0) (fill_tree 0 w) (λ d.
      let i : ℕ = entry_index 3 d.start.0 in
      ap (own_numbers set clear 0 d) (slot_fill 0 w i (slot_below 3 d.start.0)) ∙ page_number d (fill_word 0 w i)
      ∙ number_hole set clear d (fill_word 0 w i) (fill_hole 0 w i low v))
  hole_none (suc depth) c w low v =
      let cs : List MemoryRegion = chunks (3 - suc depth) c.start.0 c.end.0 in
      ap₂ (λ (a b : List ℕ). a ++ b)
      (gathered_none (suc depth) (lower_numbers set clear (λ d u. table_numbers set clear depth d u) depth) cs (fill_tree (suc depth) w) (λ d.
      let i : ℕ = entry_index (3 - suc depth) d.start.0 in
      let x : ℕ = fill_word (suc depth) w i in
      ap (lower_numbers set clear (λ b u. table_numbers set clear depth b u) depth d)
      (slot_fill (suc depth) w i (slot_below (3 - suc depth) d.start.0))
      ∙ by_bool (whole (3 - suc depth) d)
      (λ e. lower-own set clear (λ b u. table_numbers set clear depth b u) depth d (leaf x) e)
      (λ e. lower_on set clear (λ b u. table_numbers set clear depth b u) depth d (leaf x) e
      ∙ ap (table_numbers set clear depth d) (opens_leaf depth x)
      ∙ hole_none depth d x (omega arith) (fill_hole (suc depth) w i low v))))
      (gathered_none (suc depth) (own_numbers set clear (suc depth)) cs (fill_tree (suc depth) w) (λ d.
      let i : ℕ = entry_index (3 - suc depth) d.start.0 in
      let x : ℕ = fill_word (suc depth) w i in
      ap (own_numbers set clear (suc depth) d) (slot_fill (suc depth) w i (slot_below (3 - suc depth) d.start.0))
      ∙ by_bool (whole (3 - suc depth) d)
      (λ e. own_here set clear depth d (leaf x) e ∙ number_hole set clear d x (fill_hole (suc depth) w i low v))
      (λ e. own_on set clear depth d (leaf x) e)))

breach_broken : (w : ℕ) (v : Survey) → ¬ ((breach w v).broken ≡ None)
unfolding breach
breach_broken w v none = by_broken v.broken (λ old e. cc (rw e at none)) (λ e. cc (rw e at none))

module _ (depth q : ℕ) (m : Map) (f : MemoryRegion → Survey → Survey) (numbers : MemoryRegion → Tree → List ℕ) (t : Tree) where
  abbrev EachAdds : Type 0
  EachAdds = (c : MemoryRegion) (p : ℕ) (v : Survey) → Piece depth (child q (slot_at depth c)) (chunk_map m c p) → (f c v).broken ≡ None
      → AddsNumbers v (f c v) (length (numbers c (slot_tree t (entry_index (3 - depth) c.start.0))))

  fold_adds : EachAdds → (cs : List MemoryRegion) (a p : ℕ) (v : Survey) → Pieces depth q m a p cs → (each_of f cs v).broken ≡ None
      → AddsNumbers v (each_of f cs v) (length (gathered depth numbers cs t))
  unfolding each_of gathered
  fold_adds each [] a p v all ok = record { kept = ok; numbers = omega arith }
  fold_adds each (c ∷ cs) a p v all ok =
      let rest = fold_adds each cs (suc (slot_at depth c)) (p + (c.end.0 - c.start.0)) (f c v) all.1 ok in
      let here = each c p v all.0.piece rest.kept in
      let u : Tree = slot_tree t (entry_index (3 - depth) c.start.0) in
      record {
        kept = here.kept;
        numbers = omega (arith, rest.numbers, here.numbers, length-append (numbers c u) (gathered depth numbers cs t));
      }

  chunks-add : EachAdds → (r : MemoryRegion) (p : ℕ) (v : Survey) → Pieces depth q m 0 p (chunks (3 - depth) r.start.0 r.end.0)
      → (each_chunk (3 - depth) f r v).broken ≡ None
      → AddsNumbers v (each_chunk (3 - depth) f r v) (length (gathered depth numbers (chunks (3 - depth) r.start.0 r.end.0) t))
  unfolding each_chunk
  chunks-add each r p v all ok = fold_adds each (chunks (3 - depth) r.start.0 r.end.0) 0 p v all ok

-- ---- a whole entry

module _ (h : Handle) (level : ℕ) (e : Edit) (w : ℕ) (v : Survey) where
  whole_kept : edit_word level e w ≡ w → (survey_whole h level e w v).broken ≡ None → AddsNumbers v (survey_whole h level e w v) 0
  unfolding survey_whole
  whole_kept same ok =
      let is : survey_whole h level e w v ≡ v = rw (eq-eqb (edit_word level e w) w same) in
      record {
        kept = sym (ap (λ (x : Survey). x.broken) is) ∙ ok;
        numbers = ap (λ (x : Survey). x.numbers) is ∙ (let z : v.numbers ≡ v.numbers + 0 = omega arith in z);
      }

  abbrev more : Survey
  more = record { splits = v.splits; numbers = v.numbers + 1; broken = v.broken }

  whole-one : edit_word level e w ≢ w → (survey_whole h level e w v).broken ≡ None → AddsNumbers v (survey_whole h level e w v) 1
  unfolding survey_whole
  whole-one other ok = by_bool (may_change h w (edit_word level e w))
      (λ may.
      let is : survey_whole h level e w v ≡ more = rw (ne_eqb (edit_word level e w) w other, may) in
      record { kept = sym (ap (λ (x : Survey). x.broken) is) ∙ ok; numbers = ap (λ (x : Survey). x.numbers) is })
      (λ not.
      let is : survey_whole h level e w v ≡ breach w more = rw (ne_eqb (edit_word level e w) w other, not) in
      absurd (breach_broken w more (sym (ap (λ (x : Survey). x.broken) is) ∙ ok)))

-- ---- a part of an entry

module _ (level : ℕ) (c : MemoryRegion) (w : ℕ) (v : Survey) where
  abbrev split : Survey
  split = record { splits = v.splits + splits_in (3 - level) c; numbers = v.numbers; broken = v.broken }

  part_block : kind_of level w ≡ Block → ¬ ((survey_part level c w v).broken ≡ None)
  unfolding survey_part if_block
  part_block k none = breach_broken w split (rw k at none)

  kinds : (k : Kind) → (if_block k (breach w split) split).broken ≡ None → AddsNumbers v (if_block k (breach w split) split) 0
  unfolding if_block
  kinds table ok = record { kept = ok; numbers = omega arith }
  kinds Block ok = absurd (breach_broken w split ok)
  kinds Page ok = record { kept = ok; numbers = omega arith }
  kinds Hole ok = record { kept = ok; numbers = omega arith }

  part_adds : (survey_part level c w v).broken ≡ None → AddsNumbers v (survey_part level c w v) 0
  unfolding survey_part
  part_adds ok = kinds (kind_of level w) ok

-- ---- an entry that is no table

module _ (h : Handle) (e : Edit) (c : MemoryRegion) (w : ℕ) (v : Survey) where
  -- an entry's number is listed if its word changes
  changed_adds : (depth : ℕ) → depth ≤ 3 → Fine depth w → (survey_whole h (3 - depth) (chunk_edit e c) w v).broken ≡ None
      → AddsNumbers v (survey_whole h (3 - depth) (chunk_edit e c) w v) (length (changed_number e.set e.clear c w))
  changed_adds depth low fine ok =
      by_bool (valid w) (λ y. go y (valid-edited (chunk_edit e c) w depth low fine y) (eq_or (edit_word (3 - depth) (chunk_edit e c) w) w))
      (λ n. none (number_hole e.set e.clear c w n) (hole_stays (chunk_edit e c) w (3 - depth) n))
    where
      none : changed_number e.set e.clear c w ≡ [] → edit_word (3 - depth) (chunk_edit e c) w ≡ w
          → AddsNumbers v (survey_whole h (3 - depth) (chunk_edit e c) w v) (length (changed_number e.set e.clear c w))
      none z same =
          subst (λ (xs : List ℕ). AddsNumbers v (survey_whole h (3 - depth) (chunk_edit e c) w v) (length xs)) (sym z)
          (whole_kept h (3 - depth) (chunk_edit e c) w v same ok)

      go : valid w ≡ true → edit_word (3 - depth) (chunk_edit e c) w ≡ edited e.set e.clear w
          → (edit_word (3 - depth) (chunk_edit e c) w ≡ w) ⊎ (edit_word (3 - depth) (chunk_edit e c) w ≢ w)
          → AddsNumbers v (survey_whole h (3 - depth) (chunk_edit e c) w v) (length (changed_number e.set e.clear c w))
      go y is (inl same) = none (number_same e.set e.clear c w y (sym is ∙ same)) same
      go y is (inr other) =
          subst (λ (xs : List ℕ). AddsNumbers v (survey_whole h (3 - depth) (chunk_edit e c) w v) (length xs))
          (sym (number-changed e.set e.clear c w y (λ q. other (is ∙ q))))
          (whole-one h (3 - depth) (chunk_edit e c) w v other ok)

  page_adds : Fine 0 w → whole 3 c ≡ true → (survey_entry h 3 (chunk_edit e c) w v).broken ≡ None
      → AddsNumbers v (survey_entry h 3 (chunk_edit e c) w v) (length (own_numbers e.set e.clear 0 c (leaf w)))
  page_adds fine all ok =
      let is = entry_whole h 3 (chunk_edit e c) w v all in
      subst (λ (xs : List ℕ). AddsNumbers v (survey_entry h 3 (chunk_edit e c) w v) (length xs)) (sym (page_number e.set e.clear c w))
      (subst (λ (x : Survey). AddsNumbers v x (length (changed_number e.set e.clear c w))) is
      (changed_adds 0 (omega arith) fine (ap (λ (x : Survey). x.broken) is ∙ ok)))

  module _ (depth : ℕ) (low : suc depth ≤ 3) (fine : Fine (suc depth) w) where
    abbrev rec : MemoryRegion → Tree → List ℕ
    rec d u = table_numbers e.set e.clear depth d u

    abbrev entry_numbers : Tree → List ℕ
    entry_numbers u = lower_numbers e.set e.clear rec depth c u ++ own_numbers e.set e.clear (suc depth) c u

    leaf_adds : (survey_entry h (3 - suc depth) (chunk_edit e c) w v).broken ≡ None
        → AddsNumbers v (survey_entry h (3 - suc depth) (chunk_edit e c) w v) (length (entry_numbers (leaf w)))
    leaf_adds ok = by_bool (whole (3 - suc depth) c) all part
      where
        level : ℕ
        level = 3 - suc depth

        all : whole (3 - suc depth) c ≡ true
            → AddsNumbers v (survey_entry h (3 - suc depth) (chunk_edit e c) w v) (length (entry_numbers (leaf w)))
        all a =
            let is = entry_whole h level (chunk_edit e c) w v a in
            subst (λ (xs : List ℕ). AddsNumbers v (survey_entry h level (chunk_edit e c) w v) (length xs))
            (sym
            (ap₂ (λ (x y : List ℕ). x ++ y) (lower-own e.set e.clear rec depth c (leaf w) a)
            (own_here e.set e.clear depth c (leaf w) a)))
            (subst (λ (x : Survey). AddsNumbers v x (length (changed_number e.set e.clear c w))) is
            (changed_adds (suc depth) low fine (ap (λ (x : Survey). x.broken) is ∙ ok)))

        part : whole (3 - suc depth) c ≡ false
            → AddsNumbers v (survey_entry h (3 - suc depth) (chunk_edit e c) w v) (length (entry_numbers (leaf w)))
        part a =
            let is = entry_part h level (chunk_edit e c) w v a in
            let kept : (survey_part level c w v).broken ≡ None = ap (λ (x : Survey). x.broken) is ∙ ok in
            let hole : valid w ≡ false =
            by_bool {A = valid w ≡ false} (valid w)
            (λ y. absurd (part_block level c w v (valid_block depth w low fine y) kept))
            (λ n. n) in
            subst (λ (xs : List ℕ). AddsNumbers v (survey_entry h level (chunk_edit e c) w v) (length xs))
            (sym (ap₂ (λ (x y : List ℕ). x ++ y)
            (lower_on e.set e.clear rec depth c (leaf w) a ∙ ap (rec c) (opens_leaf depth w)
            ∙ hole_none e.set e.clear depth c w low hole)
            (own_on e.set e.clear depth c (leaf w) a)))
            (subst (λ (x : Survey). AddsNumbers v x 0) is (part_adds level c w v kept))

module _ {h : Handle} (placed : Placed h) where
  abbrev Counts : ℕ → Type 0
  Counts depth =
      (q k p : ℕ) (e : Edit) (s : St) (v : Survey) → Area depth q (area_of e p) → Ready h s depth k
      → (survey_range depth h s k e v).broken ≡ None
      → AddsNumbers v (survey_range depth h s k e v) (length (table_numbers e.set e.clear depth e.region (tree_from h s depth k)))

  chunk_adds : (depth q k : ℕ) (e : Edit) (s : St) → Ready h s (suc depth) k → Counts depth → (c : MemoryRegion) (p : ℕ) (v : Survey)
      → Piece (suc depth) q (area_of (chunk_edit e c) p)
      → let i = entry_index (3 - suc depth) c.start.0 in
      let x = survey_chunk (λ j n y. survey_range depth h s j n y) h s k (3 - suc depth) e c v in
      x.broken ≡ None
      → AddsNumbers v x
      (length
      (lower_numbers e.set e.clear (λ d u. table_numbers e.set e.clear depth d u) depth c (slot_shows h s (suc depth) k i)
      ++ own_numbers e.set e.clear (suc depth) c (slot_shows h s (suc depth) k i)))
  chunk_adds depth q k e s R counts c p v piece ok =
      survey_slot placed (λ j n y. survey_range depth h s j n y) s k e c v
      (λ (x : Survey) (u : Tree). x.broken ≡ None → AddsNumbers v x (length (numbers u))) depth R
      (λ w fine kept. leaf_adds h e c w v depth (omega (arith, R.low)) fine kept)
      (λ j f ready tree kept. subst (λ (xs : List ℕ). AddsNumbers v (survey_range depth h s j (chunk_edit e c) v) (length xs))
      (sym
      (ap₂ (λ (a b : List ℕ). a ++ b)
      (lower_on e.set e.clear rec depth c (node f) refl ∙ ap (rec c) (opens_node depth f ∙ sym tree))
      (own_on e.set e.clear depth c (node f) refl)
      ∙ append-nil (rec c (tree_from h s depth j))))
      (counts q j p (chunk_edit e c) s v (record { inside = piece.inside; room = piece.room }) ready kept))
      ok
    where
      rec : MemoryRegion → Tree → List ℕ
      rec d u = table_numbers e.set e.clear depth d u

      numbers : Tree → List ℕ
      numbers u = lower_numbers e.set e.clear rec depth c u ++ own_numbers e.set e.clear (suc depth) c u

  -- THE NUMBERS
  pub survey_numbers : (depth : ℕ) → depth ≤ 3 → Counts depth
  unfolding survey_range table_numbers
  survey_numbers zero low q k p e s v area R ok =
      chunks-add 0 q (area_of e p) (survey_chunk (λ j n x. x) h s k 3 e) (own_numbers e.set e.clear 0) (tree_from h s 0 k)
      (λ c y x piece kept. page c y x piece kept) e.region p v (pieces 0 q (area_of e p) low p e.region area) ok
    where
      page : (c : MemoryRegion) (y : ℕ) (x : Survey) → Piece 0 (child q (slot_at 0 c)) (chunk_map (area_of e p) c y)
          → (survey_chunk (λ j n z. z) h s k 3 e c x).broken ≡ None
          → AddsNumbers x (survey_chunk (λ j n z. z) h s k 3 e c x)
          (length (own_numbers e.set e.clear 0 c (slot_tree (tree_from h s 0 k) (entry_index 3 c.start.0))))
      page c y x piece kept =
          subst (λ (u : Tree). AddsNumbers x (survey_chunk (λ j n z. z) h s k 3 e c x) (length (own_numbers e.set e.clear 0 c u)))
          (sym (slot_of_lem h s 0 k (entry_index 3 c.start.0)))
          (survey_page placed (λ j n z. z) s k e c x
          (λ (z : Survey) (u : Tree). z.broken ≡ None → AddsNumbers x z (length (own_numbers e.set e.clear 0 c u))) R
          (λ w fine. page_adds h e c w x fine (page_whole (child q (slot_at 0 c)) (chunk_map (area_of e p) c y) piece)) kept)
  survey_numbers (suc depth) low q k p e s v area R ok =
      let t : Tree = tree_from h s (suc depth) k in
      let cs : List MemoryRegion = chunks (3 - suc depth) e.region.start.0 e.region.end.0 in
      let lower : MemoryRegion → Tree → List ℕ =
      lower_numbers e.set e.clear (λ d u. table_numbers e.set e.clear depth d u) depth in
      let own : MemoryRegion → Tree → List ℕ = own_numbers e.set e.clear (suc depth) in
      let adds = chunks-add (suc depth) q (area_of e p) (survey_chunk (λ j n x. survey_range depth h s j n x) h s k (3 - suc depth) e)
      (λ c u. lower c u ++ own c u) t
      (λ c y x piece kept. subst
      (λ (u : Tree). AddsNumbers x (survey_chunk (λ j n z. survey_range depth h s j n z) h s k (3 - suc depth) e c x)
      (length (lower c u ++ own c u)))
      (sym (slot_of_lem h s (suc depth) k (entry_index (3 - suc depth) c.start.0)))
      (chunk_adds depth (child q (slot_at (suc depth) c)) k e s R (survey_numbers depth (omega arith)) c y x
      (record { inside = piece.inside; some = piece.some; room = piece.room }) kept))
      e.region p v (pieces (suc depth) q (area_of e p) low p e.region area) ok in
      let both = gathered_both (suc depth) lower own cs t in
      let joined = length-append (gathered (suc depth) lower cs t) (gathered (suc depth) own cs t) in
      record { kept = adds.kept; numbers = omega (arith, adds.numbers) }
