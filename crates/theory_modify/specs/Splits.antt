-- The splits that a survey counts are the new tables that the document's modify takes.
use Rattle.std.specs.Prelude.{◌≡◌, true, false, List, [], ◌∷◌, eqb}
use Rattle.std.proofs.Math.Path.{refl, sym, ap}
use Rattle.std.proofs.Common.{◌∙◌, arith}
use Prim.Native.Nat.{ℕ, zero, suc, ◌+◌, ◌-◌, ◌≤◌}
use Rattle.laws.specs.Test.{by_bool}
use Rattle.entry.specs.Word.{kind_of, valid}
use Rattle.entry.specs.declared.Kind.{Kind}
use Rattle.entry.specs.declared.Kind.TheVariants.{Table as table, Block, Page, Hole}
use Rattle.address_slot.specs.Slot.{entry_index}
use Rattle.region.specs.Region.{whole}
use Rattle.region.specs.Chunks.{chunks}
use Rattle.region.specs.Each.{each_of, each_chunk}
use Rattle.region.specs.declared.MemoryRegion.{MemoryRegion}
use Rattle.pool.specs.State.{St}
use Rattle.pool.specs.declared.Handle.{Handle}
use Rattle.map_count_spec.specs.Needed.{slot_below}
use Rattle.modify_entry.specs.declared.Edit.{Edit}
use Rattle.modify_entry.specs.Word.{chunk_edit, edit_word}
use Rattle.modify_survey.specs.declared.Survey.{Survey}
use Rattle.modify_survey.specs.House.{may_change}
use Rattle.modify_survey.specs.Survey.{adding, splits_in, breach, if_block, survey_part, survey_whole, survey_entry, survey_chunk}
use Rattle.modify_survey.specs.Survey.{survey_range, entry_whole, entry_part}
use Rattle.theory_forest.specs.Tree.{Tree, leaf, node}
use Rattle.theory_sound.specs.Codec.{Placed, tree_from}
use Rattle.theory_sound.specs.Step.{Ready}
use Rattle.theory_sound.specs.Slot.{slot_shows}
use Rattle.theory_tree.specs.Word.{fill_word}
use Rattle.theory_tree.specs.Visit.{opened, splits, counted, fill_tree}
use Rattle.theory_tree.specs.Needed.{slot_tree, tallied, needed, needed_table}
use Rattle.theory_tree.specs.Modify.{edit_rule}
use Rattle.theory_tree.specs.DocumentModify.{document_modify}
use Rattle.theory_map.specs.Need.{slot_fill}
use Rattle.theory_map.specs.Loop.{slot_of_lem}
use Rattle.theory_modify.specs.Passes.{takes_on}
use Rattle.theory_modify.specs.Entry.{survey_page, survey_slot}
use Rattle.theory_modify.specs.Range.{edit_takes}

-- ---- a number that each chunk adds to

-- where each chunk adds what it counts in its slot, the chunks add the tally
fold_tally : {S : Type 0} (m : S → ℕ) (f : MemoryRegion → S → S) (depth : ℕ) (count : MemoryRegion → ℕ → Tree → ℕ) (t : Tree)
    → ((c : MemoryRegion) (p : ℕ) (x : S) → m (f c x) ≡ m x + count c p (slot_tree t (entry_index (3 - depth) c.start.0)))
    → (cs : List MemoryRegion) (p : ℕ) (x : S) → m (each_of f cs x) ≡ m x + tallied depth count cs p t
unfolding each_of tallied
fold_tally m f depth count t each [] p x = omega arith
fold_tally m f depth count t each (c ∷ cs) p x =
    let p' : ℕ = p + (c.end.0 - c.start.0) in
    let here = each c p x in
    let rest = fold_tally m f depth count t each cs p' (f c x) in
    omega arith

pub chunks-tally : {S : Type 0} (m : S → ℕ) (f : MemoryRegion → S → S) (depth : ℕ) (count : MemoryRegion → ℕ → Tree → ℕ) (t : Tree)
    → ((c : MemoryRegion) (p : ℕ) (x : S) → m (f c x) ≡ m x + count c p (slot_tree t (entry_index (3 - depth) c.start.0)))
    → (r : MemoryRegion) (p : ℕ) (x : S)
    → m (each_chunk (3 - depth) f r x) ≡ m x + tallied depth count (chunks (3 - depth) r.start.0 r.end.0) p t
unfolding each_chunk
chunks-tally m f depth count t each r p x = fold_tally m f depth count t each (chunks (3 - depth) r.start.0 r.end.0) p x

-- ---- an entry that is no table

module _ (set clear : ℕ) where
  edit_takes_lem : (w n : ℕ) → counted (edit_rule set clear w) 0 n ≡ 0
  unfolding edit_rule counted
  edit_takes_lem w n = by_bool (valid w) (λ e. rw e) (λ e. rw e)

  takes_whole : (depth : ℕ) (c : MemoryRegion) (p w : ℕ) → whole (3 - suc depth) c ≡ true
      → needed (document_modify set clear) (suc depth) c p (leaf w) ≡ 0
  unfolding needed document_modify
  takes_whole depth c p w e = rw e (edit_takes_lem w _)

  splits_open : (depth : ℕ) (c : MemoryRegion) → whole (3 - suc depth) c ≡ false
      → splits_in (suc depth) c ≡ each_chunk (3 - depth) (adding (splits_in depth)) c 1
  unfolding splits_in
  splits_open depth c e = rw e

  splits_none : (depth : ℕ) (c : MemoryRegion) → whole (3 - suc depth) c ≡ true → splits_in (suc depth) c ≡ 0
  unfolding splits_in
  splits_none depth c e = rw e

  takes_fill : (depth : ℕ) (c : MemoryRegion) (p w : ℕ) → whole (3 - suc depth) c ≡ false
      → needed (document_modify set clear) (suc depth) c p (leaf w)
      ≡ 1 + needed_table (document_modify set clear) depth c p (fill_tree depth w)
  unfolding splits opened
  takes_fill depth c p w e = takes_on set clear depth c p (leaf w) e

  pub leaf_takes : (depth : ℕ) (c : MemoryRegion) (p w : ℕ) → depth ≤ 3
      → splits_in depth c ≡ needed (document_modify set clear) depth c p (leaf w)
  unfolding splits_in needed needed_table adding
  leaf_takes zero c p w low = refl
  leaf_takes (suc depth) c p w low = by_bool (whole (3 - suc depth) c)
      (λ e. splits_none depth c e ∙ sym (takes_whole depth c p w e))
      (λ e. splits_open depth c e
      ∙ chunks-tally (λ (n : ℕ). n) (adding (splits_in depth)) depth (λ d y u. needed (document_modify set clear) depth d y u)
      (fill_tree depth w)
      (λ d y n. let i : ℕ = entry_index (3 - depth) d.start.0 in
      ap (λ (x : ℕ). n + x) (leaf_takes depth d y (fill_word depth w i) (omega arith)
      ∙ ap (needed (document_modify set clear) depth d y) (sym (slot_fill depth w i (slot_below (3 - depth) d.start.0)))))
      c p 1
      ∙ sym (takes_fill depth c p w e))

pub takes_enter : (set clear depth : ℕ) (c : MemoryRegion) (p : ℕ) (f : ℕ → Tree)
    → needed (document_modify set clear) (suc depth) c p (node f) ≡ needed_table (document_modify set clear) depth c p (node f)
unfolding splits opened
takes_enter set clear depth c p f =
    let e : needed (document_modify set clear) (suc depth) c p (node f) ≡ 0 + needed_table (document_modify set clear) depth c p (node f) =
    takes_on set clear depth c p (node f) refl in omega arith

-- ---- what a survey of an entry adds

breach-splits : (w : ℕ) (v : Survey) → (breach w v).splits ≡ v.splits
unfolding breach
breach-splits w v = refl

block_splits : (k : Kind) (v x : Survey) → v.splits ≡ x.splits → (if_block k v x).splits ≡ x.splits
unfolding if_block
block_splits table v x e = refl
block_splits Block v x e = e
block_splits Page v x e = refl
block_splits Hole v x e = refl

part_splits : (level : ℕ) (c : MemoryRegion) (w : ℕ) (v : Survey) → (survey_part level c w v).splits ≡ v.splits + splits_in (3 - level) c
unfolding survey_part
part_splits level c w v = block_splits (kind_of level w) _ _ (breach-splits w _)

whole-splits : (h : Handle) (level : ℕ) (e : Edit) (w : ℕ) (v : Survey) → (survey_whole h level e w v).splits ≡ v.splits
unfolding survey_whole
whole-splits h level e w v =
    by_bool (eqb (edit_word level e w) w)
    (λ a. rw a)
    (λ a. by_bool (may_change h w (edit_word level e w)) (λ b. rw (a, b)) (λ b. rw (a, b) (breach-splits w _)))

page_takes : (set clear : ℕ) (c : MemoryRegion) (p : ℕ) (t : Tree) → needed (document_modify set clear) 0 c p t ≡ 0
unfolding needed
page_takes set clear c p t = refl

entry_is_whole : (h : Handle) (level : ℕ) (e : Edit) (w : ℕ) (v : Survey) → whole level e.region ≡ true
    → (survey_entry h level e w v).splits ≡ (survey_whole h level e w v).splits
entry_is_whole h level e w v q = ap (λ (x : Survey). x.splits) (sym (entry_whole h level e w v q))

entry_is_part : (h : Handle) (level : ℕ) (e : Edit) (w : ℕ) (v : Survey) → whole level e.region ≡ false
    → (survey_entry h level e w v).splits ≡ (survey_part level e.region w v).splits
entry_is_part h level e w v q = ap (λ (x : Survey). x.splits) (sym (entry_part h level e w v q))

entry-splits : (h : Handle) (depth : ℕ) (e : Edit) (c : MemoryRegion) (p w : ℕ) (v : Survey) → depth ≤ 3
    → (survey_entry h (3 - depth) (chunk_edit e c) w v).splits ≡ v.splits + needed (document_modify e.set e.clear) depth c p (leaf w)
entry-splits h depth e c p w v low = go depth low
  where
    part : (depth : ℕ) → depth ≤ 3 → whole (3 - depth) c ≡ false
        → (survey_entry h (3 - depth) (chunk_edit e c) w v).splits ≡ v.splits + needed (document_modify e.set e.clear) depth c p (leaf w)
    part depth low q =
        let same : 3 - (3 - depth) ≡ depth = omega arith in
        entry_is_part h (3 - depth) (chunk_edit e c) w v q ∙ part_splits (3 - depth) c w v
        ∙ ap (λ (n : ℕ). v.splits + n) (ap (λ (d : ℕ). splits_in d c) same ∙ leaf_takes e.set e.clear depth c p w low)

    all : (depth : ℕ) → depth ≤ 3 → whole (3 - depth) c ≡ true → needed (document_modify e.set e.clear) depth c p (leaf w) ≡ 0
    all zero low q = page_takes e.set e.clear c p (leaf w)
    all (suc depth) low q = takes_whole e.set e.clear depth c p w q

    go : (depth : ℕ) → depth ≤ 3
        → (survey_entry h (3 - depth) (chunk_edit e c) w v).splits ≡ v.splits + needed (document_modify e.set e.clear) depth c p (leaf w)
    go depth low = by_bool (whole (3 - depth) c)
        (λ q. let z = all depth low q in entry_is_whole h (3 - depth) (chunk_edit e c) w v q
        ∙ whole-splits h (3 - depth) (chunk_edit e c) w v
        ∙ (let n : v.splits ≡ v.splits + needed (document_modify e.set e.clear) depth c p (leaf w) = omega arith in n))
        (part depth low)

-- ---- a table of a sound pool

module _ {h : Handle} (placed : Placed h) where
  abbrev Counts : ℕ → Type 0
  Counts depth = (k p : ℕ) (e : Edit) (s : St) (v : Survey) → Ready h s depth k
      → (survey_range depth h s k e v).splits ≡ v.splits + edit_takes e depth p (tree_from h s depth k)

  chunk-takes : (depth k : ℕ) (e : Edit) (s : St) → Ready h s (suc depth) k → Counts depth → (c : MemoryRegion) (p : ℕ) (v : Survey)
      → (survey_chunk (λ j n x. survey_range depth h s j n x) h s k (3 - suc depth) e c v).splits
      ≡ v.splits
      + needed (document_modify e.set e.clear) (suc depth) c p (slot_shows h s (suc depth) k (entry_index (3 - suc depth) c.start.0))
  chunk-takes depth k e s R counts c p v =
      survey_slot placed (λ j n x. survey_range depth h s j n x) s k e c v
      (λ (x : Survey) (u : Tree). x.splits ≡ v.splits + needed (document_modify e.set e.clear) (suc depth) c p u) depth R
      (λ w fine. entry-splits h (suc depth) e c p w v (omega (arith, R.low)))
      (λ j f ready tree. counts j p (chunk_edit e c) s v ready
      ∙ ap (λ (n : ℕ). v.splits + n) (ap (edit_takes (chunk_edit e c) depth p) tree ∙ sym (takes_enter e.set e.clear depth c p f)))

  -- THE SPLITS
  pub survey_splits : (depth : ℕ) → Counts depth
  unfolding survey_range needed_table
  survey_splits zero k p e s v R =
      chunks-tally (λ (x : Survey). x.splits) _ 0 (λ c y u. needed (document_modify e.set e.clear) 0 c y u) (tree_from h s 0 k)
      (λ c y x. survey_page placed (λ j n z. z) s k e c x
      (λ (z : Survey) (u : Tree). z.splits ≡ x.splits + needed (document_modify e.set e.clear) 0 c y u) R
      (λ w fine. entry-splits h 0 e c y w x (omega arith))
      ∙ ap (λ (t : Tree). x.splits + needed (document_modify e.set e.clear) 0 c y t)
      (sym (slot_of_lem h s 0 k (entry_index 3 c.start.0))))
      e.region p v
  survey_splits (suc depth) k p e s v R =
      chunks-tally (λ (x : Survey). x.splits) _ (suc depth) (λ c y u. needed (document_modify e.set e.clear) (suc depth) c y u)
      (tree_from h s (suc depth) k)
      (λ c y x. chunk-takes depth k e s R (survey_splits depth) c y x
      ∙ ap (λ (t : Tree). x.splits + needed (document_modify e.set e.clear) (suc depth) c y t)
      (sym (slot_of_lem h s (suc depth) k (entry_index (3 - suc depth) c.start.0))))
      e.region p v
