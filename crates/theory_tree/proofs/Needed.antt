-- Theorems about the definitions of specs/Needed.
use Rattle.std.specs.Prelude.{◌≡◌, Bool, false, cond, ◌≢◌, eqb}
use Rattle.std.proofs.Math.Path.{refl, sym, ap, ap₂}
use Rattle.std.proofs.Common.{subst, ◌∙◌, arith, eq-eqb, ne_eqb}
use Prim.Native.Nat.{ℕ, zero, suc, ◌+◌, ◌-◌, ◌/◌, ◌≤◌, ◌<◌}
use Rattle.laws.specs.Sum.{sum, sum_ext, sum_none, sum-add, sum-only}
use Rattle.region.specs.Region.{region}
use Rattle.region.specs.Chunks.{chunks}
use Rattle.region.specs.declared.MemoryRegion.{MemoryRegion}
use Rattle.theory_forest.specs.Tree.{Tree, leaf, node}
use Rattle.theory_tree.specs.Page.{pages_in, first, child, slot_of_page, slot_lt}
use Rattle.theory_tree.specs.Visit.{Rule, fill_tree, opened, splits, total, counted, made, made_table}
use Rattle.theory_tree.specs.Slots.{fill_slot}
use Rattle.theory_tree.proofs.Slots.{fill_node}
use Rattle.theory_tree.specs.Rules.{Map, meets}
use Rattle.theory_tree.specs.Local.{Agree, Local, meets_no, agree_child}
use Rattle.theory_tree.proofs.Local.{map_local}
use Rattle.theory_tree.specs.Chunks.{in_pages, Inside, index_slot, FirstCut, by_chunks}
use Rattle.theory_tree.specs.Sweep.{Shares, nothing, chunk, rest, shares}
use Rattle.theory_tree.proofs.Sweep.{RulesSay}
use Rattle.theory_tree.specs.Document.{document_rule}
use Rattle.theory_tree.proofs.Document.{document_says}
use Rattle.theory_tree.specs.Root.{map_made}
use Rattle.theory_tree.specs.Needed.{slot_tree, tallied, needed, needed_table}

-- ---- it is the visit's

table-made : (depth q : ℕ) (rule : ℕ → ℕ → Tree → Rule) (t : Tree)
    → made_table rule depth q t ≡ total (λ i u. made rule depth (child q i) u) t
unfolding made_table
table-made depth q rule t = refl

module _ {rule : Map → ℕ → ℕ → Tree → Rule} (L : Local rule) where
  made_off : (m : Map) (depth q : ℕ) (t : Tree) → meets depth (first depth q) m ≡ false → made (rule m) depth q t ≡ 0
  unfolding made counted
  made_off m zero q t e = refl
  made_off m (suc depth) q t e = rw (L.off m (suc depth) (first (suc depth) q) t e)

  made_agree : (m n : Map) (depth q : ℕ) (t : Tree) → Agree depth (first depth q) m n → made (rule m) depth q t ≡ made (rule n) depth q t
  unfolding made total opened
  made_agree m n zero q t a = refl
  made_agree m n (suc depth) q (leaf w) a =
      ap₂ (λ (x : Rule) (k : ℕ). counted x 0 (splits (leaf w) + k)) (L.agree m n (suc depth) (first (suc depth) q) (leaf w) a)
      (ap (total (λ i u. made (rule m) depth (child q i) u)) (fill_node depth w)
      ∙ sum_ext 512 (λ i. made (rule m) depth (child q i) (fill_slot depth w i)) (λ i. made (rule n) depth (child q i) (fill_slot depth w i))
      (λ i l. made_agree m n depth (child q i) (fill_slot depth w i) (agree_child depth q i m n l a))
      ∙ ap (total (λ i u. made (rule n) depth (child q i) u)) (sym (fill_node depth w)))
  made_agree m n (suc depth) q (node f) a =
      ap₂ (λ (x : Rule) (k : ℕ). counted x 0 (splits (node f) + k)) (L.agree m n (suc depth) (first (suc depth) q) (node f) a)
      (sum_ext 512 (λ i. made (rule m) depth (child q i) (f i)) (λ i. made (rule n) depth (child q i) (f i))
      (λ i l. made_agree m n depth (child q i) (f i) (agree_child depth q i m n l a)))

module _ {rule : Map → ℕ → ℕ → Tree → Rule} (L : Local rule) (rules : ℕ → MemoryRegion → ℕ → Tree → Rule) (flags : ℕ) (blocks : Bool) where
  abbrev call : ℕ → ℕ → ℕ → Map
  call s e p = in_pages flags blocks s e p

  abbrev Counts : ℕ → Type 0
  Counts depth = (q s e p : ℕ) (t : Tree) → depth ≤ 3 → s < e → Inside (first depth q) (pages_in depth) s e p
      → needed rules depth (region s e) p t ≡ made (rule (call s e p)) depth q t

  module _ (depth q s e p z i : ℕ) (low : depth ≤ 3) (counts : Counts depth) (c : FirstCut depth q s e p z i) (f : ℕ → Tree) where
    -- the first chunk's count stands in its slot alone
    abbrev only : ℕ → ℕ
    only j = cond (eqb j i) (needed rules depth (region s z) p (f j)) 0

    abbrev Slot : ℕ → Type 0
    Slot j = made (rule (call s e p)) depth (child q j) (f j) ≡ only j + made (rule (call z e (p + (z - s)))) depth (child q j) (f j)

    none : (j : ℕ) → j ≢ i → only j ≡ 0
    none j other = rw (ne_eqb j i other)

    here : meets depth (first depth (child q i)) (call z e (p + (z - s))) ≡ false
        → Agree depth (first depth (child q i)) (call s z p) (call s e p) → Slot i
    here past same =
        let one : only i ≡ needed rules depth (region s z) p (f i) = rw (eq-eqb i i refl) in
        omega (
          arith,
          one,
          counts (child q i) s z p (f i) low c.more c.chunk,
          made_off L (call z e (p + (z - s))) depth (child q i) (f i) past,
          made_agree L (call s z p) (call s e p) depth (child q i) (f i) same,
        )

    slot : (j : ℕ) → Slot j
    slot j = go (shares flags blocks depth q s e p z i c j)
      where
        go : Shares flags blocks depth q s e p z i j → Slot j
        go (nothing other off past) =
            omega (
              arith,
              none j other,
              made_off L (call z e (p + (z - s))) depth (child q j) (f j) past,
              made_off L (call s e p) depth
                  (child q j) (f j) off,
            )
        go (chunk at past same) = subst Slot (sym at) (here past same)
        go (rest other same) = omega (arith, none j other, made_agree L (call z e (p + (z - s))) (call s e p) depth (child q j) (f j) same)

    table : i < 512
        → made_table (rule (call s e p)) depth q (node f)
        ≡ needed rules depth (region s z) p (f i) + made_table (rule (call z e (p + (z - s)))) depth q (node f)
    unfolding made_table total
    table l =
        sum_ext 512 (λ j. made (rule (call s e p)) depth (child q j) (f j))
        (λ j. only j + made (rule (call z e (p + (z - s)))) depth (child q j) (f j)) (λ j h. slot j)
        ∙ sum-add 512 only (λ j. made (rule (call z e (p + (z - s)))) depth (child q j) (f j))
        ∙ ap (λ (x : ℕ). x + sum 512 (λ j. made (rule (call z e (p + (z - s)))) depth (child q j) (f j)))
        (sum-only 512 only i l none ∙ (let one : only i ≡ needed rules depth (region s z) p (f i) = rw (eq-eqb i i refl) in one))

  table_none : (depth q s e p : ℕ) (f : ℕ → Tree) → e ≤ s → made_table (rule (call s e p)) depth q (node f) ≡ 0
  unfolding made_table total
  table_none depth q s e p f h =
      sum_none 512 (λ j. made (rule (call s e p)) depth (child q j) (f j))
      (λ j l. made_off L (call s e p) depth (child q j) (f j) (meets_no depth (first depth (child q j)) (call s e p) (omega arith)))

  tallied_is : (depth : ℕ) → depth ≤ 3 → Counts depth → (q s e p : ℕ) (f : ℕ → Tree)
      → Inside (first (suc depth) q) (pages_in (suc depth)) s e p
      → tallied depth (λ d x u. needed rules depth d x u) (chunks (3 - depth) s e) p (node f)
      ≡ made_table (rule (call s e p)) depth q (node f)
  unfolding tallied slot_tree
  tallied_is depth low counts q s e p f I =
      by_chunks depth q e low (λ s p cs. tallied depth each cs p (node f) ≡ made_table (rule (call s e p)) depth q (node f))
      (λ s p h. sym (table_none depth q s e p f h))
      (λ s z p cs c ih. ap (λ (x : ℕ). each (region s z) p (f x) + tallied depth each cs (p + (z - s)) (node f)) (index_slot depth s low)
      ∙ ap (λ (x : ℕ). each (region s z) p (f (slot_of_page (s / 4096) depth)) + x) ih
      ∙ sym (table depth q s e p z (slot_of_page (s / 4096) depth) low counts c f (slot_lt (s / 4096) depth)))
      s p I
    where
      each : MemoryRegion → ℕ → Tree → ℕ
      each d x u = needed rules depth d x u

  module _ (says : RulesSay L rules flags blocks) where
    needed_is : (depth : ℕ) → Counts depth
    unfolding needed made opened
    needed_is zero q s e p t low some I = refl
    needed_is (suc depth) q s e p (leaf w) low some I =
        ap₂ (λ (x : Rule) (k : ℕ). counted x 0 (splits (leaf w) + k)) (says (suc depth) q s e p (leaf w) low some I)
        (ap (tallied depth (λ d x u. needed rules depth d x u) (chunks (3 - depth) s e) p) (fill_node depth w)
        ∙ tallied_is depth (omega arith) (needed_is depth) q s e p (fill_slot depth w) I
        ∙ ap (made_table (rule (call s e p)) depth q) (sym (fill_node depth w))
        ∙ table-made depth q (rule (call s e p)) (fill_tree depth w))
    needed_is (suc depth) q s e p (node f) low some I =
        ap₂ (λ (x : Rule) (k : ℕ). counted x 0 (splits (node f) + k)) (says (suc depth) q s e p (node f) low some I)
        (tallied_is depth (omega arith) (needed_is depth) q s e p f I
        ∙ table-made depth q (rule (call s e p)) (node f))

    pub table-needed : (depth q s e p : ℕ) (f : ℕ → Tree) → depth ≤ 3 → Inside (first (suc depth) q) (pages_in (suc depth)) s e p
        → needed_table rules depth (region s e) p (node f) ≡ made_table (rule (call s e p)) depth q (node f)
    unfolding needed_table
    table-needed depth q s e p f low I = tallied_is depth low (needed_is depth) q s e p f I

-- WHAT THE DOCUMENT'S LOOP TAKES IS WHAT THE MAP TAKES
pub document_needs : (flags : ℕ) (blocks : Bool) (depth r start end frame : ℕ) (f : ℕ → Tree) → depth ≤ 3
    → Inside (first (suc depth) r) (pages_in (suc depth)) start end frame
    → needed_table (document_rule flags blocks) depth (region start end) frame (node f)
    ≡ map_made depth r (in_pages flags blocks start end frame) (node f)
unfolding map_made
document_needs flags blocks depth r start end frame f low I =
    table-needed map_local (document_rule flags blocks) flags blocks (document_says flags blocks) depth r start end frame f low I
