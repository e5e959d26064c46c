-- Theorems about the definitions of specs/Sweep.
use Rattle.std.specs.Prelude.{◌≡◌, Bool, false, ◌⊎◌, ◌≢◌, eqb}
use Rattle.std.proofs.Math.Path.{refl, sym, ap, ap₂}
use Rattle.std.proofs.Common.{subst, ◌∙◌, inl, inr, arith, eq-eqb, ne_eqb}
use Rattle.std.proofs.Math.Bool.{cond}
use Prim.Native.Nat.{ℕ, zero, suc, ◌+◌, ◌-◌, ◌/◌, ◌≤◌, ◌<◌}
use Rattle.laws.specs.Test.{le_or}
use Rattle.region.specs.Region.{region}
use Rattle.region.specs.Chunks.{chunks}
use Rattle.region.specs.declared.MemoryRegion.{MemoryRegion}
use Rattle.theory_forest.specs.Tree.{Tree, leaf, node, node_ext, each_slot}
use Rattle.theory_tree.specs.Page.{pages_in, first, child, slot_of_page, slot_lt}
use Rattle.theory_tree.specs.Visit.{Rule, fill_tree, opened, obey, visit, visit_table}
use Rattle.theory_tree.specs.Slots.{slot_after, each_node, each_none, slot_after_lem, slot_past, fill_slot}
use Rattle.theory_tree.proofs.Slots.{fill_node}
use Rattle.theory_tree.specs.Rules.{Map, meets}
use Rattle.theory_tree.specs.Local.{Agree, Local, meets_no}
use Rattle.theory_tree.proofs.Local.{visit_off, visit_agree}
use Rattle.theory_tree.specs.Chunks.{at_slot, sweep, chunked, chunked_table, in_pages, Inside, index_slot, FirstCut}
use Rattle.theory_tree.specs.Chunks.{by_chunks}
use Rattle.theory_tree.specs.Sweep.{Shares, shares, nothing, chunk, rest}

module _ {rule : Map → ℕ → ℕ → Tree → Rule} (L : Local rule) (rules : ℕ → MemoryRegion → ℕ → Tree → Rule) (flags : ℕ) (blocks : Bool) where
  abbrev call : ℕ → ℕ → ℕ → Map
  call s e p = in_pages flags blocks s e p

  -- `rules` says of a chunk what `rule` says of its entry
  abbrev pub RulesSay : Type 0
  RulesSay = (depth q s e p : ℕ) (t : Tree) → depth ≤ 3 → s < e → Inside (first depth q) (pages_in depth) s e p
      → rules depth (region s e) p t ≡ rule (call s e p) depth (first depth q) t

  -- the loop does with a chunk what the visit does with its entry
  abbrev Does : ℕ → Type 0
  Does depth = (q s e p : ℕ) (t : Tree) → depth ≤ 3 → s < e → Inside (first depth q) (pages_in depth) s e p
      → chunked rules depth (region s e) p t ≡ visit (rule (call s e p)) depth q t

  module _ (depth q s e p z i : ℕ) (low : depth ≤ 3) (does : Does depth) (c : FirstCut depth q s e p z i) (f : ℕ → Tree) where
    -- the slots after the first chunk
    abbrev g : ℕ → Tree
    g j = cond (eqb j i) (chunked rules depth (region s z) p (f j)) (f j)

    -- a slot after the first chunk and then the rest of the region
    abbrev Slot : ℕ → Type 0
    Slot j = visit (rule (call z e (p + (z - s)))) depth (child q j) (g j) ≡ visit (rule (call s e p)) depth (child q j) (f j)

    g_other : (j : ℕ) → j ≢ i → g j ≡ f j
    g_other j other = rw (ne_eqb j i other)

    here : meets depth (first depth (child q i)) (call z e (p + (z - s))) ≡ false
        → Agree depth (first depth (child q i)) (call s z p) (call s e p) → Slot i
    here past same =
        ap (visit (rule (call z e (p + (z - s)))) depth (child q i))
        (let h : g i ≡ chunked rules depth (region s z) p (f i) = rw (eq-eqb i i refl) in h)
        ∙ visit_off L (call z e (p + (z - s))) depth (child q i) _ past
        ∙ does (child q i) s z p (f i) low c.more c.chunk
        ∙ visit_agree L (call s z p) (call s e p) depth (child q i) (f i) same

    slot : (j : ℕ) → Slot j
    slot j = go (shares flags blocks depth q s e p z i c j)
      where
        go : Shares flags blocks depth q s e p z i j → Slot j
        go (nothing other off past) =
            ap (visit (rule (call z e (p + (z - s)))) depth (child q j)) (g_other j other)
            ∙ visit_off L (call z e (p + (z - s))) depth (child q j) (f j) past
            ∙ sym (visit_off L (call s e p) depth (child q j) (f j) off)
        go (chunk at past same) = subst Slot (sym at) (here past same)
        go (rest other same) =
            ap (visit (rule (call z e (p + (z - s)))) depth (child q j)) (g_other j other)
            ∙ visit_agree L (call z e (p + (z - s))) (call s e p) depth (child q j) (f j) same

    -- the whole table
    table : i < 512 → visit_table (rule (call z e (p + (z - s)))) depth q (node g) ≡ visit_table (rule (call s e p)) depth q (node f)
    unfolding visit_table
    table l = each_node after g ∙ node_ext (λ j. go j (le_or 512 j)) ∙ sym (each_node all f)
      where
        after : ℕ → Tree → Tree
        after j u = visit (rule (call z e (p + (z - s)))) depth (child q j) u

        all : ℕ → Tree → Tree
        all j u = visit (rule (call s e p)) depth (child q j) u

        go : (j : ℕ) → (512 ≤ j) ⊎ (j < 512) → slot_after after g j ≡ slot_after all f j
        go j (inl h) = slot_past after g j h ∙ g_other j (λ e. omega arith) ∙ sym (slot_past all f j h)
        go j (inr h) = slot_after_lem after g j h ∙ slot j ∙ sym (slot_after_lem all f j h)

  -- no page is left
  table_none : (depth q s e p : ℕ) (f : ℕ → Tree) → e ≤ s → visit_table (rule (call s e p)) depth q (node f) ≡ node f
  unfolding visit_table
  table_none depth q s e p f h =
      each_none (λ j u. visit (rule (call s e p)) depth (child q j) u) f
      (λ j l. visit_off L (call s e p) depth (child q j) (f j) (meets_no depth (first depth (child q j)) (call s e p) (omega arith)))

  table-visit : (depth q s e p : ℕ) (t : Tree)
      → visit_table (rule (call s e p)) depth q t ≡ each_slot (λ i u. visit (rule (call s e p)) depth (child q i) u) t
  unfolding visit_table
  table-visit depth q s e p t = refl

  sweep_is : (depth : ℕ) → depth ≤ 3 → Does depth → (q s e p : ℕ) (f : ℕ → Tree) → Inside (first (suc depth) q) (pages_in (suc depth)) s e p
      → sweep depth (λ d x u. chunked rules depth d x u) (chunks (3 - depth) s e) p (node f)
      ≡ visit_table (rule (call s e p)) depth q (node f)
  unfolding sweep at_slot
  sweep_is depth low does q s e p f I =
      by_chunks depth q e low
      (λ s p cs. (f : ℕ → Tree) → sweep depth each cs p (node f) ≡ visit_table (rule (call s e p)) depth q (node f))
      (λ s p h f. sym (table_none depth q s e p f h))
      (λ s z p cs c ih f.
      ap (λ (x : ℕ). sweep depth each cs (p + (z - s)) (node (λ j. cond (eqb j x) (each (region s z) p (f j)) (f j))))
      (index_slot depth s low)
      ∙ ih (λ j. cond (eqb j (slot_of_page (s / 4096) depth)) (each (region s z) p (f j)) (f j))
      ∙ table depth q s e p z (slot_of_page (s / 4096) depth) low does c f (slot_lt (s / 4096) depth))
      s p I f
    where
      each : MemoryRegion → ℕ → Tree → Tree
      each d x u = chunked rules depth d x u

  -- ---- what the loop does

  module _ (says : RulesSay) where
    pub chunked_is : (depth : ℕ) → Does depth
    unfolding chunked visit opened
    chunked_is zero q s e p t low some I = ap (λ (x : Rule). obey x t t) (says zero q s e p t low some I)
    chunked_is (suc depth) q s e p (leaf w) low some I =
        ap₂ (λ (x : Rule) (u : Tree). obey x (leaf w) u) (says (suc depth) q s e p (leaf w) low some I)
        (ap (λ (t : Tree). sweep depth (λ d x u. chunked rules depth d x u) (chunks (3 - depth) s e) p t) (fill_node depth w)
        ∙ sweep_is depth (omega arith) (chunked_is depth) q s e p (fill_slot depth w) I
        ∙ ap (visit_table (rule (call s e p)) depth q) (sym (fill_node depth w)) ∙ table-visit depth q s e p (fill_tree depth w))
    chunked_is (suc depth) q s e p (node f) low some I =
        ap₂ (λ (x : Rule) (u : Tree). obey x (node f) u) (says (suc depth) q s e p (node f) low some I)
        (sweep_is depth (omega arith) (chunked_is depth) q s e p f I ∙ table-visit depth q s e p (node f))

    -- a call on a table, a region with no page too
    pub table_is : (depth q s e p : ℕ) (f : ℕ → Tree) → depth ≤ 3 → Inside (first (suc depth) q) (pages_in (suc depth)) s e p
        → chunked_table rules depth (region s e) p (node f) ≡ visit_table (rule (call s e p)) depth q (node f)
    unfolding chunked_table
    table_is depth q s e p f low I = sweep_is depth low (chunked_is depth) q s e p f I
