-- Laws of the numbers that a modify lists: by what an entry is, after the first pass over a table, and what is gathered from a table.
use Rattle.std.specs.Prelude.{◌≡◌, true, false, ◌≢◌, length}
use Rattle.std.proofs.Math.Path.{refl, ap, ap₂}
use Rattle.std.proofs.Common.{sym, ◌∙◌, true≢false, arith, length-append}
use mathlib.Core.List.{List, [], ◌∷◌, ◌++◌}
use Prim.Native.Nat.{ℕ, suc, ◌+◌, ◌-◌, ◌/◌, ◌%◌, ◌^◌, ◌≤◌, ◌<◌}
use borrow.Author.Tests.{eq-eqb, ne_eqb}
use Rattle.laws.specs.Test.{by_bool}
use Rattle.entry.specs.Word.{valid, edited}
use Rattle.address_slot.specs.Slot.{entry_index}
use Rattle.region.specs.Chunks.{chunks}
use Rattle.region.specs.declared.MemoryRegion.{MemoryRegion}
use Rattle.map_rules.specs.declared.Map.{Map}
use Rattle.theory_forest.specs.Tree.{Tree, leaf, node}
use Rattle.theory_tree.specs.Visit.{opened}
use Rattle.theory_tree.specs.Slots.{fill_slot}
use Rattle.theory_tree.proofs.Slots.{fill_node}
use Rattle.theory_tree.specs.Chunks.{at_slot, sweep, chunked_table, index_slot}
use Rattle.theory_tree.specs.Needed.{slot_tree}
use Rattle.theory_tree.specs.DocumentModify.{document_modify}
use Rattle.theory_map.specs.Pieces.{slot_at, Pieces}
use Rattle.theory_modify.specs.Passes.{own_entry, down_to, down-own, down_on}
use Rattle.theory_modify.specs.Numbers.{gathered, changed_number, own_numbers, lower_numbers}

module _ (set clear : ℕ) where
  pub number-changed : (c : MemoryRegion) (w : ℕ) → valid w ≡ true → edited set clear w ≢ w
      → changed_number set clear c w ≡ c.start.0 / 4096 % 2 ^ 44 ∷ []
  unfolding changed_number
  number-changed c w v other = rw (v, ne_eqb (edited set clear w) w other)

  pub number_same : (c : MemoryRegion) (w : ℕ) → valid w ≡ true → edited set clear w ≡ w → changed_number set clear c w ≡ []
  unfolding changed_number
  number_same c w v same = rw (v, eq-eqb (edited set clear w) w same)

  pub number_hole : (c : MemoryRegion) (w : ℕ) → valid w ≡ false → changed_number set clear c w ≡ []
  unfolding changed_number
  number_hole c w v = rw v

  pub own_on : (depth : ℕ) (c : MemoryRegion) (u : Tree) → own_entry depth c u ≡ false → own_numbers set clear (suc depth) c u ≡ []
  unfolding own_numbers
  own_on depth c (leaf w) e = rw e
  own_on depth c (node f) e = refl

  module _ (rec : MemoryRegion → Tree → List ℕ) (depth : ℕ) (c : MemoryRegion) where
    pub lower-own : (u : Tree) → own_entry depth c u ≡ true → lower_numbers set clear rec depth c u ≡ []
    unfolding lower_numbers
    lower-own (leaf w) e = rw e
    lower-own (node f) e = absurd (true≢false (sym e))

    pub lower_on : (u : Tree) → own_entry depth c u ≡ false → lower_numbers set clear rec depth c u ≡ rec c (opened depth u)
    unfolding lower_numbers opened
    lower_on (leaf w) e = rw e
    lower_on (node f) e = refl

  -- ---- after the first pass the leaves are the table's own entries

  -- an entry as the second pass finds it
  abbrev pub leaf_numbers : MemoryRegion → Tree → List ℕ
  leaf_numbers c (leaf w) = changed_number set clear c w
  leaf_numbers c (node f) = []

  pub own_here : (depth : ℕ) (c : MemoryRegion) (u : Tree) → own_entry depth c u ≡ true
      → own_numbers set clear (suc depth) c u ≡ leaf_numbers c u
  unfolding own_numbers
  own_here depth c (leaf w) e = rw e
  own_here depth c (node f) e = refl

  pub leaf_page : (c : MemoryRegion) (u : Tree) → leaf_numbers c u ≡ own_numbers set clear 0 c u
  unfolding own_numbers
  leaf_page c (leaf w) = refl
  leaf_page c (node f) = refl

  sweep_none : (d : MemoryRegion) (depth : ℕ) (f : MemoryRegion → ℕ → Tree → Tree) (cs : List MemoryRegion) (p : ℕ) (g : ℕ → Tree)
      → leaf_numbers d (sweep depth f cs p (node g)) ≡ []
  unfolding sweep at_slot
  sweep_none d depth f [] p g = refl
  sweep_none d depth f (c ∷ cs) p g = sweep_none d depth f cs (p + (c.end.0 - c.start.0)) _

  table_none : (d : MemoryRegion) (depth : ℕ) (c : MemoryRegion) (p : ℕ) (g : ℕ → Tree)
      → leaf_numbers d (chunked_table (document_modify set clear) depth c p (node g)) ≡ []
  unfolding chunked_table
  table_none d depth c p g = sweep_none d depth _ (chunks (3 - depth) c.start.0 c.end.0) p g

  open_none : (d : MemoryRegion) (depth : ℕ) (c : MemoryRegion) (p : ℕ) (u : Tree)
      → leaf_numbers d (chunked_table (document_modify set clear) depth c p (opened depth u)) ≡ []
  unfolding opened
  open_none d depth c p (leaf w) =
      ap (λ (t : Tree). leaf_numbers d (chunked_table (document_modify set clear) depth c p t)) (fill_node depth w)
      ∙ table_none d depth c p (fill_slot depth w)
  open_none d depth c p (node f) = table_none d depth c p f

  pub leaf_after : (depth : ℕ) (c : MemoryRegion) (p : ℕ) (u : Tree)
      → leaf_numbers c (down_to set clear depth c p u) ≡ own_numbers set clear (suc depth) c u
  leaf_after depth c p u = by_bool (own_entry depth c u)
      (λ e. ap (leaf_numbers c) (down-own set clear depth c p u e) ∙ sym (own_here depth c u e))
      (λ e. ap (leaf_numbers c) (down_on set clear depth c p u e) ∙ open_none c depth c p u ∙ sym (own_on depth c u e))

-- ---- what is gathered from a table

pub at_slot_lem : (i : ℕ) (f : Tree → Tree) (g : ℕ → Tree) → slot_tree (at_slot i f (node g)) i ≡ f (g i)
unfolding at_slot slot_tree
at_slot_lem i f g = rw (eq-eqb i i refl)

pub in_node : (g : ℕ → Tree) (i : ℕ) → slot_tree (node g) i ≡ g i
unfolding slot_tree
in_node g i = refl

-- a table stays a table
pub at_node : (i : ℕ) (f : Tree → Tree) (g : ℕ → Tree) → at_slot i f (node g) ≡ node (λ j. slot_tree (at_slot i f (node g)) j)
unfolding at_slot slot_tree
at_node i f g = refl

pub at_others : (i j : ℕ) (f : Tree → Tree) (t : Tree) → j ≢ i → slot_tree (at_slot i f t) j ≡ slot_tree t j
unfolding at_slot slot_tree
at_others i j f (leaf w) other = refl
at_others i j f (node g) other = rw (ne_eqb j i other)

pub gathered_both : (depth : ℕ) (f g : MemoryRegion → Tree → List ℕ) (cs : List MemoryRegion) (t : Tree)
    → length (gathered depth (λ c u. f c u ++ g c u) cs t) ≡ length (gathered depth f cs t) + length (gathered depth g cs t)
unfolding gathered
gathered_both depth f g [] t = refl
gathered_both depth f g (c ∷ cs) t =
    let u : Tree = slot_tree t (entry_index (3 - depth) c.start.0) in
    let a = length-append (f c u ++ g c u) (gathered depth (λ d v. f d v ++ g d v) cs t) in
    let b = length-append (f c u) (g c u) in
    let x = length-append (f c u) (gathered depth f cs t) in
    let y = length-append (g c u) (gathered depth g cs t) in
    omega (arith, gathered_both depth f g cs t)

pub gathered_none : (depth : ℕ) (f : MemoryRegion → Tree → List ℕ) (cs : List MemoryRegion) (t : Tree)
    → ((c : MemoryRegion) → f c (slot_tree t (entry_index (3 - depth) c.start.0)) ≡ []) → gathered depth f cs t ≡ []
unfolding gathered
gathered_none depth f [] t none = refl
gathered_none depth f (c ∷ cs) t none = ap₂ (λ (a b : List ℕ). a ++ b) (none c) (gathered_none depth f cs t none)

module _ (depth q : ℕ) (m : Map) (low : depth ≤ 3) where
  -- what is gathered from slot a on depends on the slots from a on
  pub gathered-from : (f : MemoryRegion → Tree → List ℕ) (cs : List MemoryRegion) (a p : ℕ) (t u : Tree) → Pieces depth q m a p cs
      → ((j : ℕ) → a ≤ j → slot_tree t j ≡ slot_tree u j) → gathered depth f cs t ≡ gathered depth f cs u
  unfolding gathered
  gathered-from f [] a p t u all same = refl
  gathered-from f (c ∷ cs) a p t u all same =
      let i : ℕ = entry_index (3 - depth) c.start.0 in
      let at = index_slot depth c.start.0 low in
      ap₂ (λ (x y : List ℕ). x ++ y) (ap (f c) (same i (omega (arith, all.0.from))))
      (gathered-from f cs (suc (slot_at depth c)) (p + (c.end.0 - c.start.0)) t u all.1 (λ j l. same j (omega (arith, all.0.from))))

  pub sweep_before : (f : MemoryRegion → ℕ → Tree → Tree) (cs : List MemoryRegion) (a p j : ℕ) (t : Tree) → Pieces depth q m a p cs → j < a
      → slot_tree (sweep depth f cs p t) j ≡ slot_tree t j
  unfolding sweep
  sweep_before f [] a p j t all l = refl
  sweep_before f (c ∷ cs) a p j t all l =
      let i : ℕ = entry_index (3 - depth) c.start.0 in
      let at = index_slot depth c.start.0 low in
      sweep_before f cs (suc (slot_at depth c)) (p + (c.end.0 - c.start.0)) j (at_slot i (f c p) t) all.1 (omega (arith, all.0.from))
      ∙ at_others i j (f c p) t (λ e. omega (arith, all.0.from))

  -- from a table after a sweep over the same chunks
  pub gathered-after : (f : MemoryRegion → ℕ → Tree → Tree) (g g' : MemoryRegion → Tree → List ℕ)
      → ((c : MemoryRegion) (p : ℕ) (u : Tree) → g c (f c p u) ≡ g' c u)
      → (cs : List MemoryRegion) (a p : ℕ) (v : ℕ → Tree) → Pieces depth q m a p cs
      → gathered depth g cs (sweep depth f cs p (node v)) ≡ gathered depth g' cs (node v)
  unfolding gathered sweep
  gathered-after f g g' each [] a p v all = refl
  gathered-after f g g' each (c ∷ cs) a p v all =
      let i : ℕ = entry_index (3 - depth) c.start.0 in
      let p' : ℕ = p + (c.end.0 - c.start.0) in
      let index = index_slot depth c.start.0 low in
      ap₂ (λ (x y : List ℕ). x ++ y)
      (ap (g c) (sweep_before f cs (suc (slot_at depth c)) p' i (at_slot i (f c p) (node v)) all.1 (omega arith) ∙ at_slot_lem i (f c p) v)
      ∙ each c p (v i)
      ∙ ap (g' c) (sym (in_node v i)))
      (ap (λ (t : Tree). gathered depth g cs (sweep depth f cs p' t)) (at_node i (f c p) v)
      ∙ gathered-after f g g' each cs (suc (slot_at depth c)) p' (λ j. slot_tree (at_slot i (f c p) (node v)) j) all.1
      ∙ ap (gathered depth g' cs) (sym (at_node i (f c p) v))
      ∙ gathered-from g' cs (suc (slot_at depth c)) p' (at_slot i (f c p) (node v)) (node v) all.1
      (λ j l. at_others i j (f c p) (node v) (λ e. omega arith)))
