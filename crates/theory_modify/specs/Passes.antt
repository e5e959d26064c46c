-- The document's modify of a table is two passes over its chunks: first those that go down, then the table's own entries. On trees, where a
-- chunk stands in a slot of its own.
use Rattle.std.specs.Prelude.{◌≡◌, Bool, true, false, cond, ◌⊎◌, ◌≢◌, eqb}
use Rattle.std.proofs.Math.Path.{refl, sym, ap}
use Rattle.std.proofs.Common.{◌∙◌, true≢false, inl, inr, arith, eq-eqb, ne_eqb}
use mathlib.Core.List.{List, [], ◌∷◌}
use Prim.Native.Nat.{ℕ, suc, ◌+◌, ◌-◌, ◌≤◌, ◌<◌}
use Rattle.laws.specs.Test.{by_bool, eq_or}
use Rattle.entry.specs.Word.{valid, edited}
use Rattle.address_slot.specs.Slot.{entry_index}
use Rattle.region.specs.Region.{whole}
use Rattle.region.specs.Chunks.{chunks}
use Rattle.region.specs.declared.MemoryRegion.{MemoryRegion}
use Rattle.map_rules.specs.declared.Map.{Map}
use Rattle.theory_forest.specs.Tree.{Tree, leaf, node, node_ext}
use Rattle.theory_tree.specs.Visit.{fill_tree, opened, splits, obey, counted}
use Rattle.theory_tree.specs.Slots.{fill_slot}
use Rattle.theory_tree.proofs.Slots.{fill_node}
use Rattle.theory_tree.specs.Chunks.{at_slot, sweep, chunked, chunked_table, index_slot}
use Rattle.theory_tree.specs.Needed.{needed, needed_table}
use Rattle.theory_tree.specs.Modify.{edit_rule}
use Rattle.theory_tree.specs.DocumentModify.{document_modify}
use Rattle.theory_map.specs.Pieces.{slot_at, Pieces}

-- ---- two sweeps over the same chunks are one

at_same : (i : ℕ) (f g : Tree → Tree) (t : Tree) → at_slot i g (at_slot i f t) ≡ at_slot i (λ u. g (f u)) t
unfolding at_slot
at_same i f g (leaf w) = refl
at_same i f g (node u) = node_ext (λ j. by_bool (eqb j i) (λ e. rw e) (λ e. rw e))

at_other : (i j : ℕ) (f g : Tree → Tree) (t : Tree) → i ≢ j → at_slot i g (at_slot j f t) ≡ at_slot j f (at_slot i g t)
unfolding at_slot
at_other i j f g (leaf w) other = refl
at_other i j f g (node u) other = node_ext (λ x. go x (eq_or x i))
  where
    go : (x : ℕ) → (x ≡ i) ⊎ (x ≢ i)
        → cond (eqb x i) (g (cond (eqb x j) (f (u x)) (u x))) (cond (eqb x j) (f (u x)) (u x))
        ≡ cond (eqb x j) (f (cond (eqb x i) (g (u x)) (u x))) (cond (eqb x i) (g (u x)) (u x))
    go x (inl e) = rw (eq-eqb x i e, ne_eqb x j (λ q. other (sym e ∙ q)))
    go x (inr n) = rw (ne_eqb x i n)

module _ (depth q : ℕ) (m : Map) (low : depth ≤ 3) where
  -- a slot that comes before the chunks
  sweep_past : (f : MemoryRegion → ℕ → Tree → Tree) (g : Tree → Tree) (cs : List MemoryRegion) (i a p : ℕ) (t : Tree)
      → Pieces depth q m a p cs → i < a
      → at_slot i g (sweep depth f cs p t) ≡ sweep depth f cs p (at_slot i g t)
  unfolding sweep
  sweep_past f g [] i a p t all l = refl
  sweep_past f g (c ∷ cs) i a p t all l =
      let index = index_slot depth c.start.0 low in
      let p' : ℕ = p + (c.end.0 - c.start.0) in
      let j : ℕ = entry_index (3 - depth) c.start.0 in
      sweep_past f g cs i (suc (slot_at depth c)) p' (at_slot j (f c p) t) all.1 (omega (arith, all.0.from))
      ∙ ap (sweep depth f cs p') (at_other i j (f c p) g t (λ e. omega (arith, all.0.from)))

  pub sweep_twice : (f g : MemoryRegion → ℕ → Tree → Tree) (cs : List MemoryRegion) (a p : ℕ) (t : Tree) → Pieces depth q m a p cs
      → sweep depth g cs p (sweep depth f cs p t) ≡ sweep depth (λ c x u. g c x (f c x u)) cs p t
  unfolding sweep
  sweep_twice f g [] a p t all = refl
  sweep_twice f g (c ∷ cs) a p t all =
      let index = index_slot depth c.start.0 low in
      let p' : ℕ = p + (c.end.0 - c.start.0) in
      let i : ℕ = entry_index (3 - depth) c.start.0 in
      ap (sweep depth g cs p')
      (sweep_past f (g c p) cs i (suc (slot_at depth c)) p' (at_slot i (f c p) t) all.1 (omega arith)
      ∙ ap (sweep depth f cs p') (at_same i (f c p) (g c p) t))
      ∙ sweep_twice f g cs (suc (slot_at depth c)) p' (at_slot i (λ u. g c p (f c p u)) t) all.1

-- ---- the two passes

-- a chunk's entry is edited where it stands: a whole entry that is no table; `depth` levels are below the entry's
abbrev pub own_entry : ℕ → MemoryRegion → Tree → Bool
own_entry depth c (leaf w) = whole (3 - suc depth) c
own_entry depth c (node f) = false

module _ (set clear : ℕ) where
  -- a table's own entry: a leaf is edited if it is valid
  unfoldable pub own_to : Tree → Tree
  own_to (leaf w) = obey (edit_rule set clear w) (leaf w) (leaf w)
  own_to (node f) = node f

  -- a chunk goes down unless it is a whole entry that is no table
  unfoldable pub down_to : ℕ → MemoryRegion → ℕ → Tree → Tree
  down_to depth c p (leaf w) = cond (whole (3 - suc depth) c) (leaf w) (chunked_table (document_modify set clear) depth c p (fill_tree depth w))
  down_to depth c p (node f) = chunked_table (document_modify set clear) depth c p (node f)

  module _ (depth : ℕ) (c : MemoryRegion) (p : ℕ) where
    -- an entry that is edited where it stands
    pub down-own : (u : Tree) → own_entry depth c u ≡ true → down_to depth c p u ≡ u
    unfolding down_to
    down-own (leaf w) e = rw e
    down-own (node f) e = absurd (true≢false (sym e))

    -- what goes down, with the tables that it takes
    pub down_on : (u : Tree) → own_entry depth c u ≡ false
        → down_to depth c p u ≡ chunked_table (document_modify set clear) depth c p (opened depth u)
    unfolding down_to opened
    down_on (leaf w) e = rw e
    down_on (node f) e = refl

    pub takes_on : (u : Tree) → own_entry depth c u ≡ false
        → needed (document_modify set clear) (suc depth) c p u
        ≡ splits u + needed_table (document_modify set clear) depth c p (opened depth u)
    unfolding needed needed_table document_modify counted
    takes_on (leaf w) e = rw e
    takes_on (node f) e = refl

  -- an edit never goes down
  edit_stops : (w : ℕ) (t u v : Tree) → obey (edit_rule set clear w) t u ≡ obey (edit_rule set clear w) t v
  unfolding edit_rule obey
  edit_stops w t u v = by_bool (valid w) (λ e. rw e) (λ e. rw e)

  -- a table stays a table
  own-sweep : (depth : ℕ) (f : MemoryRegion → ℕ → Tree → Tree) (cs : List MemoryRegion) (p : ℕ) (g : ℕ → Tree)
      → own_to (sweep depth f cs p (node g)) ≡ sweep depth f cs p (node g)
  unfolding sweep at_slot own_to
  own-sweep depth f [] p g = refl
  own-sweep depth f (c ∷ cs) p g = own-sweep depth f cs (p + (c.end.0 - c.start.0)) _

  own-table : (depth : ℕ) (c : MemoryRegion) (p : ℕ) (g : ℕ → Tree)
      → own_to (chunked_table (document_modify set clear) depth c p (node g)) ≡ chunked_table (document_modify set clear) depth c p (node g)
  unfolding chunked_table
  own-table depth c p g = own-sweep depth _ (chunks (3 - depth) c.start.0 c.end.0) p g

  pub own_node : (f : ℕ → Tree) → own_to (node f) ≡ node f
  unfolding own_to
  own_node f = refl

  pub own-valid : (w : ℕ) → valid w ≡ true → own_to (leaf w) ≡ leaf (edited set clear w)
  unfolding own_to edit_rule obey
  own-valid w v = rw v

  pub own_hole : (w : ℕ) → valid w ≡ false → own_to (leaf w) ≡ leaf w
  unfolding own_to edit_rule obey
  own_hole w v = rw v

  own_leaf : (w : ℕ) → own_to (leaf w) ≡ obey (edit_rule set clear w) (leaf w) (leaf w)
  unfolding own_to
  own_leaf w = refl

  -- the two passes together are what the document does
  passes_page : (c : MemoryRegion) (p : ℕ) (t : Tree) → own_to t ≡ chunked (document_modify set clear) 0 c p t
  unfolding own_to chunked document_modify obey
  passes_page c p (leaf w) = refl
  passes_page c p (node f) = refl

  passes : (depth : ℕ) (c : MemoryRegion) (p : ℕ) (t : Tree)
      → own_to (down_to depth c p t) ≡ chunked (document_modify set clear) (suc depth) c p t
  unfolding down_to chunked chunked_table document_modify opened obey
  passes depth c p (leaf w) = by_bool (whole (3 - suc depth) c)
      (λ e. rw e (own_leaf w ∙ edit_stops w (leaf w) (leaf w) _))
      (λ e. rw e
      (ap own_to (ap (chunked_table (document_modify set clear) depth c p) (fill_node depth w)) ∙ own-table depth c p (fill_slot depth w)
      ∙ sym (ap (chunked_table (document_modify set clear) depth c p) (fill_node depth w))))
  passes depth c p (node f) = own-table depth c p f

  -- THE DOCUMENT'S MODIFY IN TWO PASSES
  module _ (c : MemoryRegion) (p : ℕ) (t : Tree) where
    abbrev parts : ℕ → List MemoryRegion
    parts depth = chunks (3 - depth) c.start.0 c.end.0

    pub pages_pass : sweep 0 (λ d x u. own_to u) (parts 0) p t ≡ chunked_table (document_modify set clear) 0 c p t
    unfolding chunked_table
    pages_pass = ap (λ (f : MemoryRegion → ℕ → Tree → Tree). sweep 0 f (parts 0) p t) (λ i d x u. passes_page d x u i)

    pub two_passes : (depth q : ℕ) (m : Map) → suc depth ≤ 3 → Pieces (suc depth) q m 0 p (parts (suc depth))
        → sweep (suc depth) (λ d x u. own_to u) (parts (suc depth)) p (sweep (suc depth) (down_to depth) (parts (suc depth)) p t)
        ≡ chunked_table (document_modify set clear) (suc depth) c p t
    unfolding chunked_table
    two_passes depth q m low all =
        sweep_twice (suc depth) q m low (down_to depth) (λ d x u. own_to u) (parts (suc depth)) 0 p t all
        ∙ ap (λ (f : MemoryRegion → ℕ → Tree → Tree). sweep (suc depth) f (parts (suc depth)) p t) (λ i d x u. passes depth d x u i)
