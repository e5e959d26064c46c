-- The numbers that a live modify lists, on the tree before it (document 01, "Putting down a map", Modify): "the page number (address / 4096
-- mod 2^44) of each valid entry whose word changed: a lower table's numbers when that table is finished, a table's own last, ascending".
-- Definitions alone.
use Rattle.std.specs.Prelude.{not, cond, ◌&&◌, List, [], ◌∷◌, ◌++◌, ℕ, zero, suc, ◌+◌, ◌-◌, ◌/◌, ◌%◌, ◌^◌, eqb}
use Rattle.entry.specs.Word.{valid, edited}
use Rattle.address_slot.specs.Slot.{entry_index}
use Rattle.region.specs.Region.{whole}
use Rattle.region.specs.Chunks.{chunks}
use Rattle.region.specs.declared.MemoryRegion.{MemoryRegion}
use Rattle.theory_forest.specs.Tree.{Tree, leaf, node}
use Rattle.theory_forest.specs.Walk.{walk_tree}
use Rattle.theory_tree.specs.Page.{pages_in, slot_of_page}
use Rattle.theory_tree.specs.Visit.{fill_tree}
use Rattle.theory_tree.specs.Needed.{slot_tree}

-- what `each` gives for a chunk and its slot of a table, one chunk after the other
unfoldable pub gathered : ℕ → (MemoryRegion → Tree → List ℕ) → List MemoryRegion → Tree → List ℕ
gathered depth each [] t = []
gathered depth each (c ∷ cs) t = each c (slot_tree t (entry_index (3 - depth) c.start.0)) ++ gathered depth each cs t

module _ (set clear : ℕ) where
  -- an entry that is edited: its page number if it is valid and its word changes
  unfoldable pub changed_number : MemoryRegion → ℕ → List ℕ
  changed_number c w = cond (valid w && not (eqb (edited set clear w) w)) (c.start.0 / 4096 % 2 ^ 44 ∷ []) []

  -- a table's own entry: no table, and covered as a whole
  unfoldable pub own_numbers : ℕ → MemoryRegion → Tree → List ℕ
  own_numbers zero c (leaf w) = changed_number c w
  own_numbers zero c (node f) = []
  own_numbers (suc depth) c (leaf w) = cond (whole (3 - suc depth) c) (changed_number c w) []
  own_numbers (suc depth) c (node f) = []

  -- the table below an entry: the one that is there, or that of a split; `rec` gives a table's numbers
  unfoldable pub lower_numbers : (MemoryRegion → Tree → List ℕ) → ℕ → MemoryRegion → Tree → List ℕ
  lower_numbers rec depth c (leaf w) = cond (whole (3 - suc depth) c) [] (rec c (fill_tree depth w))
  lower_numbers rec depth c (node f) = rec c (node f)

  -- a table with `depth` levels below its own, for the region c
  unfoldable pub table_numbers : ℕ → MemoryRegion → Tree → List ℕ
  table_numbers zero c t = gathered 0 (own_numbers 0) (chunks 3 c.start.0 c.end.0) t
  table_numbers (suc depth) c t =
      let cs = chunks (3 - suc depth) c.start.0 c.end.0 in
      gathered (suc depth) (lower_numbers (λ d u. table_numbers depth d u) depth) cs t ++ gathered (suc depth) (own_numbers (suc depth)) cs t

-- how often x stands in a list
unfoldable pub occurs : ℕ → List ℕ → ℕ
occurs x [] = 0
occurs x (y ∷ ys) = cond (eqb x y) 1 0 + occurs x ys

-- the first page of the entry that shows page y, in a tree with `depth` levels below
unfoldable pub first_page : ℕ → Tree → ℕ → ℕ
first_page depth t y = y - y % pages_in (walk_tree (slot_of_page y) depth t).depth
