-- The new tables that the document's loop takes, chunk by chunk (refusal 9's count), are those that the visit takes.
use Rattle.std.specs.Prelude.{List, [], ◌∷◌}
use Prim.Native.Nat.{ℕ, zero, suc, ◌+◌, ◌-◌}
use Rattle.address_slot.specs.Slot.{entry_index}
use Rattle.region.specs.Chunks.{chunks}
use Rattle.region.specs.declared.MemoryRegion.{MemoryRegion}
use Rattle.theory_forest.specs.Tree.{Tree, leaf, node}
use Rattle.theory_tree.specs.Visit.{Rule, opened, splits, counted}

-- ---- the count, chunk by chunk

-- what a slot of a table shows
unfoldable pub slot_tree : Tree → ℕ → Tree
slot_tree (leaf w) i = leaf w
slot_tree (node f) i = f i

-- `each` counts a chunk, with its frame, of an entry
unfoldable pub tallied : ℕ → (MemoryRegion → ℕ → Tree → ℕ) → List MemoryRegion → ℕ → Tree → ℕ
tallied depth each [] frame t = 0
tallied depth each (c ∷ cs) frame t =
    each c frame (slot_tree t (entry_index (3 - depth) c.start.0)) + tallied depth each cs (frame + (c.end.0 - c.start.0)) t

module _ (rules : ℕ → MemoryRegion → ℕ → Tree → Rule) where
  -- the new tables for the chunk c of an entry with `depth` levels below: one for a split, and those for the chunks below
  unfoldable pub needed : ℕ → MemoryRegion → ℕ → Tree → ℕ
  needed zero c frame t = 0
  needed (suc depth) c frame t =
      let below = splits t
      + tallied depth (λ d p u. needed depth d p u) (chunks (3 - depth) c.start.0 c.end.0) frame (opened depth t) in
      counted (rules (suc depth) c frame t) 0 below

  -- the new tables for the region c of a table
  unfoldable pub needed_table : ℕ → MemoryRegion → ℕ → Tree → ℕ
  needed_table depth c frame t = tallied depth (λ d p u. needed depth d p u) (chunks (3 - depth) c.start.0 c.end.0) frame t
