-- Modify word for word, over addresses and chunk by chunk: it is the modify of `Modify`, and takes as many tables. The frame is not read.
use Rattle.std.specs.Prelude.{cond}
use Prim.Native.Nat.{ℕ, zero, suc, ◌-◌, ◌/◌}
use Rattle.region.specs.Region.{whole}
use Rattle.region.specs.declared.MemoryRegion.{MemoryRegion}
use Rattle.theory_forest.specs.Tree.{Tree, leaf, node}
use Rattle.theory_tree.specs.Visit.{Rule, keep, down}
use Rattle.theory_tree.specs.Modify.{Modify, edit_rule}

module _ (set clear : ℕ) where
  -- what is done with the chunk c of an entry with `depth` levels below: a valid word is edited where the chunk is the whole entry; else go
  -- down
  unfoldable pub document_modify : ℕ → MemoryRegion → ℕ → Tree → Rule
  document_modify zero c frame (leaf w) = edit_rule set clear w
  document_modify zero c frame (node f) = keep
  document_modify (suc depth) c frame (leaf w) = cond (whole (3 - suc depth) c) (edit_rule set clear w) down
  document_modify (suc depth) c frame (node f) = down

  -- addresses as a call in pages
  abbrev pub modify_pages : ℕ → ℕ → Modify
  modify_pages start end = record { from = start / 4096; upto = end / 4096; set = set; clear = clear }
