-- A modify of a table of a sound pool does on lists what the document's loop does on the table's tree, with no more tables than that needs
-- (no split meets a full pool), and puts into the list the numbers of the table's tree, in the document's order.
use mathlib.Core.List.{List}
use Prim.Native.Nat.{ℕ}
use Rattle.region.specs.declared.MemoryRegion.{MemoryRegion}
use Rattle.modify_entry.specs.declared.Edit.{Edit}
use Rattle.theory_forest.specs.Tree.{Tree}
use Rattle.theory_tree.specs.Chunks.{chunked_table}
use Rattle.theory_tree.specs.Needed.{needed_table}
use Rattle.theory_tree.specs.DocumentModify.{document_modify}
use Rattle.theory_modify.specs.Numbers.{table_numbers}

-- ---- the document's loop on trees, for an edit of a table's region; p is a frame, which is not read

abbrev pub edit_table : Edit → ℕ → ℕ → Tree → Tree
edit_table e depth p t = chunked_table (document_modify e.set e.clear) depth e.region p t

abbrev pub edit_takes : Edit → ℕ → ℕ → Tree → ℕ
edit_takes e depth p t = needed_table (document_modify e.set e.clear) depth e.region p t

-- the numbers of the tables below, and those of a table's own entries
abbrev pub edit_numbers : Edit → ℕ → MemoryRegion → Tree → List ℕ
edit_numbers e depth r t = table_numbers e.set e.clear depth r t
