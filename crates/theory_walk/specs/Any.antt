-- In any pool, sound or not, the walk of the words is the walk of the tree that they show, wherever the Arm walk does not lead away.
use Rattle.std.specs.Prelude.{Bool, ◌&&◌, leb, ltb}
use Prim.Native.Nat.{ℕ, ◌+◌, ◌*◌, ◌-◌, ◌/◌}
use Rattle.pool.specs.State.{St}
use Rattle.theory_forest.specs.Tree.{Tree, tree_at}
use Rattle.theory_forest.specs.Walk.{Ends}
use Rattle.theory_sound.specs.Codec.{slot_word}
use Rattle.arm.specs.Arm.{index, table_address, Reached, at}

-- the slots that the walk of an address takes, by the levels left
unfoldable pub slots_taken : ℕ → ℕ → ℕ
slots_taken va depth = index (3 - depth) va

-- where a walk of the tree ends, in the manual's terms: the descriptor and its level
unfoldable pub reached_at : Ends → Reached
reached_at e = at (3 - e.depth) e.word

-- a pool of n tables from base on: whether it has the table that a Table descriptor refers to, and which one that is
unfoldable pub has_table : ℕ → ℕ → ℕ → Bool
has_table base n w = leb base (table_address w) && ltb (table_address w) (base + 4096 * n)

unfoldable pub table_of : ℕ → ℕ → ℕ
table_of base w = (table_address w - base) / 4096

-- the tree that the words show, read as the Arm walk follows them: of table k, with `depth` levels below its own
abbrev pub tree_read : ℕ → St → ℕ → ℕ → Tree
tree_read base s depth k = tree_at (table_of base) depth (slot_word s) k
