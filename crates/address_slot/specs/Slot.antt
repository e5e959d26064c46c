-- The entry of a level that holds an address, and where a chunk ends.
use Rattle.std.specs.Prelude.{ℕ, ◌+◌, ◌-◌, ◌/◌, ◌%◌, min}
use Rattle.laws.specs.Size.{size_at, down}

-- the last address of the entry that holds a
unfoldable pub entry_last : ℕ → ℕ → ℕ
entry_last level a = down a (size_at level) + (size_at level - 1)

-- the slot of that entry in its table
unfoldable pub entry_index : ℕ → ℕ → ℕ
entry_index level a = a / size_at level % 512

-- where the chunk that begins at s ends: with its entry, or with the region
unfoldable pub chunk_end : ℕ → ℕ → ℕ → ℕ
chunk_end level s e = min e (entry_last level s + 1)
