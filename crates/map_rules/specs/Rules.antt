-- Document 01, "Putting down a map": the five rules for one chunk, and what a split fills.
use Rattle.std.specs.Prelude.{Bool, not, cond, ◌&&◌, List, ℕ, ◌+◌, ◌-◌, ◌%◌, eqb, leb, ltb}
use Rattle.laws.specs.Size.{size_at, down}
use Rattle.entry.specs.Word.{address_of, flags_of, valid, leaf_word}
use Rattle.region.specs.declared.MemoryRegion.{MemoryRegion}
use Rattle.region.specs.Region.{whole}
use Rattle.pool_table.specs.Table.{rising}
use Rattle.map_rules.specs.declared.Map.{Map}
use Rattle.map_rules.specs.declared.Rule.{Rule}
use Rattle.map_rules.specs.declared.Rule.TheVariants.{Write, Keep, Drop, Down}

-- the map of one chunk, with its frame
abbrev pub chunk_map : Map → MemoryRegion → ℕ → Map
chunk_map m c frame = record { region = c; frame = record { 0 = frame }; flags = m.flags; blocks = m.blocks }

-- a word with both low bits set, which above level 3 is a table
unfoldable pub table_word : ℕ → Bool
table_word w = eqb (w % 4) 3

-- rule 2: not a table, same flags, and frame at least the chunk's offset in the entry with difference equal to the entry's address
unfoldable pub rule2 : ℕ → Map → ℕ → Bool
rule2 level m w =
    let offset = m.region.start.0 % size_at level in
    not (table_word w) && (eqb (flags_of w) m.flags && (leb offset m.frame.0 && eqb (m.frame.0 - offset) (address_of w)))

-- rule 3: whole entry, not a table, frame aligned to the entry, blocks allowed, level above 0
unfoldable pub blockable : ℕ → Map → Bool
blockable level m = eqb (m.frame.0 % size_at level) 0 && (m.blocks && ltb 0 level)

unfoldable pub rule3 : ℕ → Map → ℕ → Bool
rule3 level m w = whole level m.region && (not (table_word w) && blockable level m)

-- rule 4: whole entry, a table, not VALID
unfoldable pub rule4 : ℕ → Map → ℕ → Bool
rule4 level m w = whole level m.region && (table_word w && not (valid m.flags))

-- the first rule that fits the word w of the chunk's entry
unfoldable pub rule_of : ℕ → Map → ℕ → Rule
rule_of level m w =
    cond (leb 3 level) (Write (leaf_word level m.frame.0 m.flags))
    (cond (rule2 level m w) Keep
    (cond (rule3 level m w) (Write (leaf_word level m.frame.0 m.flags))
    (cond (rule4 level m w) (Drop m.flags)
    Down)))

-- rule 5: a split fills the new table with the old entry: its address, cleared below the entry's size, in steps of the child's size, as
-- blocks or pages; the flags alone if it wasn't valid
unfoldable pub fill_of : ℕ → ℕ → List ℕ
fill_of level w =
    cond (valid w) (rising 512 (leaf_word (level + 1) (down (address_of w) (size_at level)) (flags_of w)) (size_at (level + 1)))
    (rising 512 (flags_of w) 0)
