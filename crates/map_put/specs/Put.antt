-- Document 01, "Putting down a map": what is done by each rule, the chunks of a table in ascending order, one level after the other.
use Rattle.std.specs.Prelude.{ℕ, zero, suc, ◌+◌, ◌-◌}
use Rattle.entry.specs.Sub.{sub_of}
use Rattle.address_slot.specs.Slot.{entry_index}
use Rattle.region.specs.Each.{each_chunk}
use Rattle.region.specs.declared.MemoryRegion.{MemoryRegion}
use Rattle.pool.specs.State.{St, tables, word_at, store_at}
use Rattle.pool_table.specs.Table.{free_sub, free_tree}
use Rattle.pool.specs.declared.Handle.{Handle}
use Rattle.map_rules.specs.declared.Map.{Map}
use Rattle.map_rules.specs.declared.Rule.{Rule}
use Rattle.map_rules.specs.declared.Rule.TheVariants.{Write, Keep, Drop, Down}
use Rattle.map_rules.specs.Rules.{rule_of, chunk_map}
use Rattle.map_split.specs.Split.{below, into}

-- what the word w of a table at this level refers to is freed
unfoldable pub drop_entry : Handle → ℕ → ℕ → St → St
drop_entry h level w s = free_sub (λ j t. free_tree (3 - (level + 1)) h j t) (sub_of h.base.0 (tables s) level w) s

-- a rule carried out on slot i of table k; `rec` goes on one level down
unfoldable pub by_rule : (ℕ → St → St) → Handle → ℕ → ℕ → ℕ → Rule → St → St
by_rule rec h k level i (Write x) s = store_at k i x s
by_rule rec h k level i Keep s = s
by_rule rec h k level i (Drop x) s = drop_entry h level (word_at s k i) (store_at k i x s)
by_rule rec h k level i Down s = into rec (below h k level i s)

-- one chunk of table k
unfoldable pub map_chunk : (ℕ → Map → St → St) → Handle → ℕ → ℕ → Map → St → St
map_chunk rec h k level m s =
    let i = entry_index level m.region.start.0 in
    by_rule (λ j t. rec j m t) h k level i (rule_of level m (word_at s k i)) s

-- the frame of the next chunk, and the state that the chunks before it left
pub record Framed : Type 0 where
  pub frame : ℕ
  pub state : St

abbrev pub framed : ℕ → St → Framed
framed p s = record { frame = p; state = s }

-- one chunk at its frame: "the frame rises by the chunk's length after each"
unfoldable pub framed_chunk : (Map → St → St) → Map → MemoryRegion → Framed → Framed
framed_chunk f m c x = framed (x.frame + (c.end.0 - c.start.0)) (f (chunk_map m c x.frame) x.state)

-- "for each chunk, ascending"
unfoldable pub each_map_chunk : ℕ → (Map → St → St) → Map → St → St
each_map_chunk level f m s = (each_chunk level (framed_chunk f m) m.region (framed m.frame.0 s)).state

-- a map of table k with `depth` levels below its own
unfoldable pub map_range : ℕ → Handle → ℕ → Map → St → St
map_range zero h k m s = each_map_chunk 3 (map_chunk (λ j n t. t) h k 3) m s
map_range (suc depth) h k m s = each_map_chunk (3 - suc depth) (map_chunk (λ j n t. map_range depth h j n t) h k (3 - suc depth)) m s
