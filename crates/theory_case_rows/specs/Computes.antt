-- What the bench cases compute with, in groups. A group says nothing itself: to unfold it is to unfold all that its own line names.
use Rattle.laws.specs.Size.{size_at, span, down, up}
use Rattle.laws.specs.Slot.{iter}
use Rattle.laws.specs.Part.{put_part}
use Rattle.laws.specs.Test.{all_below, all_from}
use Rattle.address.specs.Address.{align_up}
use Rattle.entry.specs.Word.{address_of, flags_of, kind_of, link_of, only, el1_flags, plain_flags, valid, leaf_word}
use Rattle.entry.specs.Sub.{in_pool, leads, sub_of}
use Rattle.address_slot.specs.Slot.{entry_last, entry_index, chunk_end}
use Rattle.region.specs.Region.{rounded, whole}
use Rattle.region.specs.Chunks.{met, chunks_in, chunks}
use Rattle.region.specs.Each.{each_of, each_chunk}
use Rattle.pool.specs.Number.{root_number, number_of, first_from, lowest_free, in_found, used, free}
use Rattle.pool.specs.Refuse.{max_tables, shaped, first_refused}
use Rattle.pool.specs.Sound.{flag_set, fits, leafb, namesb, hangsb, tableb, linkb, refersb, slotb, soundb}
use Rattle.pool_table.specs.Table.{put_table, zeros, clear, rising, take_at, take_found, take_table, free_sub, free_slot, free_tree}
use Rattle.region_verify.specs.Verify.{end_fits, in_range, verify}
use Rattle.map_rules.specs.Rules.{table_word, rule2, blockable, rule3, rule4, rule_of, fill_of}
use Rattle.map_split.specs.Split.{split_entry, below_of, below, into}
use Rattle.map_put.specs.Put.{drop_entry, by_rule, map_chunk, framed_chunk, each_map_chunk, map_range}
use Rattle.map_count_spec.specs.Needed.{if_down, sum_of, sum_chunks, child_word, needed_leaf, need_below, need_chunk, need_table, needed}
use Rattle.map_verify.specs.Verify.{asked_map, frame_asked, verify_map}
use Rattle.map_spec.specs.Call.{put_down, map_sound, map_call}

-- refusals 1 and 8, which every call asks: the pool's shape, and the check of its words and numbers
unfoldable pub checks : Unit {0}
unfolding size_at put_part all_below all_from address_of kind_of link_of only el1_flags plain_flags in_pool leads sub_of root_number put_table zeros
    max_tables shaped flag_set fits leafb namesb hangsb tableb linkb refersb slotb soundb
checks = tt

-- a region: rounded, refusals 2, 5 and 6, and its chunks
unfoldable pub regions : Unit {0}
unfolding down up align_up rounded end_fits span in_range verify entry_last entry_index chunk_end met chunks_in chunks
regions = tt

-- a table taken, filled and linked in the place of an entry
unfoldable pub takes : Unit {0}
unfolding flags_of valid leaf_word whole table_word fill_of number_of first_from lowest_free used free rising take_at take_found take_table split_entry
    below_of below
takes = tt

-- map: what is asked, the five rules, the new tables that are counted, and what is put down
unfoldable pub maps : Unit {0}
unfolding asked_map frame_asked first_refused verify_map rule2 blockable rule3 rule4 rule_of if_down sum_of sum_chunks child_word needed_leaf
    need_below need_chunk need_table needed iter clear free_sub free_slot free_tree in_found into drop_entry by_rule map_chunk each_of each_chunk
    framed_chunk each_map_chunk map_range put_down map_sound map_call
maps = tt
