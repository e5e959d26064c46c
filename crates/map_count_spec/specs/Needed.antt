-- Refusal 9's count (document 01, "The refusal slip"): the new tables that the rules of "Putting down a map" make, by plain recursion over
-- them. Leans on `Rules`.
use Rattle.std.specs.Prelude.{◌≡◌, refl, List, [], ◌∷◌, ◌⊎◌, ℕ, zero, suc, ◌+◌, ◌*◌, ◌-◌, ◌%◌, ◌≤◌, ◌<◌, get_or}
use Rattle.std.proofs.Common.{sym, ap, ◌∙◌, inl, inr, arith}
use Rattle.laws.specs.Size.{size_at, down}
use Rattle.laws.specs.Test.{le_or}
use Rattle.entry.specs.Word.{address_of, flags_of, leaf_word, flags_low}
use Rattle.entry.specs.Sub.{sub_of}
use Rattle.entry.specs.declared.Sub.{Sub}
use Rattle.entry.specs.declared.Sub.TheVariants.{Table, Outside, Leaf}
use Rattle.address_slot.specs.Slot.{entry_index, chunk_end}
use Rattle.region.specs.Region.{region}
use Rattle.region.specs.Chunks.{met, met-step, chunks, chunks_none, chunks-step}
use Rattle.region.specs.declared.MemoryRegion.{MemoryRegion}
use Rattle.pool.specs.State.{St, tables, word_at}
use Rattle.pool_table.specs.Table.{rising_at}
use Rattle.pool.specs.declared.Handle.{Handle}
use Rattle.map_rules.specs.declared.Map.{Map}
use Rattle.map_rules.specs.declared.Rule.{Rule}
use Rattle.map_rules.specs.declared.Rule.TheVariants.{Write, Keep, Drop, Down}
use Rattle.map_rules.specs.Rules.{rule_of, fill_of, chunk_map}
use Rattle.map_rules.specs.Fit.{leaf_block}
use Rattle.map_rules.specs.Laws.{fill_hole, fill_leaf}

-- only rule 5 makes tables
unfoldable pub if_down : Rule → ℕ → ℕ
if_down (Write x) n = 0
if_down Keep n = 0
if_down (Drop x) n = 0
if_down Down n = n

-- a sum over chunks, ascending: "the frame rises by the chunk's length after each"
unfoldable pub sum_of : (MemoryRegion → ℕ → ℕ) → List MemoryRegion → ℕ → ℕ
sum_of f [] frame = 0
sum_of f (c ∷ cs) frame = f c frame + sum_of f cs (frame + (c.end.0 - c.start.0))

unfoldable pub sum_chunks : ℕ → (Map → ℕ) → Map → ℕ
sum_chunks level f m = sum_of (λ c frame. f (chunk_map m c frame)) (chunks level m.region.start.0 m.region.end.0) m.frame.0

-- a split's word for the address a
unfoldable pub child_word : ℕ → ℕ → ℕ → ℕ
child_word level w a = get_or (fill_of level w) (entry_index (level + 1) a) 0

-- for a chunk of an entry that is no table, with the word w and `depth` levels below its table's: none unless rule 5 fits; else the split's
-- table, and what the entries of that table need
unfoldable pub needed_leaf : ℕ → Map → ℕ → ℕ
needed_leaf zero m w = 0
needed_leaf (suc depth) m w =
    let level = 3 - suc depth in
    let more = 1 + sum_chunks (3 - depth) (λ c. needed_leaf depth c (child_word level w c.region.start.0)) m in
    if_down (rule_of level m w) more

-- for a chunk of an entry where rule 5 fits: below the table that is there, or as for no table
unfoldable pub need_below : (ℕ → ℕ) → (ℕ → ℕ) → ℕ → Sub → ℕ
need_below rec leaf w (Table j) = rec j
need_below rec leaf w Outside = 0
need_below rec leaf w Leaf = leaf w

unfoldable pub need_chunk : (ℕ → Map → ℕ) → (Map → ℕ → ℕ) → Handle → St → ℕ → ℕ → Map → ℕ
need_chunk rec leaf h s k level m =
    let w = word_at s k (entry_index level m.region.start.0) in
    let below = need_below (λ j. rec j m) (λ x. leaf m x) w (sub_of h.base.0 (tables s) level w) in
    if_down (rule_of level m w) below

-- for a map of table k with `depth` levels below its own, where `leaf` counts for the entries that are no table
unfoldable pub need_table : (ℕ → Map → ℕ → ℕ) → ℕ → Handle → St → ℕ → Map → ℕ
need_table leaf zero h s k m = 0
need_table leaf (suc depth) h s k m =
    sum_chunks (3 - suc depth) (λ c. need_chunk (λ j n. need_table leaf depth h s j n) (leaf (suc depth)) h s k (3 - suc depth) c) m

-- "new tables needed"
unfoldable pub needed : ℕ → Handle → St → ℕ → Map → ℕ
needed depth h s k m = need_table needed_leaf depth h s k m

-- ---- the sum over chunks, from the front

-- the first chunk, and what remains after it
abbrev pub first_chunk : ℕ → Map → Map
first_chunk level m =
    chunk_map m (region m.region.start.0 (chunk_end level m.region.start.0 m.region.end.0)) m.frame.0

abbrev pub after_first : ℕ → Map → Map
after_first level m =
    let stop = chunk_end level m.region.start.0 m.region.end.0 in
    chunk_map m (region stop m.region.end.0) (m.frame.0 + (stop - m.region.start.0))

pub sum_none : (level : ℕ) (f : Map → ℕ) (m : Map) → m.region.end.0 ≤ m.region.start.0 → sum_chunks level f m ≡ 0
unfolding sum_chunks sum_of
sum_none level f m h = rw (chunks_none level m.region.start.0 m.region.end.0 h)

pub sum_first : (level : ℕ) (f : Map → ℕ) (m : Map) → m.region.start.0 < m.region.end.0
    → sum_chunks level f m ≡ f (first_chunk level m) + sum_chunks level f (after_first level m)
unfolding sum_chunks sum_of
sum_first level f m h = rw (chunks-step level m.region.start.0 m.region.end.0 h)

-- a sum is g of the whole where g is 0 of nothing and the first chunk's summand with g of what remains; I is what stays true on the way
pub sum_is : (level : ℕ) (f g : Map → ℕ) (I : Map → Type 0)
    → ((m : Map) → I m → m.region.end.0 ≤ m.region.start.0 → g m ≡ 0)
    → ((m : Map) → I m → m.region.start.0 < m.region.end.0
    → (g m ≡ f (first_chunk level m) + g (after_first level m)) × I (after_first level m))
    → (m : Map) → I m → sum_chunks level f m ≡ g m
sum_is level f g I none step m i = go (met level m.region.start.0 m.region.end.0) m i refl
  where
    go : (n : ℕ) (m : Map) → I m → met level m.region.start.0 m.region.end.0 ≡ n → sum_chunks level f m ≡ g m
    go zero m i q = stop (le_or m.region.end.0 m.region.start.0)
      where
        stop : (m.region.end.0 ≤ m.region.start.0) ⊎ (m.region.start.0 < m.region.end.0) → sum_chunks level f m ≡ g m
        stop (inl h) = sum_none level f m h ∙ sym (none m i h)
        stop (inr h) = absurd (let k = met-step level m.region.start.0 m.region.end.0 h in omega arith)
    go (suc n) m i q = more (le_or m.region.end.0 m.region.start.0) (go n (after_first level m))
      where
        more : (m.region.end.0 ≤ m.region.start.0) ⊎ (m.region.start.0 < m.region.end.0)
            → (I (after_first level m) → met level (after_first level m).region.start.0 m.region.end.0 ≡ n
            → sum_chunks level f (after_first level m) ≡ g (after_first level m))
            → sum_chunks level f m ≡ g m
        more (inl h) ih = sum_none level f m h ∙ sym (none m i h)
        more (inr h) ih =
            let p = step m i h in
            let k = met-step level m.region.start.0 m.region.end.0 h in
            let r = ih p.1 (omega arith) in
            sum_first level f m h ∙ ap (λ (x : ℕ). f (first_chunk level m) + x) r ∙ sym p.0

-- ---- the words of a split

pub slot_below : (level a : ℕ) → entry_index level a < 512
unfolding entry_index
slot_below level a = omega arith

-- of a hole: its flags alone
pub child_hole : (level w a : ℕ) → (w % 2 ≡ 1 → ⊥) → child_word level w a ≡ flags_of w
unfolding child_word
child_hole level w a n =
    let i = entry_index (level + 1) a in
    ap (λ (t : List ℕ). get_or t i 0) (sym (fill_hole level w n)) ∙ rising_at 512 (flags_of w) 0 i (slot_below (level + 1) a)
    ∙ (let e : flags_of w + i * 0 ≡ flags_of w = omega arith in e)

-- of a valid entry: its parts, one after the other
pub child_part : (level w a : ℕ) → w % 2 ≡ 1
    → child_word level w a
    ≡ leaf_word (level + 1) (down (address_of w) (size_at level)) (flags_of w) + entry_index (level + 1) a * size_at (level + 1)
unfolding child_word
child_part level w a e =
    let i = entry_index (level + 1) a in
    ap (λ (t : List ℕ). get_or t i 0) (sym (fill_leaf level w e))
    ∙ rising_at 512 (leaf_word (level + 1) (down (address_of w) (size_at level)) (flags_of w)) (size_at (level + 1)) i (slot_below (level + 1) a)

-- above level 3 a part is a block
pub child_block : (level w a : ℕ) → level + 1 < 3 → w % 2 ≡ 1
    → child_word level w a ≡ down (address_of w) (size_at level) + entry_index (level + 1) a * size_at (level + 1) + flags_of w
child_block level w a h e =
    let r = child_part level w a e in
    let f = leaf_block (level + 1) (down (address_of w) (size_at level)) (flags_of w) (omega (arith, flags_low w)) h in
    omega arith
