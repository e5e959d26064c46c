-- Refusal 9's count on lists is the count on trees: the new tables that the document's loop takes.
use Rattle.std.specs.Prelude.{◌≡◌, ◌≢◌, get_or}
use Rattle.std.proofs.Math.Path.{refl, sym, ap}
use Rattle.std.proofs.Common.{ap₂, ◌∙◌}
use mathlib.Core.List.{List, [], ◌∷◌}
use Prim.Native.Nat.{ℕ, zero, suc, ◌+◌, ◌-◌, ◌%◌, ◌≤◌, ◌<◌}
use native.Mathlib.Omega.{arith}
use Rattle.entry.specs.Sub.{sub_of}
use Rattle.entry.specs.declared.Sub.TheVariants.{Table, Leaf}
use Rattle.address_slot.specs.Slot.{entry_index}
use Rattle.region.specs.Chunks.{chunks}
use Rattle.region.specs.declared.MemoryRegion.{MemoryRegion}
use Rattle.pool.specs.State.{St, tables, word_at}
use Rattle.pool.specs.declared.Handle.{Handle}
use Rattle.map_rules.specs.declared.Map.{Map}
use Rattle.map_rules.specs.declared.Rule.{Rule}
use Rattle.map_rules.specs.declared.Rule.TheVariants.{Write, Keep, Drop, Down}
use Rattle.map_rules.specs.Rules.{rule_of, fill_of, chunk_map}
use Rattle.map_count_spec.specs.Needed.{if_down, sum_of, sum_chunks, child_word, needed_leaf, need_below, need_chunk, need_table, needed}
use Rattle.map_count_spec.specs.Needed.{slot_below}
use Rattle.theory_forest.specs.Tree.{Tree, leaf, node, tree_at_node}
use Rattle.theory_forest.specs.Sound.{Refers}
use Rattle.theory_sound.specs.Codec.{Placed, codec_of, child_of, slot_word, view, tree_from}
use Rattle.theory_sound.specs.Step.{Ready}
use Rattle.theory_sound.proofs.Step.{refers_ready}
use Rattle.theory_sound.specs.Slot.{slot_shows, HoldsLeaf, SlotHolds, holds_table, holds_leaf}
use Rattle.theory_sound.proofs.Slot.{holds}
use Rattle.theory_tree.specs.Word.{fill_word}
use Rattle.theory_tree.specs.Fine.{Fine}
use Rattle.theory_tree.proofs.Fine.{fine_fill}
use Rattle.theory_tree.specs.Visit.{keep, write, counted, fill_tree}
use Rattle.theory_tree.proofs.Slots.{fill_node, fill_slot_lem}
use Rattle.theory_tree.specs.Needed as trees
use Rattle.theory_tree.specs.Document.{document_rule}
use Rattle.theory_map.specs.Leaf.{holds_fine}
use Rattle.theory_map.specs.Rule.{says_of, LeafRule, keeps, writes, splits, TableRule, drops, enters, leaf_rule, table-rule, fill_at}
use Rattle.theory_map.specs.Pieces.{takes, takes_table}
use Rattle.theory_map.specs.Chunk.{takes-split, takes_enter}
use Rattle.theory_map.specs.Loop.{slot_of_lem}

-- nothing is taken unless the rule goes down
takes_keep : (m : Map) (depth : ℕ) (t : Tree) → says_of m depth t ≡ keep → takes m depth t ≡ 0
unfolding trees.needed counted
takes_keep m zero t e = refl
takes_keep m (suc depth) t e = rw e

takes_write : (m : Map) (depth x : ℕ) (t : Tree) → says_of m depth t ≡ write x → takes m depth t ≡ 0
unfolding trees.needed counted
takes_write m zero x t e = refl
takes_write m (suc depth) x t e = rw e

-- ---- chunk by chunk

-- what a chunk with its frame takes, in an entry
abbrev count : Map → ℕ → MemoryRegion → ℕ → Tree → ℕ
count m depth c p u = trees.needed (document_rule m.flags m.blocks) depth c p u

sum-tally : (m : Map) (depth : ℕ) (f : Map → ℕ) (t : Tree)
    → ((c : MemoryRegion) (p : ℕ)
    → f (chunk_map m c p) ≡ takes (chunk_map m c p) depth (trees.slot_tree t (entry_index (3 - depth) c.start.0)))
    → (cs : List MemoryRegion) (p : ℕ)
    → sum_of (λ c frame. f (chunk_map m c frame)) cs p ≡ trees.tallied depth (λ d x u. count m depth d x u) cs p t
unfolding sum_of trees.tallied
sum-tally m depth f t each [] p = refl
sum-tally m depth f t each (c ∷ cs) p = ap₂ ◌+◌ (each c p) (sum-tally m depth f t each cs (p + (c.end.0 - c.start.0)))

sum-takes : (m : Map) (depth : ℕ) (f : Map → ℕ) (t : Tree)
    → ((c : MemoryRegion) (p : ℕ)
    → f (chunk_map m c p) ≡ takes (chunk_map m c p) depth (trees.slot_tree t (entry_index (3 - depth) c.start.0)))
    → sum_chunks (3 - depth) f m ≡ takes_table m depth t
unfolding sum_chunks trees.needed_table
sum-takes m depth f t each = sum-tally m depth f t each (chunks (3 - depth) m.region.start.0 m.region.end.0) m.frame.0

-- ---- an entry that is no table

-- the word of a split
child_fill : (depth w a : ℕ) → suc depth ≤ 3 → child_word (3 - suc depth) w a ≡ fill_word depth w (entry_index (3 - depth) a)
unfolding child_word
child_fill depth w a low =
    let up : 3 - suc depth + 1 ≡ 3 - depth = omega arith in
    ap (λ (l : ℕ). get_or (fill_of (3 - suc depth) w) (entry_index l a) 0) up
    ∙ fill_at depth w low (entry_index (3 - depth) a) (slot_below (3 - depth) a)

pub slot_fill : (depth w i : ℕ) → i < 512 → trees.slot_tree (fill_tree depth w) i ≡ leaf (fill_word depth w i)
unfolding trees.slot_tree
slot_fill depth w i inside = ap (λ (t : Tree). trees.slot_tree t i) (fill_node depth w) ∙ fill_slot_lem depth w i inside

needed-split : (m : Map) (depth w : ℕ) → rule_of (3 - suc depth) m w ≡ Down
    → needed_leaf (suc depth) m w ≡ 1 + sum_chunks (3 - depth) (λ c. needed_leaf depth c (child_word (3 - suc depth) w c.region.start.0)) m
unfolding needed_leaf if_down
needed-split m depth w r = rw r

needed_keep : (m : Map) (depth w : ℕ) → rule_of (3 - suc depth) m w ≡ Keep → needed_leaf (suc depth) m w ≡ 0
unfolding needed_leaf if_down
needed_keep m depth w r = rw r

needed_write : (m : Map) (depth w x : ℕ) → rule_of (3 - suc depth) m w ≡ Write x → needed_leaf (suc depth) m w ≡ 0
unfolding needed_leaf if_down
needed_write m depth w x r = rw r

pub leaf_needs : (depth : ℕ) (m : Map) (w : ℕ) → depth ≤ 3 → Fine depth w → needed_leaf depth m w ≡ takes m depth (leaf w)
unfolding needed_leaf trees.needed
leaf_needs zero m w low fine = refl
leaf_needs (suc depth) m w low fine = go (leaf_rule m depth w low (λ both. omega (arith, fine.clear (omega arith)))) (leaf_needs depth)
  where
    go : LeafRule (3 - suc depth) m (suc depth) w
        → ((m : Map) (w : ℕ) → depth ≤ 3 → Fine depth w → needed_leaf depth m w ≡ takes m depth (leaf w))
        → needed_leaf (suc depth) m w ≡ takes m (suc depth) (leaf w)
    go (keeps r e) below = needed_keep m depth w r ∙ sym (takes_keep m (suc depth) (leaf w) e)
    go (writes x r e) below = needed_write m depth w x r ∙ sym (takes_write m (suc depth) x (leaf w) e)
    go (splits r e) below =
        needed-split m depth w r
        ∙ ap (λ (n : ℕ). 1 + n)
        (sum-takes m depth (λ c. needed_leaf depth c (child_word (3 - suc depth) w c.region.start.0)) (fill_tree depth w) (λ c p.
        let i : ℕ = entry_index (3 - depth) c.start.0 in
        let inside = slot_below (3 - depth) c.start.0 in
        ap (needed_leaf depth (chunk_map m c p)) (child_fill depth w c.start.0 low)
        ∙ below (chunk_map m c p) (fill_word depth w i) (omega arith) (fine_fill depth w fine i inside)
        ∙ ap (takes (chunk_map m c p) depth) (sym (slot_fill depth w i inside))))
        ∙ sym (takes-split m depth w e)

-- ---- a table of a sound pool

module _ (rec : ℕ → Map → ℕ) (count : Map → ℕ → ℕ) (h : Handle) (s : St) (k level : ℕ) (m : Map) where
  abbrev w : ℕ
  w = word_at s k (entry_index level m.region.start.0)

  chunk-not : (r : Rule) → rule_of level m w ≡ r → ((n : ℕ) → if_down r n ≡ 0) → need_chunk rec count h s k level m ≡ 0
  unfolding need_chunk
  chunk-not r e none = rw e (none _)

  chunk_leaf : rule_of level m w ≡ Down → sub_of h.base.0 (tables s) level w ≡ Leaf → need_chunk rec count h s k level m ≡ count m w
  unfolding need_chunk need_below if_down
  chunk_leaf r e = rw (r, e)

  chunk-table : (j : ℕ) → rule_of level m w ≡ Down → sub_of h.base.0 (tables s) level w ≡ Table j
      → need_chunk rec count h s k level m ≡ rec j m
  unfolding need_chunk need_below if_down
  chunk-table j r e = rw (r, e)

if_keep : (n : ℕ) → if_down Keep n ≡ 0
unfolding if_down
if_keep n = refl

if_write : (x n : ℕ) → if_down (Write x) n ≡ 0
unfolding if_down
if_write x n = refl

if_drop : (x n : ℕ) → if_down (Drop x) n ≡ 0
unfolding if_down
if_drop x n = refl

module _ {h : Handle} (placed : Placed h) where
  -- what is known of the tables one level down
  abbrev Counts : ℕ → Type 0
  Counts depth =
      (k : ℕ) (m : Map) (s : St) → Ready h s depth k → need_table needed_leaf depth h s k m ≡ takes_table m depth (tree_from h s depth k)

  module _ (depth k : ℕ) (m : Map) (s : St) (R : Ready h s (suc depth) k) (counts : Counts depth) where
    abbrev level : ℕ
    level = 3 - suc depth

    abbrev i : ℕ
    i = entry_index level m.region.start.0

    abbrev x : ℕ
    x = word_at s k i

    inside : i < 512
    inside = slot_below level m.region.start.0

    low : suc depth ≤ 3
    low = omega (arith, R.low)

    abbrev needs : ℕ
    needs = need_chunk (λ j n. need_table needed_leaf depth h s j n) (λ c y. needed_leaf (suc depth) c y) h s k level m

    by_leaf : x % 4 ≢ 3 → HoldsLeaf h s (suc depth) k i → needs ≡ takes m (suc depth) (slot_shows h s (suc depth) k i)
    by_leaf other plain = go (leaf_rule m depth x low other) ∙ ap (takes m (suc depth)) (sym plain.shows)
      where
        go : LeafRule level m (suc depth) x → needs ≡ takes m (suc depth) (leaf x)
        go (keeps r e) = chunk-not _ _ h s k level m Keep r if_keep ∙ sym (takes_keep m (suc depth) (leaf x) e)
        go (writes y r e) = chunk-not _ _ h s k level m (Write y) r (if_write y) ∙ sym (takes_write m (suc depth) y (leaf x) e)
        go (splits r e) =
            chunk_leaf _ _ h s k level m r plain.leads ∙ leaf_needs (suc depth) m x low (holds_fine placed R i inside plain)

    by_table : (e : ℕ) → Refers (codec_of h placed) (view s) k i e → sub_of h.base.0 (tables s) level x ≡ Table e
        → TableRule level m (suc depth) x (λ j. slot_shows h s depth e j)
        → needs ≡ takes m (suc depth) (node (λ j. slot_shows h s depth e j))
    by_table e r leads (drops rule says) =
        chunk-not _ _ h s k level m (Drop m.flags) rule (if_drop m.flags) ∙ sym (takes_write m (suc depth) m.flags _ says)
    by_table e r leads (enters rule says) =
        chunk-table _ _ h s k level m e rule leads ∙ counts e m s (refers_ready placed R r)
        ∙ ap (takes_table m depth) (tree_at_node (child_of h.base.0) depth (slot_word s) e)
        ∙ sym (takes_enter m depth (λ j. slot_shows h s depth e j) says)

    chunk-needs : needs ≡ takes m (suc depth) (slot_shows h s (suc depth) k i)
    chunk-needs = go (holds placed R i inside)
      where
        go : SlotHolds placed s depth k i → needs ≡ takes m (suc depth) (slot_shows h s (suc depth) k i)
        go (holds_table e r both leads shows) =
            by_table e r leads (table-rule m depth x low (λ j. slot_shows h s depth e j) both) ∙ ap (takes m (suc depth)) (sym shows)
        go (holds_leaf other plain) = by_leaf other plain

  tally_none : (m : Map) (cs : List MemoryRegion) (p : ℕ) (t : Tree) → trees.tallied 0 (λ d x u. count m 0 d x u) cs p t ≡ 0
  unfolding trees.tallied trees.needed
  tally_none m [] p t = refl
  tally_none m (c ∷ cs) p t = let z = tally_none m cs (p + (c.end.0 - c.start.0)) t in omega arith

  table-needs : (depth : ℕ) → Counts depth
  unfolding need_table trees.needed_table
  table-needs zero k m s R = sym (tally_none m (chunks 3 m.region.start.0 m.region.end.0) m.frame.0 (tree_from h s 0 k))
  table-needs (suc depth) k m s R =
      sum-takes m (suc depth) _ (tree_from h s (suc depth) k) (λ c p.
      chunk-needs depth k (chunk_map m c p) s R (table-needs depth)
      ∙ ap (takes (chunk_map m c p) (suc depth)) (sym (slot_of_lem h s (suc depth) k (entry_index (3 - suc depth) c.start.0))))

  -- REFUSAL 9'S COUNT
  pub needed_is : (depth k : ℕ) (m : Map) (s : St) → Ready h s depth k
      → needed depth h s k m ≡ takes_table m depth (tree_from h s depth k)
  unfolding needed
  needed_is depth k m s R = table-needs depth k m s R
