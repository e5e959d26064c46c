-- What a slot of a ready table holds, and shows: a table of the pool, or a leaf.
use Rattle.std.specs.Prelude.{◌≡◌, ◌≢◌, ℕ, suc, ◌-◌, ◌%◌}
use Rattle.entry.specs.Sub.{sub_of}
use Rattle.entry.specs.declared.Sub.TheVariants.{Table, Leaf}
use Rattle.pool.specs.State.{St, tables, word_at}
use Rattle.pool.specs.declared.Handle.{Handle}
use Rattle.theory_forest.specs.Tree.{Tree, leaf, node, entry}
use Rattle.theory_forest.specs.Sound.{TableWord, Refers}
use Rattle.theory_sound.specs.Codec.{Placed, codec_of, child_of, slot_word, view}
use Rattle.theory_sound.specs.Clauses.{level_at}

-- the tree in slot i of table k, which has `depth` levels below its own
abbrev pub slot_shows : Handle → St → ℕ → ℕ → ℕ → Tree
slot_shows h s depth k i = entry (child_of h.base.0) depth (slot_word s) (slot_word s k i)

-- slot i of table k, which has `depth` levels below its own, holds no table
pub record HoldsLeaf (h : Handle) (s : St) (depth k i : ℕ) : Type 0 where
  pub plain : ¬ (TableWord (level_at s k) (word_at s k i))
  pub leads : sub_of h.base.0 (tables s) (3 - depth) (word_at s k i) ≡ Leaf
  pub shows : slot_shows h s depth k i ≡ leaf (word_at s k i)

-- above the lowest level: table e of the pool, or no table
pub data SlotHolds {h : Handle} (placed : Placed h) (s : St) (depth k i : ℕ) : Type 0 where
  holds_table : (e : ℕ) → Refers (codec_of h placed) (view s) k i e → word_at s k i % 4 ≡ 3
      → sub_of h.base.0 (tables s) (3 - suc depth) (word_at s k i) ≡ Table e
      → slot_shows h s (suc depth) k i ≡ node (λ j. slot_shows h s depth e j) → SlotHolds placed s depth k i
  holds_leaf : word_at s k i % 4 ≢ 3 → HoldsLeaf h s (suc depth) k i → SlotHolds placed s depth k i
