-- Steps on a sound pool's lists: a move of the forest at a slot, or work at a table, that keeps the lists' lengths. The pool is sound
-- again, and the table stays.
use Rattle.std.specs.Prelude.{◌≡◌, ℕ, ◌+◌, ◌%◌, ◌<◌}
use Rattle.std.proofs.Common.{sym, ap, ◌∙◌}
use Rattle.pool.specs.State.{St, word_at}
use Rattle.pool.specs.Refuse.{Shaped}
use Rattle.pool.specs.Sound.{flag_set}
use Rattle.pool.specs.declared.Handle.{Handle}
use Rattle.theory_forest.specs.Tree.{Tree}
use Rattle.theory_forest.specs.Sound.{TableWord, IsTable}
use Rattle.theory_forest.specs.Move.{Move, TableMove}
use Rattle.theory_sound.specs.Codec.{Placed, codec_of, view, word_in, root_tree}
use Rattle.theory_sound.specs.Clauses.{InUse, level_at, LeafWord, SoundPool}
use Rattle.theory_sound.specs.Lists.{SameSize}

-- the word v may stand as a leaf in a table of this level
pub record Stands (h : Handle) (level v : ℕ) : Type 0 where
  pub plain : ¬ (TableWord level v)
  pub leaf : LeafWord (flag_set h) level v

-- a word that is no table word is none for the forest
pub not_table : {h : Handle} (placed : Placed h) (s : St) (k i : ℕ) → i < 512 → ¬ (TableWord (level_at s k) (word_at s k i))
    → ¬ (IsTable (codec_of h placed) (view s) k i)
not_table placed s k i inside old table = old (table.0, ap (λ (w : ℕ). w % 4) (sym (word_in s k i inside)) ∙ table.1)

-- ---- where a step stands

-- table k is a used table of a sound pool, with `depth` levels below its own
pub record Ready (h : Handle) (s : St) (depth k : ℕ) : Type 0 where
  pub shape : Shaped h s
  pub pool : SoundPool h s
  pub used : InUse s k
  pub low : level_at s k + depth ≡ 3

-- ---- what a step is

module _ (h : Handle) (placed : Placed h) (s s' : St) (depth p : ℕ) where
  -- s' is s after a step at slot i of table p, which has `depth` levels below its own; the slot now shows the tree t
  pub record Step (i : ℕ) (t : Tree) : Type 0 where
    pub move : Move (codec_of h placed) (view s) (view s') depth p i t
    pub size : SameSize s s'

  -- s' is s after work at table p, which has `depth` levels below its own; the table now shows the tree t
  pub record Worked (t : Tree) : Type 0 where
    pub work : TableMove (codec_of h placed) (view s) (view s') depth p t
    pub size : SameSize s s'

-- ---- work at the root

-- s' is sound, in lists as long as those of s, and its root shows t
pub record Leaves (h : Handle) (s s' : St) (t : Tree) : Type 0 where
  pub shape : Shaped h s'
  pub pool : SoundPool h s'
  pub size : SameSize s s'
  pub tree : root_tree h s' ≡ t
