-- What a change of words does to trees. The frame lemma: a tree depends only on the tables under it.
use Rattle.std.specs.Prelude.{◌≡◌, ◌≢◌, ℕ}
use Rattle.theory_forest.specs.Tree.{Tree, tree_at, entry}
use Rattle.theory_forest.specs.Sound.{State, Codec, Used, Refers}
use Rattle.theory_forest.specs.Under.{Under, NotUnder}

module _ (C : Codec) where
  -- the tree of table k, and the tree in its slot i, where k has `depth` levels below its own
  abbrev pub tree_of : State → ℕ → ℕ → Tree
  tree_of s depth k = tree_at C.child depth s.word k

  abbrev pub slot_tree : State → ℕ → ℕ → ℕ → Tree
  slot_tree s depth k i = entry C.child depth s.word (s.word k i)

  -- no table that slot i of k refers to is over j
  abbrev pub NotUnderSlot : State → ℕ → ℕ → ℕ → Type 0
  NotUnderSlot s k i j = (c d : ℕ) → Refers C s k i c → ¬ (Under C s c d j)

  -- the words of used tables change only in slot i of table k and under it
  pub record Change (s s' : State) (k i : ℕ) : Type 0 where
    pub slots : (i' : ℕ) → i' ≢ i → s'.word k i' ≡ s.word k i'
    pub others : (j : ℕ) → Used s j → j ≢ k → NotUnderSlot s k i j → (i' : ℕ) → s'.word j i' ≡ s.word j i'

  -- the words of used tables change only in table k and under it
  abbrev pub Outside : State → State → ℕ → Type 0
  Outside s s' k = (j : ℕ) → Used s j → NotUnder C s k j → (i : ℕ) → s'.word j i ≡ s.word j i
