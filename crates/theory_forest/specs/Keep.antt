-- What the steps share: a word that may stand as a leaf, and what of a table must stay so that it still hangs.
use Rattle.std.specs.Prelude.{◌≡◌, ◌⊎◌, ◌≢◌, ℕ, zero, suc, ◌+◌}
use Rattle.std.proofs.Common.{ap, ◌∙◌, inl, inr, arith}
use Rattle.laws.specs.Test.{eq_or}
use Rattle.theory_forest.specs.Tree.{leaf, entry, entry_low, entry_leaf}
use Rattle.theory_forest.specs.Sound.{State, Codec, TableWord}
use Rattle.theory_forest.specs.Frame.{slot_tree}

-- slot j of table k is slot i of table p
abbrev pub SameSlot : ℕ → ℕ → ℕ → ℕ → Type 0
SameSlot k j p i = (k ≡ p) × (j ≡ i)

pub same_slot_or : (k j p i : ℕ) → SameSlot k j p i ⊎ (¬ (SameSlot k j p i))
same_slot_or k j p i = go (eq_or k p) (eq_or j i)
  where
    go : (k ≡ p) ⊎ (k ≢ p) → (j ≡ i) ⊎ (j ≢ i) → SameSlot k j p i ⊎ (¬ (SameSlot k j p i))
    go (inl a) (inl b) = inl (a, b)
    go (inl a) (inr b) = inr (λ e. b e.1)
    go (inr a) b = inr (λ e. a e.0)

module _ (C : Codec) where
  -- the word v is no table word in a table with the number x, and may stand there as a leaf
  pub record Fits (x v : ℕ) : Type 0 where
    pub plain : ¬ (TableWord (C.level x) v)
    pub good : C.Leaf x v

  pub zero-fits : (x : ℕ) → Fits x 0
  zero-fits x = record { plain = λ t. omega (arith, t.1); good = C.zero_leaf_lem x }

  -- in a table at level l a word that is no table word is a leaf
  pub slot_leaf : (s : State) (depth k i : ℕ) {l v : ℕ} → l + depth ≡ 3 → s.word k i ≡ v → ¬ (TableWord l v)
      → slot_tree C s depth k i ≡ leaf v
  slot_leaf s depth k i {l} {v} low word plain = ap (entry C.child depth s.word) word ∙ go depth low
    where
      go : (depth : ℕ) → l + depth ≡ 3 → entry C.child depth s.word v ≡ leaf v
      go zero low = entry_low C.child s.word v
      go (suc depth) low = entry_leaf C.child (suc depth) s.word v (λ both. plain (omega arith, both))
