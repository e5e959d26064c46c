-- A sound pool is a forest: every used table hangs from a root and is reached from there by following slots, by one path alone; exactly one
-- slot refers to it, and none refers to a root or to a free table.
use Rattle.std.specs.Prelude.{◌≡◌}
use mathlib.Core.List.{List, [], ◌∷◌}
use Prim.Native.Nat.{ℕ, zero, suc}
use Rattle.theory_forest.specs.Sound.{State, Codec, Used, parent, slot_in, IsTable}
use Rattle.theory_forest.specs.Under.{Under}

module _ (C : Codec) where
  -- table j lies under a root
  pub record Grounded (s : State) (j : ℕ) : Type 0 where
    pub root : ℕ
    pub deep : ℕ
    pub is_root : C.Root root (s.ledger root)
    pub under : Under C s root deep j

  -- By the words alone: slot i of the used table k holds a table word, and it names table c.
  pub record Points (s : State) (k i c : ℕ) : Type 0 where
    pub used : Used s k
    pub table : IsTable C s k i
    pub names : C.child (s.word k i) ≡ c

  -- down from table k by the slots of a path, each of which points on, to table j
  pub data Reaches (s : State) : ℕ → List ℕ → ℕ → Type 0 where
    here : {k : ℕ} → Reaches s k [] k
    down : {k i c j : ℕ} {rest : List ℕ} → Points s k i c → Reaches s c rest j → Reaches s k (i ∷ rest) j

  -- the slots from the table d steps over j down to j, then `rest`
  unfoldable pub path : State → ℕ → ℕ → List ℕ → List ℕ
  path s zero j rest = rest
  path s (suc d) j rest = path s d (parent C s j) (slot_in C s j ∷ rest)
