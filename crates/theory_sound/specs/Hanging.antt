-- What a sound pool is like, in plain words: every used table hangs from the root and is reached from there by following slots; exactly one
-- slot refers to it; nothing refers to the root or to a free table; as many tables are in use as the tree has nodes.
use Rattle.std.specs.Prelude.{◌≡◌, List, [], ◌∷◌, ℕ, ◌<◌}
use Rattle.entry.specs.Sub.{sub_of}
use Rattle.entry.specs.declared.Sub.{Sub}
use Rattle.entry.specs.declared.Sub.TheVariants.{Table}
use Rattle.pool.specs.State.{St, tables, word_at}
use Rattle.pool.specs.declared.Handle.{Handle}
use Rattle.theory_sound.specs.Clauses.{InUse, level_at}

-- where slot i of table k leads, as the code finds it
abbrev pub sub_at : Handle → St → ℕ → ℕ → Sub
sub_at h s k i = sub_of h.base.0 (tables s) (level_at s k) (word_at s k i)

module _ (h : Handle) (s : St) where
  -- slot i of the used table k refers to table c
  pub record Leads (k i c : ℕ) : Type 0 where
    pub used : InUse s k
    pub slot : i < 512
    pub leads : sub_at h s k i ≡ Table c

  -- down from table k by the slots of a path, each of which refers to the next table, to table j
  pub data Follows : ℕ → List ℕ → ℕ → Type 0 where
    here : {k : ℕ} → Follows k [] k
    down : {k i c j : ℕ} {rest : List ℕ} → Leads k i c → Follows c rest j → Follows k (i ∷ rest) j

  -- one slot refers to table c, and no other
  pub record OneSlot (c : ℕ) : Type 0 where
    pub table : ℕ
    pub slot : ℕ
    pub leads : Leads table slot c
    pub only : (k i : ℕ) → Leads k i c → (k ≡ table) × (i ≡ slot)
