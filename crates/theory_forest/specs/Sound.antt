-- What a sound pool is: document 01, "Pool and ledger", by local facts alone. A `Codec` says how a ledger number is read, which tables are
-- roots, which words may stand as leaves and how a table word is made; the theory of sound pools holds for any.
use Rattle.std.specs.Prelude.{◌≡◌, ◌⊎◌, ℕ, suc, ◌%◌, ◌≤◌, ◌<◌}

-- `word k i` is the word in slot i of table k, `ledger k` the ledger number of table k; 0 is free. Out of range both read 0.
pub record State : Type 0 where
  pub word : ℕ → ℕ → ℕ
  pub ledger : ℕ → ℕ

pub record Codec : Type 1 where
  -- the level of a table with the ledger number x
  pub level : ℕ → ℕ
  -- the table of the slot that the number x of table k names; a root's number names no slot, and is read as k itself
  pub over : ℕ → ℕ → ℕ
  -- the slot that the number x names
  pub slot : ℕ → ℕ
  -- the ledger's rule can give the number x to a table that hangs from a table with the number y
  pub Well : ℕ → ℕ → Type 0
  -- table k is a root, and x is its number
  pub Root : ℕ → ℕ → Type 0
  -- the word w may stand as a leaf in a table with the number x
  pub Leaf : ℕ → ℕ → Type 0
  -- the table word of table c: its address + 3
  pub link : ℕ → ℕ
  -- the table that a table word names
  pub child : ℕ → ℕ
  -- tables are numbered below the limit
  pub limit : ℕ
  -- the ledger number of a new table in slot i of table p, which has the number x
  pub number : ℕ → ℕ → ℕ → ℕ
  -- levels are 0 to 3, slots 0 to 511
  pub level_le : (x : ℕ) → level x ≤ 3
  pub slot_lt : (x : ℕ) → slot x < 512
  -- a root names itself, and is in use
  pub root_over : (k x : ℕ) → Root k x → over k x ≡ k
  pub root_used : (k x : ℕ) → Root k x → 0 < x
  -- a word of 0 may stand anywhere
  pub zero_leaf_lem : (x : ℕ) → Leaf x 0
  -- a table word has bits 0 and 1 set, and names its table
  pub link_table : (c : ℕ) → link c % 4 ≡ 3
  pub child_link : (c : ℕ) → child (link c) ≡ c
  -- a new number is in use, follows the rule, and names its slot one level down
  pub number-used : (x p i : ℕ) → 0 < number x p i
  pub number_well : (x p i : ℕ) → level x < 3 → p < limit → i < 512 → Well (number x p i) x
  pub number-level : (x p i : ℕ) → level x < 3 → level (number x p i) ≡ suc (level x)
  pub number-over : (k x p i : ℕ) → level x < 3 → p < limit → i < 512 → over k (number x p i) ≡ p
  pub number_slot : (x p i : ℕ) → level x < 3 → p < limit → i < 512 → slot (number x p i) ≡ i

-- a table is in use when its ledger number is not 0
abbrev pub Used : State → ℕ → Type 0
Used s k = 0 < s.ledger k

-- a table word: bits 0 and 1 set, at levels 0 to 2
abbrev pub TableWord : ℕ → ℕ → Type 0
TableWord level x = (level < 3) × (x % 4 ≡ 3)

module _ (C : Codec) where
  -- the level of table k, and the table and the slot that its ledger number names
  abbrev pub level_in : State → ℕ → ℕ
  level_in s k = C.level (s.ledger k)

  abbrev pub parent : State → ℕ → ℕ
  parent s k = C.over k (s.ledger k)

  abbrev pub slot_in : State → ℕ → ℕ
  slot_in s k = C.slot (s.ledger k)

  -- the word in slot i of table k is a table word
  abbrev pub IsTable : State → ℕ → ℕ → Type 0
  IsTable s k i = TableWord (level_in s k) (s.word k i)

  -- Table k hangs: its number follows the rule and names a slot of a used table one level higher in the tree (level less by one), and that
  -- slot refers to it.
  pub record Hangs (s : State) (k : ℕ) : Type 0 where
    pub well : C.Well (s.ledger k) (s.ledger (parent s k))
    pub used : Used s (parent s k)
    pub below : level_in s k ≡ suc (level_in s (parent s k))
    pub refers : s.word (parent s k) (slot_in s k) ≡ C.link k

  -- Slot i of table k refers to table c: its word is exactly the table word of c, c is in use, and c's ledger number names this slot. As no
  -- root's number names a slot, c hangs.
  pub record Refers (s : State) (k i c : ℕ) : Type 0 where
    pub says : s.word k i ≡ C.link c
    pub used : Used s c
    pub from : parent s c ≡ k
    pub at : slot_in s c ≡ i
    pub hung : Hangs s c

  pub record Sound (s : State) : Type 0 where
    -- the ledger has each root's number
    pub rooted : (k x : ℕ) → C.Root k x → s.ledger k ≡ x
    -- every other used table's number names a slot of a used table one level higher, and that slot refers to it
    pub hangs : (k : ℕ) → Used s k → C.Root k (s.ledger k) ⊎ Hangs s k
    -- every word with bits 0 and 1 set at levels 0 to 2 is exactly a pool table's address + 3, and that table's number names this slot
    pub names : (k i : ℕ) → Used s k → IsTable s k i → (c : ℕ) × Refers s k i c
    -- every other word is one that may stand as a leaf
    pub leaves : (k i : ℕ) → Used s k → i < 512 → ¬ (IsTable s k i) → C.Leaf (s.ledger k) (s.word k i)
    -- free tables are all zero
    pub free : (k i : ℕ) → s.ledger k ≡ 0 → s.word k i ≡ 0
    -- a table has 512 words
    pub wide : (k i : ℕ) → 512 ≤ i → s.word k i ≡ 0
