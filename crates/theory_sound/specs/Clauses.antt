-- When a pool is sound: document 01, "Pool and ledger", its list in its order and words, over the two lists. Definitions alone; what
-- follows from them stands in the other files.
use Rattle.std.specs.Prelude.{◌≡◌, ◌≢◌, ℕ, ◌+◌, ◌*◌, ◌/◌, ◌%◌, ◌≤◌, ◌<◌, length}
use Rattle.laws.specs.Bit.{SubBits}
use Rattle.laws.specs.Size.{size_at}
use Rattle.entry.specs.Word.{address_of, link_of, plain_flags}
use Rattle.pool.specs.State.{St, tables, word_at, number_at}
use Rattle.pool.specs.Number.{root_number, number_of, level_of}
use Rattle.pool.specs.Sound.{flag_set}
use Rattle.pool.specs.declared.Handle.{Handle}
use Rattle.theory_forest.specs.Sound.{TableWord}

-- table k is in use; past the ledger's end 0 is read, so it is one of the pool's
abbrev pub InUse : St → ℕ → Type 0
InUse s k = 0 < number_at s k

-- the level of table k, if it is in use
abbrev pub level_at : St → ℕ → ℕ
level_at s k = level_of (number_at s k)

-- the ledger number x names slot i of table p: it is 4 + level + 8·(512·p + i + 1)
pub record NamesSlot (x p i : ℕ) : Type 0 where
  pub slot : i < 512
  pub number : x ≡ number_of p (level_of x) i

-- table k hangs in slot i of table p
pub record HangsIn (h : Handle) (s : St) (k p i : ℕ) : Type 0 where
  -- table k's number names slot i of table p
  pub names : NamesSlot (number_at s k) p i
  -- table p is "a used table"
  pub used : InUse s p
  -- table p is "one level higher in the tree (level less by one)"
  pub higher : level_at s k ≡ level_at s p + 1
  -- slot i of table p refers to table k
  pub refers : word_at s p i ≡ link_of h.base.0 k

-- slot i of table k holds a table word for table c
pub record LinksTo (h : Handle) (s : St) (k i c : ℕ) : Type 0 where
  -- the word is "exactly a pool table's address + 3"
  pub inside : c < tables s
  pub says : word_at s k i ≡ link_of h.base.0 c
  -- the ledger number of table c names this slot
  pub names : NamesSlot (number_at s c) k i

-- the word w, no table word, in a table of this level
pub record LeafWord (set level w : ℕ) : Type 0 where
  -- a word that is no table has flags only from the set (bit 1 apart)
  pub flags : SubBits (plain_flags w) set
  -- at levels 0 to 2 bit 1 is clear
  pub clear : level < 3 → w / 2 % 2 ≡ 0
  -- at levels 1 and 2 the address is a multiple of the entry's size
  pub aligned : 1 ≤ level → level < 3 → address_of w % size_at level ≡ 0
  -- at level 0 the word isn't valid and its address is 0
  pub top : level ≡ 0 → (w % 2 ≡ 0) × (address_of w ≡ 0)
  -- at level 3 a valid word has bit 1
  pub page : level ≡ 3 → w % 2 ≡ 1 → w / 2 % 2 ≡ 1

pub record SoundPool (h : Handle) (s : St) : Type 0 where
  -- the pool is 512·n words, the ledger n numbers
  pub sized : length s.words ≡ 512 * tables s
  -- "the ledger has the root's number at 0"
  pub root : number_at s 0 ≡ root_number h.level
  -- "every other used table's number names a slot of a used table one level higher in the tree (level less by one), and that slot refers
  -- to it"
  pub hangs : (k : ℕ) → k ≢ 0 → InUse s k → (p i : ℕ) × HangsIn h s k p i
  -- "every word with bits 0 and 1 set at levels 0 to 2 is exactly a pool table's address + 3, and that table's ledger number names this
  -- slot"
  pub links : (k i : ℕ) → i < 512 → InUse s k → TableWord (level_at s k) (word_at s k i) → (c : ℕ) × LinksTo h s k i c
  -- "every other word has flags only from the set below (bit 1 apart); at levels 0 to 2 bit 1 is clear; at levels 1 and 2 the address is a
  -- multiple of the entry's size; at level 0 the word isn't valid and its address is 0; at level 3 a valid word has bit 1"
  pub leaves : (k i : ℕ) → i < 512 → InUse s k → ¬ (TableWord (level_at s k) (word_at s k i))
      → LeafWord (flag_set h) (level_at s k) (word_at s k i)
  -- "free tables are all zero"
  pub free : (k i : ℕ) → k < tables s → i < 512 → number_at s k ≡ 0 → word_at s k i ≡ 0
