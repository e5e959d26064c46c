-- The lent pool as one record: 512·n words and n ledger numbers, and what stands in a slot.
use Rattle.std.specs.Prelude.{List, ◌⊎◌, ℕ, ◌+◌, ◌*◌, ◌≤◌, ◌<◌, length, get_or, set}
use Rattle.std.proofs.Common.{inl, inr, arith}
use Rattle.std.proofs.Math.ListN.{get_or-eq_default}
use Rattle.laws.specs.Test.{le_or}

-- document 01, "Pool and ledger"
pub record St : Type 0 where
  pub words : List ℕ
  pub ledger : List ℕ

abbrev pub st : List ℕ → List ℕ → St
st w l = record { words = w; ledger = l }

-- n, the ledger's length
abbrev pub tables : St → ℕ
tables s = length s.ledger

-- the word in slot i of table k
abbrev pub word_at : St → ℕ → ℕ → ℕ
word_at s k i = get_or s.words (512 * k + i) 0

-- the ledger number of table k
abbrev pub number_at : St → ℕ → ℕ
number_at s k = get_or s.ledger k 0

-- the word v stored in slot i of table k
abbrev pub store_at : ℕ → ℕ → ℕ → St → St
store_at k i v s = st (set s.words (512 * k + i) v) s.ledger

-- a table in use is one of the pool's
pub used_in : (s : St) (k : ℕ) → 0 < number_at s k → k < tables s
used_in s k used = go (le_or (tables s) k)
  where
    go : (tables s ≤ k) ⊎ (k < tables s) → k < tables s
    go (inl past) = absurd (omega (arith, used, get_or-eq_default s.ledger 0 past))
    go (inr inside) = inside
