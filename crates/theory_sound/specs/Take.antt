-- The second step on lists, a split: the lowest free table is taken, filled with leaves, entered and linked in the place of a leaf.
use Rattle.std.specs.Prelude.{◌≡◌, refl, List, ℕ, suc, Some}
use Rattle.std.proofs.Common.{sym}
use Rattle.pool.specs.State.{St}
use Rattle.pool.specs.Number.{number_of, lowest_free, LowestFree, lowest_found, free}
use Rattle.pool_table.specs.Table.{take_at, taken, take_table, take_some}
use Rattle.pool.specs.declared.Handle.{Handle}
use Rattle.theory_sound.specs.Alloc.{free-take}
use Rattle.theory_sound.specs.Codec.{number_pos}

-- ---- what is taken, and the counts; nothing is asked of the pool

module _ (h : Handle) (p level i : ℕ) (t : List ℕ) (s : St) (f : ℕ) (found : lowest_free s.ledger ≡ Some f) where
  pub take_is : take_table h p level i t s ≡ taken (Some f) (take_at h p level i t f s)
  take_is = sym (take_some h p level i t s f refl found)

  -- the lowest free table
  pub take_lowest : LowestFree s.ledger f
  take_lowest = lowest_found s.ledger f found

  pub take-free : suc (free (take_at h p level i t f s).ledger) ≡ free s.ledger
  unfolding take_at
  take-free = free-take s.ledger f (number_of p level i) take_lowest.inside take_lowest.free (number_pos p level i)
