-- The laws of the two scans of the ledger.
use Rattle.pool.specs.Number.{first_done, first_hit, first_miss, used_hit, used_miss, used_end}

-- for the first 0: past the end, at a 0, at another number
pub ruleset first_free = (first_done, first_hit, first_miss)

-- for the count of the others: one more, none more, past the end
pub ruleset in_use = (used_hit, used_miss, used_end)
