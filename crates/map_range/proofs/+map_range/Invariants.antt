use Rattle.std.proofs.Common.{◌≡◌, ◌-◌, false}
use Rattle.pool.specs.Lent.{lent, KeepsLent}
use Rattle.map_rules.specs.Fit.{Fit}
use Rattle.map_rules.specs.Rules.{chunk_map}
use Rattle.map_put.specs.Put.{each_map_chunk}
use Rattle.map_put.specs.Range.{map_step}
use Rattle.map_range.proofs.+map_range.Given as goal

-- each level goes one down
abbrev pub decreases-map_range : goal.decreases-map_range
decreases-map_range l = 3 - l.level

-- what is left fits, and makes of what is there what the whole map makes of what there was
abbrev pub invariant-loop-region : goal.invariant-loop-region
invariant-loop-region l = record {
  keeps : KeepsLent l.initial.pool l.pool;
  level : l.region-iterator.level ≡ l.level;
  fit : Fit (chunk_map l.map l.region-iterator.range l.frame.0);
  same : each_map_chunk l.level (map_step l.pool.handle l.k l.level) (chunk_map l.map l.region-iterator.range l.frame.0) (lent l.pool)
      ≡ each_map_chunk l.level (map_step l.initial.pool.handle l.k l.level) l.map (lent l.initial.pool);
  kept : l.changed ≡ false → l.pool.ledger.now ≡ l.initial.pool.ledger.now;
}
