use Rattle.std.proofs.Common.{◌≡◌, ◌+◌, ◌*◌, ◌-◌, ◌^◌, ◌≤◌}
use Rattle.region.specs.Each.{each_left}
use Rattle.modify_survey.specs.Survey.{adding, splits_in}
use Rattle.modify_survey.proofs.+count_splits.Given as goal

abbrev pub invariant-loop-chunk : goal.invariant-loop-chunk
invariant-loop-chunk l =
    let left = l.chunk-iterator.range.end.0 - l.chunk-iterator.range.start.0 in
    (left ≤ 2 ^ 48) × (l.count + left * 3 ≤ 1 + 2 ^ 48 * 3)
    × (each_left (adding (splits_in (3 - (l.level + 1)))) l.chunk-iterator l.count
    ≡ each_left (adding (splits_in (3 - (l.level + 1)))) l.initial.chunk-iterator 1)

abbrev pub decreases-count_splits : goal.decreases-count_splits
decreases-count_splits l = 3 - l.level
