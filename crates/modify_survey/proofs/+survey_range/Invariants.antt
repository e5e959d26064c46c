use Rattle.std.proofs.Common.{◌≡◌, ◌-◌}
use Rattle.region.specs.Each.{each_left}
use Rattle.pool.specs.Lent.{read_state}
use Rattle.modify_survey.specs.Survey.{survey_step}
use Rattle.modify_survey.specs.Room.{Room}
use Rattle.modify_survey.proofs.+survey_range.Given as goal

abbrev pub invariant-loop-chunk : goal.invariant-loop-chunk
invariant-loop-chunk l =
    Room l.chunk-iterator.range l.seen
    × (each_left (survey_step l.pool.handle (read_state l.pool) l.k l.level l.edit) l.chunk-iterator l.seen
    ≡ each_left (survey_step l.pool.handle (read_state l.pool) l.k l.level l.edit) l.initial.chunk-iterator l.initial.seen)

abbrev pub decreases-survey_range : goal.decreases-survey_range
decreases-survey_range l = 3 - l.level
