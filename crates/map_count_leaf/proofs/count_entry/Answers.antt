-- `count_entry`: each way through the code by its law.
use Rattle.std.proofs.Common.{◌≡◌, ℕ, ◌+◌, ◌-◌, sym, ap, ◌∙◌, arith}
use Rattle.map_rules.specs.declared.Map.{Map}
use Rattle.map_rules.specs.Rules.{rule_of, chunk_map}
use Rattle.map_count_spec.specs.Closed.{rests}
use Rattle.map_count_spec.specs.Missed.{missedb, down_misses, missed_starts, missed_says}
use Rattle.map_count_spec.specs.Count.{leaf_missed}
use Rattle.map_count_spec.specs.Ends.{leaf_none, rests_fit, length-fits}
use Rattle.map_count_leaf.proofs.Tags.{no_down}
use Rattle.map_count_leaf.proofs.count_entry.Goals as goal
use Rattle.map_count_leaf.proofs.count_entry.Goals.{Start}

-- the chunk
abbrev chunk : Start → Map
chunk c = chunk_map c.args.map c.args.region c.args.frame.0

pub returns-in_default : goal.returns-in_default
returns-in_default c =
    let m = chunk (goal.at.returns-in_default c).Start in
    leaf_none c.args.level m c.args.word (cc) (no_down c.rule_of.result c.in_default.not-Down)

pub overflow_add-result : goal.overflow_add-result
overflow_add-result c =
    let m = chunk (goal.at.overflow_add-result c).Start in
    let rest : c.count_rest.result ≡ rests (3 - (c.args.level + 1)) m = cc in
    omega (arith, rest, rests_fit (c.args.level + 1) m, length-fits c.args.level m c.requires.0 c.requires.1.some)

pub returns-then-is_missed : goal.returns-then-is_missed
returns-then-is_missed c =
    let a = c.args in
    let m = chunk (goal.at.returns-then-is_missed c).Start in
    let rest : c.count_rest.result ≡ rests (3 - (a.level + 1)) m = cc in
    let down = sym (c.rule_of.ensures ∙ ap (λ (m : Map). rule_of a.level m a.word) c.chunk_of-chunk.ensures) ∙ c.in-Down.is in
    let yes-missed = sym (c.is_missed.ensures
    ∙ ap (λ (m : Map). missedb a.level m a.word) c.chunk_of-chunk.ensures)
    ∙ c.if-is_missed.true in
    let missed = missed_says a.level m a.word (down_misses a.level m a.word (omega (arith, c.requires.2)) down) yes-missed in
    ap (λ (x : ℕ). 1 + x) rest
    ∙ leaf_missed a.level m a.word c.requires.2 c.requires.1 (missed_starts a.level m a.word yes-missed) missed down
