-- `compact`: each way through the code by its law.
use Rattle.std.proofs.Common.{rules, ◌≡◌, sym, ◌∙◌, true, arith}
use Rattle.pool.specs.State.{st}
use Rattle.pool.specs.Refuse.{max_tables, shaped, Shaped, shaped-says}
use Rattle.compact_spec.specs.Call.{call_misshaped, call_unsound, call-compacted}
use Rattle.compact.proofs.compact.Goals as goal
use Rattle.compact.proofs.compact.Goals.{Else-not-is_shaped}

-- past the first test the shape is known
good : (c : Else-not-is_shaped) → let a = c.args in shaped a.handle (st a.words.now a.ledger.now) ≡ true
good c = sym c.is_shaped.ensures ∙ c.if-not-is_shaped.false

shape : (c : Else-not-is_shaped) → let a = c.args in Shaped a.handle (st a.words.now a.ledger.now)
shape c = let a = c.args in shaped-says a.handle (st a.words.now a.ledger.now) (rw (good c) tt)

pub returns-then-not-is_shaped : goal.returns-then-not-is_shaped
returns-then-not-is_shaped c =
    let a = c.args in
    call_misshaped a.handle (st a.words.now a.ledger.now) (sym c.is_shaped.ensures ∙ c.if-not-is_shaped.true)

pub invariant_of-pool : goal.invariant_of-pool
invariant_of-pool c = record { sized = (shape (goal.at.invariant_of-pool c).Else-not-is_shaped).sized }

pub is_sound-requires : goal.is_sound-requires
is_sound-requires c = rw (c.read.ensures.handle, c.read.ensures.state) (shape (goal.at.is_sound-requires c).Else-not-is_shaped)

pub returns-then-not-is_sound : goal.returns-then-not-is_sound
returns-then-not-is_sound c =
    let a = c.args in
    call_unsound a.handle (st a.words.now a.ledger.now) (good (goal.at.returns-then-not-is_sound c).Else-not-is_shaped)
    (sym (rw (c.read.ensures.handle, c.read.ensures.state) at c.is_sound.ensures) ∙ c.if-not-is_sound.true)

pub compact_subtables-requires : goal.compact_subtables-requires
compact_subtables-requires c =
    let p = shape (goal.at.compact_subtables-requires c).Else-not-is_shaped in (p.some, p.level)

pub count_used-requires : goal.count_used-requires
unfolding max_tables
count_used-requires c =
    let p = shape (goal.at.count_used-requires c).Else-not-is_shaped in
    rw c.read-2.ensures.ledger omega (arith, p.limit, c.compact_subtables.ensures.keeps.tables)

pub returns : goal.returns
returns c =
    let a = c.args in
    let done = call-compacted a.handle (st a.words.now a.ledger.now) (good (goal.at.returns c).Else-not-is_shaped)
    (sym (rw (c.read.ensures.handle, c.read.ensures.state) at c.is_sound.ensures) ∙ c.if-not-is_sound.false)
    c.compact_subtables.ensures.leaves (rw c.read-2.ensures.ledger at c.count_used.ensures) in
    search rules
