-- `map_sound`: each way through the code by its law.
use Rattle.std.proofs.Common.{◌≡◌, true, ◌-◌, ap₂, ◌∙◌, arith}
use Rattle.pool.specs.Lent.{lent, read_lent}
use Rattle.pool.specs.State.{St}
use Rattle.pool.specs.Number.{used, used-free}
use Rattle.pool.specs.Sound.{soundb}
use Rattle.pool.specs.declared.Handle.{Handle}
use Rattle.checker.specs.Call.{count_unsound, count_sound}
use Rattle.map_count_spec.specs.Closed.{closed}
use Rattle.map_count.specs.Laws.{over_within}
use Rattle.map_spec.specs.Call.{sound_not, sound_mapped}
use Rattle.map_room.proofs.Room.{found, counts, room}
use Rattle.map_room.proofs.map_sound.Goals.{In-Some}
use Rattle.map_room.proofs.map_sound.Goals as goal

-- the pool is found sound, and its used tables are counted
known : (c : In-Some) → let p = c.args.pool.now in (soundb p.handle (lent p) ≡ true) × (c.in-Some.used ≡ used p.ledger.now)
known c =
    let p = c.args.pool.now in
    let is = found c.read.result p c.read.ensures.words c.read.ensures.ledger c.read.ensures.handle c.count_sound-found.ensures in
    count_sound p.handle (lent p) is _ c.in-Some.is

pub returns-in_default-clause-leaves : goal.returns-in_default-clause-leaves
returns-in_default-clause-leaves c =
    let p = c.args.pool.now in
    let is = found c.read.result p c.read.ensures.words c.read.ensures.ledger c.read.ensures.handle c.count_sound-found.ensures in
    sound_not p.handle c.args.map (lent p) (count_unsound p.handle (lent p) is c.in_default.is)

pub overflow_sub-free : goal.overflow_sub-free
overflow_sub-free c =
    let u = used-free c.args.pool.now.ledger.now in
    omega (arith, (known (goal.at.overflow_sub-free c).In-Some).1)

pub put_down-requires : goal.put_down-requires
put_down-requires c = (c.requires.0, c.requires.1, (known (goal.at.put_down-requires c).In-Some).1)

-- nothing is refused, so the map is put down
pub returns-clause-leaves : goal.returns-clause-leaves
returns-clause-leaves c =
    let a = c.args in
    let p = a.pool.now in
    let is = known (goal.at.returns-clause-leaves c).In-Some in
    let state = read_lent c.read-2.result p c.read-2.ensures.words c.read-2.ensures.ledger in
    c.put_down.ensures.leaves
    ∙ sound_mapped p.handle a.map (lent p) is.0
    (ap₂ (λ (h : Handle) (s : St). closed (3 - h.level) h s 0 a.map) c.read-2.ensures.handle state
    ∙ counts p.handle (lent p) a.map c.requires.0 is.0)
    (room p.ledger.now _ is.1)
    (over_within _ _ c.count_over-needed.ensures (omega arith))
