-- `put_down`: each way through the code by its law.
use Rattle.std.proofs.Common.{◌≡◌, false, List, ℕ, ◌-◌, sym, ap, ◌∙◌, arith}
use Rattle.pool.specs.Lent.{lent, read_lent}
use Rattle.pool.specs.Number.{used}
use Rattle.pool.specs.Refuse.{max_tables}
use Rattle.map_put.specs.Put.{map_range}
use Rattle.map_spec.specs.Call.{put_down_lem}
use Rattle.map_room.proofs.Room.{served}
use Rattle.map_room.proofs.put_down.Goals.{After-map_range}
use Rattle.map_room.proofs.put_down.Goals as goal

-- the map from the place found is the map from the root
mapped : (c : After-map_range) → let a = c.args in
    lent c.map_range.new.pool ≡ map_range (3 - a.pool.now.handle.level) a.pool.now.handle 0 a.map (lent a.pool.now)
mapped c =
    let p = c.args.pool.now in
    let state = read_lent c.read.result p c.read.ensures.words c.read.ensures.ledger in
    c.map_range.ensures.leaves.0 ∙ (served c.read.result p.handle (lent p) _ _ _ c.read.ensures.handle state c.lowest_table-place.ensures).0

pub count_used-requires : goal.count_used-requires
unfolding max_tables
count_used-requires c =
    rw c.read-then-map_range.ensures.ledger (omega (arith, c.requires.0.limit, c.map_range.ensures.keeps.tables))

pub returns-then-map_range-clause-leaves : goal.returns-then-map_range-clause-leaves
returns-then-map_range-clause-leaves c =
    let p = c.args.pool.now in
    put_down_lem p.handle c.args.map (lent p) (mapped (goal.at.returns-then-map_range-clause-leaves c).After-map_range)
    (c.count_used.ensures ∙ ap (λ (l : List ℕ). used l) c.read-then-map_range.ensures.ledger)

-- the ledger is as it was, and so is its count
pub returns-clause-leaves : goal.returns-clause-leaves
returns-clause-leaves c =
    let untouched : c.map_range.result ≡ false = cc in
    let p = c.args.pool.now in
    put_down_lem p.handle c.args.map (lent p) (mapped (goal.at.returns-clause-leaves c).After-map_range)
    (c.requires.2 ∙ ap (λ (l : List ℕ). used l) (sym (c.map_range.ensures.leaves.1 untouched)))
