-- `next_table` gives a table below only where the map does the same there.
use Rattle.std.proofs.Common.{◌≡◌, sym, ◌∙◌, arith}
use Rattle.entry.specs.Sub.{sub-below}
use Rattle.pool.specs.Lent.{read_state}
use Rattle.map_start.specs.Start.{map_below_lem, some_leads}
use Rattle.map_start.proofs.next_table.Goals as goal

pub returns : goal.returns
returns c =
    let a = c.args in
    let s = read_state a.pool.now in
    let kind = c.subtable-kind.ensures in
    let whole : c.chunk_end-stop.result ≡ a.map.region.end.0 = omega arith in
    let same = map_below_lem a.pool.now.handle a.k a.level a.map s c.requires.2 c.if-end-start.false (sym c.chunk_end-stop.ensures ∙ whole)
    c.entry_index-i.ensures c.rule_of-rule.ensures c.in-Down.is kind _ c.in-Table.is in
    some_leads a.pool.now.handle a.k a.level a.map s same (sub-below a.pool.now.handle.base.0 _ a.level _ _ (sym kind ∙ c.in-Table.is))
