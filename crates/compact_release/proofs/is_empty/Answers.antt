-- `is_empty`: all words are 0.
use Rattle.std.proofs.Common.{rules}
use Rattle.std.specs.Prelude.{◌≡◌, ◌↔◌, IsTrue, EachIndex, slice_index}
use Rattle.compact_release.proofs.Empty.{all_is}
use Rattle.compact_release.proofs.is_empty.Goals as goal

pub returns : goal.returns
returns c =
    let table = c.args.table.now in
    let each : IsTrue c.all.result ↔ EachIndex table (λ k. slice_index table k ≡ 0) = search rules in
    all_is table c.all.result each
