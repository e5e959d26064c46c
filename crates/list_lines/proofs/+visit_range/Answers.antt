-- `visit_range`: each way through the code by its law.
use Rattle.entry.proofs.Tags.{no_table}
use Rattle.list_lines.proofs.+visit_range.Goals.{After-subtable-kind}
use mathlib.Core.Path.{◌≡◌, refl, sym, ap, ap₂, ◌∙◌}
use mathlib.Core.List.{List, [], ◌∷◌}
use Prim.Native.Nat.{ℕ, ◌+◌, ◌*◌, ◌-◌, ◌≤◌}
use native.Mathlib.Omega.{arith}
use lib.ListN.{length}
use Rattle.entry.specs.Sub.{sub_found}
use Rattle.entry.specs.declared.Sub.TheVariants.{Table}
use Rattle.region.specs.Chunks.{chunks_of, next_gives}
use Rattle.list_lines.specs.Lines.{Line, line, each, lines_from, lines_at, lines-table, lines_other}
use Rattle.list_lines.specs.Lines.{each_none, count-step, write_step, write_done, written, write_lines, Written}
use Rattle.list_lines.proofs.Chunk.{lines_split}
use Rattle.list_lines.proofs.+visit_range.Goals as goal

-- a chunk, once its entry is known: it, and the chunks after it
cut : {t : ℕ} (c : After-subtable-kind t) → chunks_of c.loop-chunk.chunk-iterator ≡ c.in-Some.chunk ∷ chunks_of c.next.new.self
cut c = next_gives c.loop-chunk.chunk-iterator _ c.in-Some.ensures.steps

one : {t : ℕ} (c : After-subtable-kind t) → ((j : ℕ) → c.subtable-kind.result ≡ Table j → ⊥)
    → let a = c.args in
    lines_at a.handle.base.0 a.tables a.words.now a.k a.level c.in-Some.chunk
    ≡ line c.in-Some.chunk c.get_entry-word.result a.level ∷ []
one c none =
    let a = c.args in
    lines_other a.handle.base.0 a.tables a.words.now a.k a.level _ c.get_entry-word.ensures c.subtable-kind.ensures (no_table _ none)

below : {t : ℕ} (c : After-subtable-kind t) (j : ℕ) → c.subtable-kind.result ≡ Table j
    → let a = c.args in
    lines_at a.handle.base.0 a.tables a.words.now a.k a.level c.in-Some.chunk
    ≡ lines_from a.handle.base.0 a.tables a.words.now (3 - (a.level + 1)) j c.in-Some.chunk
below c j e =
    let a = c.args in
    lines-table a.handle.base.0 a.tables a.words.now a.k a.level _ c.get_entry-word.ensures c.subtable-kind.ensures j e

step : {t : ℕ} (c : After-subtable-kind t) {ls : List Line}
    → let a = c.args in let f = lines_at a.handle.base.0 a.tables a.words.now a.k a.level in f c.in-Some.chunk ≡ ls
    → length (each f (chunks_of c.loop-chunk.chunk-iterator)) ≡ length ls + length (each f (chunks_of c.next.new.self))
step c {ls} lines = let a = c.args in count-step (lines_at a.handle.base.0 a.tables a.words.now a.k a.level) ls (cut c) lines

-- room for the lines that remain
room : {t : ℕ} (c : After-subtable-kind t) → let a = c.args in
    c.loop-chunk.to + 4 * length (each (lines_at a.handle.base.0 a.tables a.words.now a.k a.level) (chunks_of c.loop-chunk.chunk-iterator))
    ≤ length c.loop-chunk.list
room c =
    let a = c.args in
    let all = ap length (lines_split a.handle.base.0 a.tables a.words.now a.k a.level a.region (omega arith)
    (c.into_iter-chunk-iterator.ensures.into_iter_gives ∙ c.split-chunk-items.ensures)) in
    omega (arith, c.loop-chunk.invariant.0, c.loop-chunk.invariant.1, c.requires.3)

pub loop-chunk-init : goal.loop-chunk-init
loop-chunk-init t c = (refl, refl, refl)

pub returns : goal.returns
unfolding write_lines
returns t c =
    let a = c.args in
    let f = lines_at a.handle.base.0 a.tables a.words.now a.k a.level in
    let none = (next_gives c.loop-chunk.chunk-iterator _ c.in-None.ensures.steps).0 in
    let left = ap length (each_none f none) in
    let to : c.loop-chunk.to ≡ a.from + 4 * length (each f (chunks_of c.into_iter-chunk-iterator.result)) = omega (arith, c.loop-chunk.invariant.0) in
    let all = lines_split a.handle.base.0 a.tables a.words.now a.k a.level a.region (omega arith)
    (c.into_iter-chunk-iterator.ensures.into_iter_gives ∙ c.split-chunk-items.ensures) in
    ap₂ written to (sym (write_done f c.loop-chunk.to c.loop-chunk.list none) ∙ c.loop-chunk.invariant.2)
    ∙ ap (λ (ls : List Line). write_lines a.from ls a.list.now) (sym all)

pub put_line-requires : goal.put_line-requires
put_line-requires t c =
    let at = goal.at.put_line-requires t c in
    let lines = one at.After-subtable-kind c.in_default.not-Table in
    omega (arith, step at.After-subtable-kind lines, room at.After-subtable-kind)

pub overflow_add-to : goal.overflow_add-to
overflow_add-to t c =
    let at = goal.at.overflow_add-to t c in
    let lines = one at.After-subtable-kind c.in_default.not-Table in
    omega (arith, step at.After-subtable-kind lines, room at.After-subtable-kind, c.loop-chunk.invariant.1)

pub loop-chunk-preserved-in_default : goal.loop-chunk-preserved-in_default
loop-chunk-preserved-in_default t c =
    let at = goal.at.loop-chunk-preserved-in_default t c in
    let l = c.loop-chunk in
    let a = c.args in
    let f = lines_at a.handle.base.0 a.tables a.words.now a.k a.level in
    let lines = one at.After-subtable-kind c.in_default.not-Table in
    let space = room at.After-subtable-kind in
    let put = write_step f _ (cut at.After-subtable-kind) lines l.to l.list space refl c.put_line.ensures in
    (omega (arith, l.invariant.0, step at.After-subtable-kind lines), omega arith, put ∙ l.invariant.2)

pub visit_range-to-requires : goal.visit_range-to-requires
visit_range-to-requires t c =
    let at = goal.at.visit_range-to-requires t c in
    let found = sub_found _ _ _ _ _ (sym c.subtable-kind.ensures ∙ c.in-Table.is) in
    let lines = step at.After-subtable-kind (below at.After-subtable-kind _ c.in-Table.is) in
    let space = room at.After-subtable-kind in
    (omega (arith, found.high, c.decreases), (c.requires.0, found.below, omega (arith, found.high), omega (arith, lines, space)))

pub loop-chunk-preserved : goal.loop-chunk-preserved
unfolding write_lines
loop-chunk-preserved t c =
    let at = goal.at.loop-chunk-preserved t c in
    let l = c.loop-chunk in
    let a = c.args in
    let f = lines_at a.handle.base.0 a.tables a.words.now a.k a.level in
    let lines = below at.After-subtable-kind _ c.in-Table.is in
    let space = room at.After-subtable-kind in
    let to = ap (λ (x : Written). x.to) c.visit_range-to.ensures in
    let after = ap (λ (x : Written). x.list) c.visit_range-to.ensures in
    let put = write_step f _ (cut at.After-subtable-kind) lines l.to l.list space to after in
    (omega (arith, l.invariant.0, step at.After-subtable-kind lines, to), omega arith, put ∙ l.invariant.2)
