-- `count_lines`: each way through the code by its law.
use Rattle.entry.proofs.Tags.{no_table}
use Rattle.list_lines.proofs.+count_lines.Goals.{After-into_iter-chunk-iterator, After-subtable-kind}
use mathlib.Core.List.{List, ◌∷◌}
use mathlib.Core.Path.{◌≡◌, sym, ap, ◌∙◌}
use Prim.Native.Nat.{ℕ, ◌+◌, ◌-◌, ◌^◌, ◌<◌}
use native.Mathlib.Omega.{arith}
use lib.ListN.{length}
use Rattle.entry.specs.Sub.{sub_found}
use Rattle.entry.specs.declared.Sub.TheVariants.{Table}
use Rattle.region.specs.Chunks.{chunks_of, next_gives}
use Rattle.list_lines.specs.Lines.{Line, each, lines_from, lines_at, lines-table, lines_other, lines_pages}
use Rattle.list_lines.specs.Lines.{each_none, count-step}
use Rattle.list_lines.proofs.Chunk.{lines_split}
use Rattle.list_lines.proofs.+count_lines.Goals as goal

-- no more lines than a count can say
few : {t : ℕ} (c : After-into_iter-chunk-iterator t)
    → let a = c.args in
    length (each (lines_at a.handle.base.0 a.tables a.words.now a.k a.level) (chunks_of c.into_iter-chunk-iterator.result)) < 2 ^ 64
few c =
    let a = c.args in
    let all = ap length (lines_split a.handle.base.0 a.tables a.words.now a.k a.level a.region (omega arith)
    (c.into_iter-chunk-iterator.ensures.into_iter_gives ∙ c.split-chunk-items.ensures)) in
    omega (arith, c.requires.3)

-- a chunk, once its entry is known: it, and the chunks after it
cut : {t : ℕ} (c : After-subtable-kind t) → chunks_of c.loop-chunk.chunk-iterator ≡ c.in-Some.chunk ∷ chunks_of c.next.new.self
cut c = next_gives c.loop-chunk.chunk-iterator _ c.in-Some.ensures.steps

-- the lines counted, n of the chunk, and those of the chunks after it are all
abbrev Sum : {t : ℕ} → After-subtable-kind t → ℕ → Type 0
Sum c n =
    let a = c.args in
    let f = lines_at a.handle.base.0 a.tables a.words.now a.k a.level in
    c.loop-chunk.count + n + length (each f (chunks_of c.next.new.self)) ≡ length (each f (chunks_of c.into_iter-chunk-iterator.result))

regroup : (a n x : ℕ) {r s : ℕ} → r ≡ n + x → a + r ≡ s → a + n + x ≡ s
regroup a n x e q = omega arith

sum : {t : ℕ} (c : After-subtable-kind t) (ls : List Line)
    → let a = c.args in lines_at a.handle.base.0 a.tables a.words.now a.k a.level c.in-Some.chunk ≡ ls → Sum c (length ls)
sum c ls lines =
    let a = c.args in
    let f = lines_at a.handle.base.0 a.tables a.words.now a.k a.level in
    regroup _ _ _ (count-step f ls (cut c) lines) c.loop-chunk.invariant

one : {t : ℕ} (c : After-subtable-kind t) → ((j : ℕ) → c.subtable-kind.result ≡ Table j → ⊥) → Sum c 1
one c none =
    let a = c.args in
    let e = no_table _ none in
    sum c _ (lines_other a.handle.base.0 a.tables a.words.now a.k a.level _ c.get_entry-word.ensures c.subtable-kind.ensures e)

below : {t : ℕ} (c : After-subtable-kind t) (j : ℕ) → c.subtable-kind.result ≡ Table j → let a = c.args in
    Sum c (length (lines_from a.handle.base.0 a.tables a.words.now (3 - (a.level + 1)) j c.in-Some.chunk))
below c j e =
    let a = c.args in
    sum c _ (lines-table a.handle.base.0 a.tables a.words.now a.k a.level _ c.get_entry-word.ensures c.subtable-kind.ensures j e)

pub returns-then-level-ge-LEAF_LEVEL : goal.returns-then-level-ge-LEAF_LEVEL
returns-then-level-ge-LEAF_LEVEL t c =
    let a = c.args in
    c.entries_met.ensures
    ∙ lines_pages a.handle.base.0 a.tables a.words.now a.k a.level a.region c.if-level-ge-LEAF_LEVEL.true

pub returns : goal.returns
returns t c =
    let a = c.args in
    let none = (next_gives c.loop-chunk.chunk-iterator _ c.in-None.ensures.steps).0 in
    let left = ap length (each_none (lines_at a.handle.base.0 a.tables a.words.now a.k a.level) none) in
    let all = ap length (lines_split a.handle.base.0 a.tables a.words.now a.k a.level a.region (omega arith)
    (c.into_iter-chunk-iterator.ensures.into_iter_gives ∙ c.split-chunk-items.ensures)) in
    omega (arith, c.loop-chunk.invariant)

pub overflow_add-count : goal.overflow_add-count
overflow_add-count t c =
    let at = goal.at.overflow_add-count t c in
    omega (arith, one at.After-subtable-kind c.in_default.not-Table, few at.After-into_iter-chunk-iterator)

pub loop-chunk-preserved-in_default : goal.loop-chunk-preserved-in_default
loop-chunk-preserved-in_default t c =
    one (goal.at.loop-chunk-preserved-in_default t c).After-subtable-kind c.in_default.not-Table

pub count_lines-count-requires : goal.count_lines-count-requires
count_lines-count-requires t c =
    let at = goal.at.count_lines-count-requires t c in
    let found = sub_found _ _ _ _ _ (sym c.subtable-kind.ensures ∙ c.in-Table.is) in
    let room = few at.After-into_iter-chunk-iterator in
    let lines = below at.After-subtable-kind _ c.in-Table.is in
    (omega (arith, found.high, c.decreases), (c.requires.0, found.below, omega (arith, found.high), omega (arith, lines, room)))

pub overflow_add-count-in-loop-chunk : goal.overflow_add-count-in-loop-chunk
overflow_add-count-in-loop-chunk t c =
    let at = goal.at.overflow_add-count-in-loop-chunk t c in
    omega (arith, below at.After-subtable-kind _ c.in-Table.is, few at.After-into_iter-chunk-iterator, c.count_lines-count.ensures)

pub loop-chunk-preserved : goal.loop-chunk-preserved
loop-chunk-preserved t c =
    omega (arith, below (goal.at.loop-chunk-preserved t c).After-subtable-kind _ c.in-Table.is, c.count_lines-count.ensures)
