-- Theorems about the definitions of specs/Cover.
use Rattle.std.specs.Prelude.{◌≡◌, refl, List, [], ◌∷◌, ◌++◌, ◌≢◌, ℕ, zero, suc, ◌+◌, ◌-◌, ◌/◌, ◌≤◌, ◌<◌}
use Rattle.std.proofs.Common.{sym, ◌∙◌, inl, inr, le_antisymm, div-add-mod', arith}
use Rattle.std.proofs.Math.Nat.{div-eq_of_lt-le}
use Rattle.laws.specs.Size.{size_at, size_pos, down, next_multiple}
use Rattle.address_slot.specs.Slot.{entry_last}
use Rattle.region.specs.Region.{region}
use Rattle.region.specs.Chunks.{chunks_tile, Tiles, none, more}
use Rattle.region.specs.declared.MemoryRegion.{MemoryRegion}
use Rattle.entry.specs.Sub.{sub_of, sub_found}
use Rattle.entry.specs.declared.Sub.{Sub}
use Rattle.entry.specs.declared.Sub.TheVariants.{Table, Outside, Leaf}
use Rattle.pool.specs.State.{St, tables}
use Rattle.pool.specs.declared.Handle.{Handle}
use Rattle.arm.specs.Arm.{at, away, fetch, reach_from}
use Rattle.arm.specs.Walk.{reach-table, reach_outside, reach_leaf}
use Rattle.arm.specs.Page.{same-fetch}
use Rattle.list_lines.specs.Lines.{Line, line, each, lines_from, lines_at, lines-table, lines_other, lines-each, lines_of}
use Rattle.list_lines.specs.Cover.{Covers, covers-map, Meets, done, next}

covers-append : {P : Line → Type 0} {e m s : ℕ} {ls ms : List Line} → m ≤ e → Covers P m s ls → Covers P e m ms → Covers P e s (ls ++ ms)
covers-append h (done q) d = rw q d
covers-append h (next a b c p t) d = next a b (omega arith) p (covers-append h t d)

-- one chunk after the other
each-covers : {P : Line → Type 0} {level e s : ℕ} {rs : List MemoryRegion} (f : MemoryRegion → List Line)
    → ((r : MemoryRegion) → r.start.0 < r.end.0 → r.end.0 ≤ entry_last level r.start.0 + 1
    → Covers P r.end.0 r.start.0 (f r))
    → s ≤ e → Tiles level e s rs → Covers P e s (each f rs)
unfolding each
each-covers f h q (none l) = done (le_antisymm q l)
each-covers f h q (more {s = s} {m = m} a b c t) = covers-append b (h (region s m) a c) (each-covers f h b t)

-- the addresses of a chunk lie in one entry
in_entry : (level s a : ℕ) → s ≤ a → a < entry_last level s + 1 → a / size_at level ≡ s / size_at level
unfolding entry_last down
in_entry level s a l u =
    let p = size_pos level in
    let d = div-add-mod' s (size_at level) in
    let m = next_multiple (s / size_at level) (size_at level) in
    div-eq_of_lt-le (size_at level) (omega arith) (omega arith)

module _ (base n : ℕ) (words : List ℕ) where
  -- one chunk of table k
  module _ (k level : ℕ) (here : level ≤ 3)
      (below : (j : ℕ) (r : MemoryRegion) → level < 3 → r.start.0 ≤ r.end.0
      → Covers (Meets base n words (3 - (level + 1)) j) r.end.0 r.start.0 (lines_from base n words (3 - (level + 1)) j r))
      (r : MemoryRegion) (some : r.start.0 < r.end.0) (within : r.end.0 ≤ entry_last level r.start.0 + 1) where
    abbrev w : ℕ
    w = fetch words r.start.0 k level

    same : (a : ℕ) → r.start.0 ≤ a → a < r.end.0 → w ≡ fetch words a k level
    same a l u = same-fetch words r.start.0 a level k level (omega arith) here (sym (in_entry level r.start.0 a l (omega arith)))

    one : ((a : ℕ) → r.start.0 ≤ a → a < r.end.0 → reach_from base n words a (3 - level) k ≢ away
        → reach_from base n words a (3 - level) k ≡ at level w)
        → Covers (Meets base n words (3 - level) k) r.end.0 r.start.0 (line r w level ∷ [])
    one h = next refl some (omega arith) (record { entry = λ a l u. in_entry level r.start.0 a l (omega arith); meets = h }) (done refl)

    chunk-covers : (x : Sub) → sub_of base n level w ≡ x
        → Covers (Meets base n words (3 - level) k) r.end.0 r.start.0 (lines_at base n words k level r)
    chunk-covers (Table j) e =
        rw (lines-table base n words k level r refl refl j e)
        (covers-map {from = r.start.0} (omega arith) (λ l from to p. record {
          entry = p.entry;
          meets = λ a s u stays.
              let on = reach-table base n words a k level here (same a (omega arith) (omega arith)) j e in
              on ∙ p.meets a s u (λ q. stays (on ∙ q));
        })
        (below j r (sub_found base n level w j e).high (omega arith)))
    chunk-covers Outside e =
        rw (lines_other base n words k level r refl refl (inl e))
        (one (λ a l u stays. absurd (stays (reach_outside base n words a k level here (same a l u) e))))
    chunk-covers Leaf e =
        rw (lines_other base n words k level r refl refl (inr e))
        (one (λ a l u stays. reach_leaf base n words a k level here (same a l u) e))

  region-covers : (k level : ℕ) (here : level ≤ 3)
      → ((j : ℕ) (r : MemoryRegion) → level < 3 → r.start.0 ≤ r.end.0
      → Covers (Meets base n words (3 - (level + 1)) j) r.end.0 r.start.0 (lines_from base n words (3 - (level + 1)) j r))
      → (r : MemoryRegion) → r.start.0 ≤ r.end.0
      → Covers (Meets base n words (3 - level) k) r.end.0 r.start.0 (lines_from base n words (3 - level) k r)
  region-covers k level here below r l =
      rw (lines-each base n words k level r here)
      (each-covers (lines_at base n words k level)
      (λ q some within. chunk-covers k level here below q some within (sub_of base n level (fetch words q.start.0 k level)) refl) l
      (chunks_tile level r.start.0 r.end.0))

  -- the lines of a region in table k, for any words
  pub lines_cover : (depth k : ℕ) (r : MemoryRegion) → depth ≤ 3 → r.start.0 ≤ r.end.0
      → Covers (Meets base n words depth k) r.end.0 r.start.0 (lines_from base n words depth k r)
  lines_cover zero k r h l = region-covers k 3 (omega arith) (λ j q low m. absurd (omega arith)) r l
  lines_cover (suc depth) k r h l =
      let same : 3 - (2 - depth) ≡ suc depth = omega arith in
      let one : 3 - (2 - depth + 1) ≡ depth = omega arith in
      rw same at (region-covers k (2 - depth) (omega arith) (λ j q low m. rw one (lines_cover depth j q (omega arith) m)) r l)

-- the lines that `list` gives
pub list_covers : (h : Handle) (s : St) (r : MemoryRegion) → h.level ≤ 3 → r.start.0 ≤ r.end.0
    → Covers (Meets h.base.0 (tables s) s.words (3 - h.level) 0) r.end.0 r.start.0 (lines_of h s r)
unfolding lines_of
list_covers h s r here l = lines_cover h.base.0 (tables s) s.words (3 - h.level) 0 r (omega arith) l
