-- Theorems about the definitions of specs/Listed.
use Rattle.std.specs.Prelude.{◌≡◌, true, ◌≢◌, ℕ, ◌-◌, ◌^◌, ◌≤◌, ◌<◌, length, Ok}
use Rattle.std.proofs.Common.{sym, ◌∙◌, arith, le-leb, lt-ltb}
use mathlib.Core.List.{List}
use Rattle.laws.specs.Size.{span}
use Rattle.region.specs.Region.{rounded}
use Rattle.region.specs.declared.MemoryRegion.{MemoryRegion}
use Rattle.pool.specs.State.{St, tables}
use Rattle.pool.specs.Refuse.{Shaped, shaped-says, granted}
use Rattle.pool.specs.declared.Handle.{Handle}
use Rattle.pool.specs.declared.VaRange.{VaRange}
use Rattle.pool.specs.declared.VaRange.TheVariants.{Lower, Upper}
use Rattle.region_verify.specs.Verify.{verify, RegionInSpan, verified_forwards, verified_span}
use Rattle.theory_sound.proofs.Decide.{decide_sound}
use Rattle.arm.specs.Arm.{at, away, reach}
use Rattle.look_up.specs.Call.{spanned, look_up_call}
use Rattle.list_lines.specs.Lines.{Line, lines_of}
use Rattle.list_lines.specs.Cover.{Covers, covers-map, Meets, nth_line, inside, ascending, holds, covered}
use Rattle.list_lines.proofs.Cover.{list_covers}
use Rattle.list.specs.Call.{listing, put, list_call, ends_verified}
use Rattle.theory_walk.proofs.Walked.{never_away}
use Rattle.theory_walk.specs.Alike.{Alike}
use Rattle.theory_walk.proofs.Alike.{looks_up, entry_alike}
use Rattle.theory_walk.specs.Listed.{Accepts, list_accepted, Walks, LinesShow}

-- the addresses of a region that was verified lie in the span
spans : (range : VaRange) (level : ℕ) (r : MemoryRegion) → RegionInSpan range level r → (a : ℕ) → r.start.0 ≤ a → a < r.end.0
    → spanned range level a ≡ true
unfolding spanned
spans Lower level r e a l u = lt-ltb a (span level) (omega arith)
spans Upper level r e a l u = le-leb (2 ^ 64 - span level) a (omega arith)

module _ (h : Handle) (s : St) (start end : ℕ) where
  abbrev r : MemoryRegion
  r = rounded start end

  abbrev ls : List Line
  ls = lines_of h s r

  lines-walk : {list after : List ℕ} {count : ℕ} → Accepts h s start end list count after → Covers (Walks h s) r.end.0 r.start.0 ls
  unfolding reach
  lines-walk accepted =
      covers-map {from = r.start.0} (omega arith) walks (list_covers h s r shape.level (verified_forwards h r verified))
    where
      shape : Shaped h s
      shape = shaped-says h s (rw accepted.shape tt)

      verified : verify h r ≡ granted
      verified = ends_verified h start end accepted.region

      stays : (a : ℕ) → reach h.base.0 (tables s) s.words a h.level ≢ away
      stays = never_away shape (decide_sound shape (rw accepted.sound tt))

      in_span : (a : ℕ) → r.start.0 ≤ a → a < r.end.0 → spanned h.range h.level a ≡ true
      in_span = spans h.range h.level r (verified_span h r verified)

      walks : (l : Line) → r.start.0 ≤ l.start → l.end ≤ r.end.0 → Meets h.base.0 (tables s) s.words (3 - h.level) 0 l
          → Walks h s l
      walks l from to m = record {
        meets = ends;
        looks = λ a low high. looks_up h s accepted.shape a (known a low high) (ends a low high);
        alike = λ a b low high low' high'.
            entry_alike h s accepted.shape a b (known a low high) (known b low' high') (ends a low high)
            (m.entry a low high ∙ sym (m.entry b low' high'));
      }
        where
          known : (a : ℕ) → l.start ≤ a → a < l.end → spanned h.range h.level a ≡ true
          known a low high = in_span a (omega arith) (omega arith)

          ends : (a : ℕ) → l.start ≤ a → a < l.end → reach h.base.0 (tables s) s.words a h.level ≡ at l.level l.word
          ends a low high = m.meets a low high (stays a)

  -- THE LIST IS THE WALK: an accepted list gives the count of the lines, writes them at the front of what was lent, and they show what the
  -- walk meets
  pub list_walks : (list : List ℕ) {after : List ℕ} {count : ℕ} → list_call h s start end list ≡ listing (Ok count) after
      → (length ls ≡ count) × (put ls list ≡ after) × LinesShow h s r ls
  list_walks list e =
      let accepted = list_accepted e in
      let walk = lines-walk accepted in (
        accepted.counted,
        accepted.written,
        record { within = inside walk; ascends = ascending walk; covers = covered walk; walks = holds walk },
      )

  -- look up answers alike in every page of one line
  pub line_alike : (list : List ℕ) {after : List ℕ} {count : ℕ} → list_call h s start end list ≡ listing (Ok count) after → (i : ℕ)
      → i < count → (a b : ℕ)
      → (nth_line ls i).start ≤ a → a < (nth_line ls i).end → (nth_line ls i).start ≤ b → b < (nth_line ls i).end
      → Alike a b (look_up_call h s a) (look_up_call h s b)
  line_alike list e i known = let shown = list_walks list e in (shown.2.walks i (omega (arith, shown.0))).alike
