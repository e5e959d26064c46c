-- An accepted list against the Arm walk: its lines ascend, share no address, cover the region exactly, and each says what the walk meets at
-- every address of it. Leans on `Alike`, `Walked`, list_lines' `Cover`.
use Rattle.std.specs.Prelude.{◌≡◌, true, ℕ, ◌*◌, ◌≤◌, ◌<◌, leb, length, Err, Ok}
use Rattle.std.proofs.Math.Path.{refl}
use Rattle.std.proofs.Common.{ap}
use mathlib.Core.List.{List}
use Rattle.laws.specs.Test.{by_bool}
use Rattle.region.specs.Region.{rounded}
use Rattle.region.specs.declared.MemoryRegion.{MemoryRegion}
use Rattle.pool.specs.State.{St, tables}
use Rattle.pool.specs.Refuse.{shaped, first_refused, granted, Outcome}
use Rattle.pool.specs.Sound.{soundb}
use Rattle.pool.specs.declared.Handle.{Handle}
use Rattle.pool.specs.declared.Refusal.{Refusal}
use Rattle.arm.specs.Arm.{at, says, reach}
use Rattle.look_up.specs.Call.{answer, look_up_call}
use Rattle.list_lines.specs.Lines.{Line, lines_of}
use Rattle.list_lines.specs.Cover.{nth_line, InLine}
use Rattle.list.specs.Call.{verify_ends, listing, put, list_lines, list_sound, list_call, Listed}
use Rattle.theory_walk.specs.Alike.{Alike}

-- ---- when a list is accepted

pub record Accepts (h : Handle) (s : St) (start end : ℕ) (list : List ℕ) (count : ℕ) (after : List ℕ) : Type 0 where
  pub shape : shaped h s ≡ true
  pub region : verify_ends h start end ≡ granted
  pub sound : soundb h s ≡ true
  pub counted : length (lines_of h s (rounded start end)) ≡ count
  pub written : put (lines_of h s (rounded start end)) list ≡ after

never : {r : Refusal} {l after : List ℕ} {count : ℕ} → listing (Err r) l ≡ listing (Ok count) after → ⊥
never {r} {count = count} e =
    let q : ◌≡◌ {A = Listed} (Err r) (Ok count) = ap (λ x. x.answer) e in cc

module _ {h : Handle} {s : St} {start end : ℕ} {list : List ℕ} {count : ℕ} {after : List ℕ} where
  pub list_accepted : list_call h s start end list ≡ listing (Ok count) after → Accepts h s start end list count after
  unfolding list_call first_refused list_sound list_lines
  list_accepted e =
      by_bool (shaped h s) (λ shape. verified shape (verify_ends h start end) refl (rw shape at e)) (λ shape. absurd (never (rw shape at e)))
    where
      ls : List Line
      ls = lines_of h s (rounded start end)

      written : shaped h s ≡ true → verify_ends h start end ≡ granted → soundb h s ≡ true
          → list_lines ls list ≡ listing (Ok count) after
          → Accepts h s start end list count after
      written shape region sound q = by_bool (leb (4 * length ls) (length list))
          (λ room.
          let o : listing (Ok (length ls)) (put ls list) ≡ listing (Ok count) after = rw room at q in
          let c : ◌≡◌ {A = Listed} (Ok (length ls)) (Ok count) = ap (λ x. x.answer) o in
          record { shape = shape; region = region; sound = sound; counted = cc c; written = ap (λ x. x.list) o })
          (λ room. absurd (never (rw room at q)))

      verified : shaped h s ≡ true → (x : Outcome) → verify_ends h start end ≡ x
          → first_refused (λ r. listing (Err r) list) x (list_sound h s (rounded start end) list) ≡ listing (Ok count) after
          → Accepts h s start end list count after
      verified shape (Err r) region q = absurd (never q)
      verified shape (Ok tt) region q =
          by_bool (soundb h s) (λ sound. written shape region sound (rw sound at q)) (λ sound. absurd (never (rw sound at q)))

-- ---- its lines

module _ (h : Handle) (s : St) where
  -- at every address of the line the walk ends in its word, at its level; look up answers with what that word says; two addresses of the
  -- line are told alike
  pub record Walks (l : Line) : Type 0 where
    pub meets : (a : ℕ) → l.start ≤ a → a < l.end → reach h.base.0 (tables s) s.words a h.level ≡ at l.level l.word
    pub looks : (a : ℕ) → l.start ≤ a → a < l.end → look_up_call h s a ≡ answer (says a (at l.level l.word))
    pub alike : (a b : ℕ) → l.start ≤ a → a < l.end → l.start ≤ b → b < l.end → Alike a b (look_up_call h s a) (look_up_call h s b)

  pub record LinesShow (r : MemoryRegion) (ls : List Line) : Type 0 where
    -- in the region, and none empty
    pub within : (i : ℕ) → i < length ls
        → (r.start.0 ≤ (nth_line ls i).start) × ((nth_line ls i).start < (nth_line ls i).end) × ((nth_line ls i).end ≤ r.end.0)
    -- ascending and disjoint: a line ends where a later one begins, or before
    pub ascends : (i j : ℕ) → i < j → j < length ls → (nth_line ls i).end ≤ (nth_line ls j).start
    -- every address of the region is in a line
    pub covers : (a : ℕ) → r.start.0 ≤ a → a < r.end.0 → InLine Walks ls a
    -- every line says what the walk meets
    pub walks : (i : ℕ) → i < length ls → Walks (nth_line ls i)
