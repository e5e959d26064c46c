-- The call list: refusals 1, 2, 5, 6, 8, 11 in this order, else the lines. Leans on `Lines`.
use Rattle.std.specs.Prelude.{◌≡◌, true, false, cond, List, ◌++◌, ℕ, ◌+◌, ◌*◌, ◌-◌, ◌^◌, ◌≤◌, ◌<◌, leb, length, drop}
use Rattle.std.proofs.Common.{ap, ◌∙◌, arith, le-leb}
use Rattle.std.proofs.lemmas.Bool.{lt-leb}
use Rattle.laws.specs.Part.{put_part}
use Rattle.laws.specs.Test.{by_bool}
use Rattle.address.specs.Address.{up-below}
use Rattle.region.specs.Region.{rounded}
use Rattle.region.specs.declared.MemoryRegion.{MemoryRegion}
use Rattle.pool.specs.State.{St, tables}
use Rattle.pool.specs.Refuse.{shaped, first_refused, accepted_next, refused-first, granted}
use Rattle.pool.specs.Sound.{soundb}
use Rattle.pool.specs.declared.Handle.{Handle}
use Rattle.pool.specs.declared.Refusal.{Refusal}
use Rattle.pool.specs.declared.Refusal.TheVariants.{Shape, End, Unsound, Short}
use Rattle.region_verify.specs.Verify.{end_fits, verify, refused_never, verified_span, span-length}
use Rattle.list_lines.specs.Lines.{Line, numbers, length-numbers, lines_from, lines_of}
use Rattle.std.specs.Prelude.{Result, Err, Ok}
use Rattle.pool.specs.Refuse.{Outcome}

-- refusals 2, 5, 6
unfoldable pub verify_ends : Handle → ℕ → ℕ → Outcome
verify_ends h start end = cond (end_fits end) (verify h (rounded start end)) (Err (End end))

-- what list answers: the count of its lines
abbrev pub Listed : Type 0
Listed = Result ℕ Refusal

-- the answer and the list
pub record Listing : Type 0 where
  pub answer : Listed
  pub list : List ℕ

abbrev pub listing : Listed → List ℕ → Listing
listing a l = record { answer = a; list = l }

-- the lines at the front, the rest stays
unfoldable pub put : List Line → List ℕ → List ℕ
put ls list = numbers ls ++ drop (4 * length ls) list

-- refusal 11
unfoldable pub list_lines : List Line → List ℕ → Listing
list_lines ls list =
    cond (leb (4 * length ls) (length list)) (listing (Ok (length ls)) (put ls list)) (listing (Err (Short (4 * length ls))) list)

-- refusal 8
unfoldable pub list_sound : Handle → St → MemoryRegion → List ℕ → Listing
list_sound h s r list = let ls = list_lines (lines_of h s r) list in cond (soundb h s) ls (listing (Err Unsound) list)

-- refusal 1, refusals 2, 5, 6, then the rest
unfoldable pub list_call : Handle → St → ℕ → ℕ → List ℕ → Listing
list_call h s start end list =
    let next = first_refused (λ r. listing (Err r) list) (verify_ends h start end) (list_sound h s (rounded start end) list) in
    cond (shaped h s) next (listing (Err Shape) list)

-- ---- laws: one for each way through the code

module _ (h : Handle) (s : St) (start end : ℕ) (list : List ℕ) where
  pub list_misshaped : shaped h s ≡ false → listing (Err Shape) list ≡ list_call h s start end list
  unfolding list_call
  list_misshaped e = rw e

  module _ (shape : shaped h s ≡ true) {x : Outcome} (is : x ≡ verify_ends h start end) where
    by_ends : first_refused (λ r. listing (Err r) list) x (list_sound h s (rounded start end) list) ≡ list_call h s start end list
    unfolding list_call
    by_ends = rw (shape, is)

    pub list_region : (r : Refusal) → x ≡ Err r → listing (Err r) list ≡ list_call h s start end list
    list_region r e = refused-first (λ r. listing (Err r) list) x _ r e ∙ by_ends

    module _ (region : x ≡ granted) where
      by_sound : list_sound h s (rounded start end) list ≡ list_call h s start end list
      by_sound = accepted_next (λ r. listing (Err r) list) x _ region ∙ by_ends

      pub list_unsound : soundb h s ≡ false → listing (Err Unsound) list ≡ list_call h s start end list
      unfolding list_sound
      list_unsound e = rw (← by_sound, e)

      pub list_sound_lem : soundb h s ≡ true → {r : MemoryRegion} → r ≡ rounded start end
          → list_lines (lines_from h.base.0 (tables s) s.words (3 - h.level) 0 r) list ≡ list_call h s start end list
      unfolding list_sound lines_of
      list_sound_lem e q = rw (← by_sound, e, q)

-- ---- refusals 2 and 11

module _ (h : Handle) (start end : ℕ) where
  pub ends_past : end_fits end ≡ false → Err (End end) ≡ verify_ends h start end
  unfolding verify_ends
  ends_past e = rw e

  pub ends_fit : end_fits end ≡ true → {r : MemoryRegion} → r ≡ rounded start end → verify h r ≡ verify_ends h start end
  unfolding verify_ends
  ends_fit e q = rw (e, q)

pub list_short : (ls : List Line) (list : List ℕ) → length list < 4 * length ls
    → listing (Err (Short (4 * length ls))) list ≡ list_lines ls list
unfolding list_lines
list_short ls list l = rw (lt-leb (4 * length ls) (length list) l)

pub list_written : (ls : List Line) (list : List ℕ) → 4 * length ls ≤ length list
    → listing (Ok (length ls)) (put_part 0 (numbers ls) list) ≡ list_lines ls list
unfolding list_lines put put_part
list_written ls list l =
    rw (le-leb (4 * length ls) (length list) l)
    (ap (λ (x : ℕ). listing (Ok (length ls)) (numbers ls ++ drop x list))
    (let e = length-numbers ls in let q : 0 + length (numbers ls) ≡ 4 * length ls = omega arith in q))

-- ---- a region that was verified is no longer than the largest span

pub ends_verified : (h : Handle) (start end : ℕ) → verify_ends h start end ≡ granted → verify h (rounded start end) ≡ granted
unfolding verify_ends
ends_verified h start end e = by_bool (end_fits end) (λ f. rw f at e) (λ f. absurd (refused_never (rw f at e)))

pub verified_length : (h : Handle) (start end : ℕ) → verify_ends h start end ≡ granted → {r : MemoryRegion} → r ≡ rounded start end
    → r.end.0 - r.start.0 ≤ 2 ^ 48
unfolding rounded
verified_length h start end e q =
    rw q
    (span-length h.range h.level (rounded start end) (verified_span h (rounded start end) (ends_verified h start end e))
    (up-below end 4096))
