-- The whole call (document 01, "Putting down a map", Modify, and "The refusal slip"): answer, state and list for every input. Refusals 1 to
-- 6, 8, 9 and, live, 10, 11 in their order; a refusal leaves the state and the list as they were.
use Rattle.std.specs.Prelude.{◌≡◌, Bool, cond, List, ℕ, ◌-◌, length}
use Rattle.std.proofs.Common.{ap, ◌∙◌}
use Rattle.std.proofs.Math.Bool.{true, false}
use Rattle.pool.specs.State.{St}
use Rattle.pool.specs.Number.{used, free}
use Rattle.pool.specs.Refuse.{shaped, first_refused, accepted_next, refused-first, granted}
use Rattle.pool.specs.Sound.{soundb}
use Rattle.pool.specs.declared.Handle.{Handle}
use Rattle.pool.specs.declared.Refusal.{Refusal}
use Rattle.pool.specs.declared.Refusal.TheVariants.{Shape, Unsound}
use Rattle.modify_entry.specs.declared.Edit.{Edit}
use Rattle.modify_range.specs.Range.{Work, work, modify_range}
use Rattle.modify_survey.specs.declared.Survey.{Survey}
use Rattle.modify_survey.specs.Survey.{survey_range}
use Rattle.modify.specs.declared.Modified.{Modified}
use Rattle.modify.specs.declared.Modified.TheVariants as modified
use Rattle.modify_verify.specs.Verify.{asked_edit, verify_edit, verify_survey}
use Rattle.std.specs.Prelude.{Result, Err, Ok, None}
use Rattle.pool.specs.Refuse.{Outcome}

-- what modify answers
abbrev pub ModifyAnswer : Type 0
ModifyAnswer = Result Modified Refusal

-- the answer, the state and the list
pub record Modifying : Type 0 where
  pub answer : ModifyAnswer
  pub state : St
  pub list : List ℕ

abbrev pub modifying : ModifyAnswer → St → List ℕ → Modifying
modifying a s l = record { answer = a; state = s; list = l }

-- a refusal leaves the state and the list as they were
abbrev pub refused : Refusal → St → List ℕ → Modifying
refused r s l = modifying (Err r) s l

-- "map, modify and compact answer with the tables in use afterwards, counted off the ledger. Live modify adds its count of numbers."
unfoldable pub answer_of : Bool → Work → Modified
answer_of live w = cond live (modified.Live (used w.state.ledger) w.count) (modified.Tables (used w.state.ledger))

-- the edit from the root down, with no number listed yet
unfoldable pub edit_tables : Handle → Edit → St → List ℕ → Modifying
edit_tables h e s list = let w = modify_range (3 - h.level) h 0 e (work s list 0) in modifying (Ok (answer_of e.live w)) w.state w.list

-- what an edit of the root's tables would do
abbrev pub nothing : Survey
nothing = record { splits = 0; numbers = 0; broken = None }

abbrev pub survey_of : Handle → Edit → St → Survey
survey_of h e s = survey_range (3 - h.level) h s 0 e nothing

-- refusal 8, refusals 9 to 11, then the edit
unfoldable pub modify_sound : Handle → Edit → St → List ℕ → Modifying
modify_sound h e s list =
    let asked = verify_survey (free s.ledger) (length list) e.live (survey_of h e s) in
    let next = first_refused (λ r. refused r s list) asked (edit_tables h e s list) in
    cond (soundb h s) next (refused Unsound s list)

-- refusal 1, refusals 2 to 6, then the rest
unfoldable pub modify_call : Handle → ℕ → ℕ → ℕ → ℕ → Bool → St → List ℕ → Modifying
modify_call h start end set clear live s list =
    let e = asked_edit start end set clear live in
    let next = first_refused (λ r. refused r s list) (verify_edit h end e) (modify_sound h e s list) in
    cond (shaped h s) next (refused Shape s list)

-- ---- laws: one for each way through the code

module _ (h : Handle) (e : Edit) (s : St) (list : List ℕ) {t : St} {l : List ℕ} {n : ℕ}
    (is : work t l n ≡ modify_range (3 - h.level) h 0 e (work s list 0)) where
  done : (live : Bool) → e.live ≡ live → modifying (Ok (answer_of live (work t l n))) t l ≡ edit_tables h e s list
  unfolding edit_tables
  done live q = rw (← q) (ap (λ (w : Work). modifying (Ok (answer_of e.live w)) w.state w.list) is)

  pub done_live : e.live ≡ true → {count : ℕ} → count ≡ used t.ledger → modifying (Ok (modified.Live count n)) t l ≡ edit_tables h e s list
  unfolding answer_of
  done_live q u = rw u (done true q)

  pub done_still : e.live ≡ false → {count : ℕ} → count ≡ used t.ledger
      → modifying (Ok (modified.Tables count)) t l ≡ edit_tables h e s list
  unfolding answer_of
  done_still q u = rw u (done false q)

module _ (h : Handle) (e : Edit) (s : St) (list : List ℕ) where
  pub sound_not : soundb h s ≡ false → refused Unsound s list ≡ modify_sound h e s list
  unfolding modify_sound
  sound_not q = rw q

  module _ (sound : soundb h s ≡ true) {room : ℕ} (spare : room ≡ free s.ledger) {v : Survey} (found : v ≡ survey_of h e s) {x : Outcome}
      (is : x ≡ verify_survey room (length list) e.live v) where
    surveyed : x ≡ verify_survey (free s.ledger) (length list) e.live (survey_of h e s)
    surveyed = is ∙ rw (spare, found)

    by_survey : first_refused (λ r. refused r s list) x (edit_tables h e s list) ≡ modify_sound h e s list
    unfolding modify_sound
    by_survey = rw (sound, surveyed)

    pub sound_refused : (r : Refusal) → x ≡ Err r → refused r s list ≡ modify_sound h e s list
    sound_refused r q = refused-first (λ r. refused r s list) x _ r q ∙ by_survey

    pub sound_edited : x ≡ granted → edit_tables h e s list ≡ modify_sound h e s list
    sound_edited q = accepted_next (λ r. refused r s list) x _ q ∙ by_survey

module _ (h : Handle) (start end set clear : ℕ) (live : Bool) (s : St) (list : List ℕ) where
  pub call_misshaped : shaped h s ≡ false → refused Shape s list ≡ modify_call h start end set clear live s list
  unfolding modify_call
  call_misshaped q = rw q

  module _ (shape : shaped h s ≡ true) {x : Outcome} (is : x ≡ verify_edit h end (asked_edit start end set clear live)) where
    by_asked : first_refused (λ r. refused r s list) x (modify_sound h (asked_edit start end set clear live) s list)
        ≡ modify_call h start end set clear live s list
    unfolding modify_call
    by_asked = rw (shape, is)

    pub call-refused : (r : Refusal) → x ≡ Err r → refused r s list ≡ modify_call h start end set clear live s list
    call-refused r q = refused-first (λ r. refused r s list) x _ r q ∙ by_asked

    pub call-asked : x ≡ granted → modify_sound h (asked_edit start end set clear live) s list
        ≡ modify_call h start end set clear live s list
    call-asked q = accepted_next (λ r. refused r s list) x _ q ∙ by_asked
