-- Document 01, "Bench cases", I: after A, bit 7 set, live and not. By computing the definitions. Leans on `Bench`.
use Rattle.std.specs.Prelude.{List, [], ◌∷◌, Bool, true, false, ◌≡◌, refl, ℕ, Err, Ok}
use Rattle.entry.specs.Word.{edited}
use Rattle.pool.specs.State.{St}
use Rattle.pool.specs.declared.Refusal.TheVariants.{HouseRule}
use Rattle.modify_entry.specs.Word.{of_kind, edit_word}
use Rattle.region.specs.Each.{each_of, each_chunk}
use Rattle.pool.specs.Number.{in_found}
use Rattle.pool.specs.Refuse.{first_refused}
use Rattle.modify_entry.specs.Own.{put_number, own_chunk, own_range}
use Rattle.modify_range.specs.Range.{own, down_chunk, own_work, modify_range}
use Rattle.modify_survey.specs.House.{house_rule, may_change}
use Rattle.modify_survey.specs.Survey.{adding, splits_in, breach, if_block, survey_range}
use Rattle.modify_survey.specs.Survey.{survey_part, survey_whole, survey_entry, survey_sub, survey_chunk}
use Rattle.modify_verify.specs.Verify.{asked_edit, settable, verify_bits, verify_edit, verify_survey}
use Rattle.modify.specs.Call.{ModifyAnswer, modifying, answer_of, edit_tables, modify_sound, modify_call}
use Rattle.modify.specs.declared.Modified.TheVariants.{Tables, Live}
use Rattle.theory_case_rows.specs.Computes.{checks, regions, takes}
use Rattle.theory_case_rows.specs.Bench.{handle, fresh_row, word, pool_a, pool_f, rows}

-- bit 7 set after A: what is asked, and what document 01 says of it: the answer, every word and number, and the list
unfoldable pub Sets : ℕ → ℕ → Bool → ModifyAnswer → St → List ℕ → Type 0
Sets start end live answer after list = modify_call (handle 1) start end 0x80 0 live pool_a (7 ∷ 7 ∷ []) ≡ modifying answer after list

-- live, on the whole block: word 0x4000_0481, list [0]; the rest of the list stays
abbrev pub WholeEdited : Type 0
WholeEdited = Sets 0 0x4000_0000 true (Ok (Live 1 1)) (word 0 0 0x4000_0481 (fresh_row 1 8)) (0 ∷ 7 ∷ [])

-- live, on one page of it: refused 10 (0x4000_0401)
abbrev pub PartEdited : Type 0
PartEdited = Sets 0x1000 0x2000 true (Err (HouseRule 0x4000_0401)) pool_a (7 ∷ 7 ∷ [])

-- not live: table 2 word 1 is 0x4000_1483; the block of A is cut twice, as in F
abbrev pub StillEdited : Type 0
StillEdited = Sets 0x1000 0x2000 false (Ok (Tables 3)) (word 2 1 0x4000_1483 pool_f) (7 ∷ 7 ∷ [])

pub case_I : WholeEdited × PartEdited × StillEdited
unfolding checks regions takes rows edited of_kind edit_word each_of each_chunk put_number own_chunk own_range own in_found down_chunk own_work
    modify_range house_rule may_change adding splits_in breach if_block survey_part survey_whole survey_entry survey_sub survey_chunk survey_range
    asked_edit settable verify_bits first_refused verify_edit verify_survey answer_of edit_tables modify_sound modify_call Sets
case_I = (refl, refl, refl)
