-- Demand 1 of modify: refused by the lowest number on its slip, and by none where nothing is on it; a refusal leaves pool and list. Leans
-- on `Slip`, `Told`, `Decided`.
use Rattle.std.specs.Prelude.{◌≡◌, Bool, true, false, List, ◌⊎◌, ◌≢◌, ◌↔◌, ℕ, ◌/◌, ◌%◌, ◌≤◌, ◌<◌, length, Err, None, Some}
use Rattle.std.proofs.Math.Path.{refl, sym}
use Rattle.std.proofs.Common.{ap, ◌∙◌, arith}
use Rattle.std.proofs.Math.Logic.{inl, inr, ⊎_elim}
use Rattle.std.specs.Int.Bits.{bit_and}
use Rattle.laws.specs.Test.{by_bool, eq_or, le_or}
use Rattle.address.specs.declared.VirtualAddress.{VirtualAddress}
use Rattle.entry.specs.Word.{only}
use Rattle.region.specs.Region.{rounded}
use Rattle.region.specs.declared.MemoryRegion.{MemoryRegion}
use Rattle.pool.specs.State.{St}
use Rattle.pool.specs.Number.{free}
use Rattle.pool.specs.Refuse.{shaped, granted, Outcome}
use Rattle.pool.specs.Sound.{soundb, flag_set}
use Rattle.pool.specs.declared.Handle.{Handle}
use Rattle.pool.specs.declared.Refusal.{Refusal}
use Rattle.pool.specs.declared.Refusal.TheVariants.{Shape, End, InvalidFlags, FlagSet, RegionBackwards, AddressRange, Unsound, WantOfRoom}
use Rattle.pool.specs.declared.Refusal.TheVariants.{HouseRule, Short}
use Rattle.region_verify.specs.Verify.{end_fits, verify}
use Rattle.modify_entry.specs.declared.Edit.{Edit}
use Rattle.modify_survey.specs.declared.Survey.{Survey}
use Rattle.modify_verify.specs.Verify.{asked_edit, verify_bits, verify_edit, verify_survey, bits_set_invalid, bits_clear_invalid}
use Rattle.modify_verify.specs.Verify.{bits_set_outside, bits-set-valid, bits_clash, bits_clear_outside, survey_short, survey_accepted}
use Rattle.modify_verify.specs.Verify.{bits-accepted, edit_end, edit_bits, edit_region, survey_full, survey_off, survey_broken}
use Rattle.modify.specs.Call.{Modifying, modifying, edit_tables, survey_of, modify_sound, modify_call, sound_not, sound_refused}
use Rattle.modify.specs.Call.{sound_edited, call_misshaped, call-refused, call-asked}
use Rattle.theory_modify.specs.Terms.{ModifyArguments, ModifyPassed}
use Rattle.theory_modify.specs.House.{LowestBreach}
use Rattle.theory_modify.specs.Found.{by_broken}
use Rattle.theory_modify.proofs.Modified.{house_rule_lowest}
use Rattle.theory_demands.specs.Slip.{BadEnd, HasBit1, OutsideSet, Backwards, BeyondRange, BadBit, BadToSet, BadFlags, ModifySlip}
use Rattle.theory_demands.specs.Told.{NoneBelow, LowestGiven, number_range, shape_lowest, none_first, none_next}
use Rattle.theory_demands.specs.Decided.{misshaped, well_shaped, not_misshaped, unsound, sound, RegionStands, region-told, end_told}
use Rattle.theory_demands.specs.Decided.{set_told}

-- ---- 3 and 4, decided

-- the bits to set and to clear are refused by 3, by 4, or by neither
abbrev BitsTold : Handle → ℕ → ℕ → Type 0
BitsTold h set clear =
    ((f : ℕ) × (Err (InvalidFlags f) ≡ verify_bits h set clear) × BadBit set clear f)
    ⊎ (((f : ℕ) × (Err (FlagSet f) ≡ verify_bits h set clear) × ((g : ℕ) → ¬ (BadBit set clear g)) × BadFlags h set clear f)
    ⊎ ((granted ≡ verify_bits h set clear) × ((g : ℕ) → ¬ (BadBit set clear g)) × ((g : ℕ) → ¬ (BadFlags h set clear g))))

module _ (h : Handle) (set clear : ℕ) where
  no_bit : ¬ (HasBit1 set) → ¬ (HasBit1 clear) → (g : ℕ) → ¬ (BadBit set clear g)
  no_bit one two g x = ⊎_elim (λ a. one a.1) (λ a. two a.2) x

  module _ (one : ¬ (HasBit1 set)) (two : ¬ (HasBit1 clear)) where
    outside_set : (only (flag_set h) set ≡ false) × OutsideSet h set → BitsTold h set clear
    outside_set x = inr (inl (set, bits_set_outside h set clear one two x.0, no_bit one two, inl (refl, inl x.1)))

    module _ (from : (only (flag_set h) set ≡ true) × (¬ (OutsideSet h set))) where
      valid-set : set % 2 ≡ 1 → BitsTold h set clear
      valid-set e = inr (inl (set, bits-set-valid h set clear one two from.0 e, no_bit one two, inl (refl, inr (inl e))))

      module _ (even : set % 2 ≢ 1) where
        clash : bit_and set clear ≢ 0 → BitsTold h set clear
        clash n = inr (inl (set, bits_clash h set clear one two from.0 even n, no_bit one two, inl (refl, inr (inr n))))

        module _ (apart : bit_and set clear ≡ 0) where
          good_set : ¬ (BadToSet h set clear)
          good_set x = ⊎_elim from.1 (λ y. ⊎_elim even (λ n. n apart) y) x

          outside_clear : (only (flag_set h) clear ≡ false) × OutsideSet h clear → BitsTold h set clear
          outside_clear x =
              inr
              (inl (
                clear,
                bits_clear_outside h set clear one two from.0 even apart x.0,
                no_bit one two,
                inr
                    (refl, good_set, x.1),
              ))

          accepted : (only (flag_set h) clear ≡ true) × (¬ (OutsideSet h clear)) → BitsTold h set clear
          accepted x =
              inr
              (inr (
                bits-accepted h set clear one two from.0 even apart x.0,
                no_bit one two,
                λ g y. ⊎_elim (λ a. good_set a.1)
                    (λ a. x.1 a.2) y,
              ))

  bits-told : BitsTold h set clear
  bits-told = ⊎_elim
      (λ e. inl (set, bits_set_invalid h set clear e, inl (refl, e)))
      (λ one. ⊎_elim
      (λ e. inl (clear, bits_clear_invalid h set clear one e, inr (refl, one, e)))
      (λ two. ⊎_elim (outside_set one two)
      (λ from. ⊎_elim (valid-set one two from)
      (λ even. ⊎_elim
      (λ apart. ⊎_elim (outside_clear one two from even apart) (accepted one two from even apart) (set_told h clear))
      (clash one two from even) (eq_or (bit_and set clear) 0)) (eq_or
      (set % 2) 1)) (set_told h set)) (eq_or (clear / 2 % 2) 1)) (eq_or (set / 2 % 2) 1)

-- ---- the call

-- an edit that is carried out is no refusal
edited-not : (h : Handle) (x : Edit) (s : St) (list : List ℕ) (r : Refusal) → (edit_tables h x s list).answer ≢ Err r
unfolding edit_tables
edited-not h x s list r q = cc

module _ (h : Handle) (s : St) (start end set clear : ℕ) (live : Bool) (list : List ℕ) where
  abbrev Here : Refusal → Type 0
  Here = ModifySlip h s start end set clear live list

  abbrev e : Edit
  e = asked_edit start end set clear live

  abbrev c : ModifyArguments
  c = record { start = start; end = end; set = set; clear = clear; live = live }

  abbrev v : Survey
  v = survey_of h e s

  abbrev r : MemoryRegion
  r = rounded start end

  abbrev Whole : Modifying
  Whole = modify_call h start end set clear live s list

  -- refused by the lowest, with pool and list as they were; or nothing is on the slip and it is no refusal
  abbrev Goal : Type 0
  Goal =
      ((x : Refusal) × (Whole ≡ modifying (Err x) s list) × LowestGiven Here x)
      ⊎ (((q : Refusal) → ¬ (Here q)) × ((x : Refusal) → Whole.answer ≢ Err x))

  module _ (fits : shaped h s ≡ true) where
    refused_by : (x : Refusal) → Err x ≡ verify_edit h end e → LowestGiven Here x → Goal
    refused_by x is lowest = inl (x, sym (call-refused h start end set clear live s list fits is x refl), lowest)

    one : NoneBelow Here 2
    unfolding ModifySlip
    one = none_next Here 1 (none_first Here) (not_misshaped h s fits)

    bad_end : (end_fits end ≡ false) × BadEnd end → Goal
    unfolding ModifySlip
    bad_end x = refused_by (End end) (edit_end h end e x.0) (record { given = (refl, x.1); lower = one })

    module _ (ends : end_fits end ≡ true) (good : ¬ (BadEnd end)) where
      two : NoneBelow Here 3
      unfolding ModifySlip
      two = none_next Here 2 one (λ x g. good g.1)

      three : ((g : ℕ) → ¬ (BadBit set clear g)) → NoneBelow Here 4
      unfolding ModifySlip
      three plain = none_next Here 3 two plain

      bad_bit : ((f : ℕ) × (Err (InvalidFlags f) ≡ verify_bits h set clear) × BadBit set clear f) → Goal
      unfolding ModifySlip asked_edit
      bad_bit x =
          refused_by (InvalidFlags x.0) (edit_bits h end e ends x.1 (InvalidFlags x.0) refl) (record { given = x.2; lower = two })

      bad_flags : ((f : ℕ) × (Err (FlagSet f) ≡ verify_bits h set clear) × ((g : ℕ) → ¬ (BadBit set clear g)) × BadFlags h set clear f)
          → Goal
      unfolding ModifySlip asked_edit
      bad_flags x =
          refused_by (FlagSet x.0) (edit_bits h end e ends x.1 (FlagSet x.0) refl) (record { given = x.3; lower = three x.2 })

      module _
          (bits : (granted ≡ verify_bits h set clear) × ((g : ℕ) → ¬ (BadBit set clear g)) × ((g : ℕ) → ¬ (BadFlags h set clear g))) where
        four : NoneBelow Here 5
        unfolding ModifySlip
        four = none_next Here 4 (three bits.1) bits.2

        five : ¬ (Backwards r) → NoneBelow Here 6
        unfolding ModifySlip
        five forwards = none_next Here 5 four (λ x g. forwards (rw (← g.0) g.1))

        region_is : verify h r ≡ verify_edit h end e
        unfolding asked_edit
        region_is = edit_region h end e ends bits.0 refl

        backwards : (verify h r ≡ Err (RegionBackwards r)) × Backwards r → Goal
        unfolding ModifySlip
        backwards x = refused_by (RegionBackwards r) (sym x.0 ∙ region_is) (record { given = (refl, x.1); lower = four })

        beyond : ((a : VirtualAddress) × (verify h r ≡ Err (AddressRange a)) × (¬ (Backwards r))
            × BeyondRange h.range h.level r a)
            → Goal
        unfolding ModifySlip
        beyond x = refused_by (AddressRange x.0) (sym x.1 ∙ region_is) (record { given = x.3; lower = five x.2 })

        module _ (stands : (verify h r ≡ granted) × RegionStands h r) where
          whole_is : modify_sound h e s list ≡ Whole
          whole_is = call-asked h start end set clear live s list fits region_is stands.0

          seven : NoneBelow Here 8
          unfolding ModifySlip
          seven = none_next Here 7 (none_next Here 6 (five stands.1.forwards) stands.1.within) (λ x g. g)

          unsafe : soundb h s ≡ false → Goal
          unfolding ModifySlip
          unsafe un = inl (
            Unsound,
            sym (sound_not h e s list un ∙ whole_is),
            record { given = unsound h s fits un; lower = seven },
          )

          module _ (is : soundb h s ≡ true) where
            passed : ModifyPassed h c s
            passed = record { shape = well_shaped h s fits; asks = sym region_is ∙ stands.0; pool = sound h s fits is }

            -- what the survey finds is the lowest breach by the walk
            breach_is : (w : ℕ) → (v.broken ≡ Some w) ↔ LowestBreach h c s w
            breach_is w = house_rule_lowest h c s list passed w

            no_breach : v.broken ≡ None → (w : ℕ) → ¬ ((live ≡ true) × LowestBreach h c s w)
            no_breach kept w g = cc ((breach_is w).1 g.1, kept)

            eight : NoneBelow Here 9
            unfolding ModifySlip
            eight = none_next Here 8 seven (λ g. g (sound h s fits is))

            nine : v.splits ≤ free s.ledger → NoneBelow Here 10
            unfolding ModifySlip
            nine room = none_next Here 9 eight (λ k x g. omega (arith, g.0, g.1, g.2))

            ten : v.splits ≤ free s.ledger → ((w : ℕ) → ¬ ((live ≡ true) × LowestBreach h c s w)) → NoneBelow Here 11
            unfolding ModifySlip
            ten room keeps = none_next Here 10 (nine room) keeps

            surveyed : {x : Outcome} → x ≡ verify_survey (free s.ledger) (length list) live v → (y : Refusal) → x ≡ Err y
                → LowestGiven Here y → Goal
            unfolding asked_edit
            surveyed told y q lowest = inl (y, sym (sound_refused h e s list is refl refl told y q ∙ whole_is), lowest)

            done : granted ≡ verify_survey (free s.ledger) (length list) live v → v.splits ≤ free s.ledger
                → (live ≡ true → (v.broken ≡ None) × (v.numbers ≤ length list)) → Goal
            unfolding asked_edit ModifySlip
            done told room rest = inr (
              (λ q. none_next Here 11 (ten room (λ w g. no_breach (rest g.0).0 w g))
                  (λ k g. let z = (rest g.0).1 in omega (arith, g.1, g.2)) q (number_range q).1),
              λ x q. edited-not h e s list x
                  (ap (λ (y : Modifying). y.answer) (sound_edited h e s list is refl refl told refl ∙ whole_is) ∙ q),
            )

            full : free s.ledger < v.splits → Goal
            unfolding ModifySlip
            full short =
                surveyed (survey_full (free s.ledger) (length list) live v short) (WantOfRoom v.splits (free s.ledger)) refl
                (record { given = (refl, refl, short); lower = eight })

            module _ (room : v.splits ≤ free s.ledger) where
              off : live ≡ false → Goal
              off q =
                  done (survey_off (free s.ledger) (length list) live v room q) room
                  (λ on. let z : true ≡ false = sym on ∙ q in cc)

              module _ (on : live ≡ true) where
                broken : (w : ℕ) → v.broken ≡ Some w → Goal
                unfolding ModifySlip
                broken w q =
                    surveyed (survey_broken (free s.ledger) (length list) live v room on q) (HouseRule w) refl
                    (record { given = (on, (breach_is w).0 q); lower = nine room })

                module _ (kept : v.broken ≡ None) where
                  narrow : length list < v.numbers → Goal
                  unfolding ModifySlip
                  narrow short =
                      surveyed (survey_short (free s.ledger) (length list) live v room on kept short) (Short v.numbers) refl
                      (record { given = (on, refl, short); lower = ten room (no_breach kept) })

                  enough : v.numbers ≤ length list → Goal
                  enough l = done (survey_accepted (free s.ledger) (length list) live v room on kept l) room (λ q. (kept, l))

  pub modify_told : Goal
  unfolding ModifySlip
  modify_told = by_bool (shaped h s)
      (λ fits. ⊎_elim (bad_end fits) (λ x. ⊎_elim (bad_bit fits x.0 x.1)
      (λ y. ⊎_elim (bad_flags fits x.0 x.1)
      (λ bits. ⊎_elim (backwards fits x.0 x.1 bits)
      (λ z. ⊎_elim (beyond fits x.0 x.1 bits)
      (λ stands. by_bool (soundb h s)
      (λ is. ⊎_elim
      (λ room. by_bool live
      (λ on. by_broken v.broken (broken fits x.0 x.1 bits stands is room on)
      (λ kept. ⊎_elim (enough fits x.0 x.1 bits stands is room on kept) (narrow fits x.0 x.1 bits stands is room on kept)
      (le_or v.numbers (length list))))
      (off fits x.0 x.1 bits stands is room))
      (full fits x.0 x.1 bits stands is)
      (le_or v.splits (free s.ledger)))
      (unsafe fits x.0 x.1 bits stands)) z)
      (region-told h r)) y) (bits-told h set clear)) (end_told end))
      (λ fails. inl (Shape, sym (call_misshaped h start end set clear live s list fails), shape_lowest Here (misshaped h s fails)))
