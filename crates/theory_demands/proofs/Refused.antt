-- Theorems about the definitions of specs/Refused.
use Rattle.std.proofs.Math.Path.{◌≡◌, refl, sym}
use Rattle.std.proofs.Common.{◌∙◌}
use Rattle.std.specs.Prelude.{true, false, ℕ, ◌-◌, ◌/◌, ◌%◌, ◌≤◌, ◌<◌, Err}
use Rattle.std.proofs.Math.Logic.{inl, inr, ⊎_elim}
use native.Mathlib.Omega.{arith}
use Rattle.laws.specs.Test.{by_bool, eq_or, le_or}
use Rattle.address.specs.declared.VirtualAddress.{VirtualAddress}
use Rattle.entry.specs.Word.{only}
use Rattle.region.specs.Region.{rounded}
use Rattle.pool.specs.State.{St}
use Rattle.pool.specs.Number.{free}
use Rattle.pool.specs.Refuse.{shaped, granted}
use Rattle.pool.specs.Sound.{soundb, flag_set}
use Rattle.pool.specs.declared.Handle.{Handle}
use Rattle.pool.specs.declared.Refusal.{Refusal}
use Rattle.pool.specs.declared.Refusal.TheVariants.{Shape, End, InvalidFlags, FlagSet, RegionBackwards, AddressRange, Frame, Unsound}
use Rattle.pool.specs.declared.Refusal.TheVariants.{WantOfRoom}
use Rattle.region_verify.specs.Verify.{end_fits, verify}
use Rattle.map_count_spec.specs.Needed.{needed}
use Rattle.map_rules.specs.declared.Map.{Map}
use Rattle.map_verify.specs.Verify.{asked_map, frame_asked, verify_map, ask_end, ask_invalid, ask_set, ask_region, ask_frame}
use Rattle.map_spec.specs.Call.{put_down, map_sound, map_call, sound_not}
use Rattle.map_spec.specs.Call.{sound_full, sound_mapped, call_misshaped, call-refused, call-asked}
use Rattle.theory_demands.specs.Slip.{BadEnd, HasBit1, OutsideSet, Backwards, BeyondRange, BadFrame, MapSlip}
use Rattle.theory_demands.specs.Told.{NoneBelow, LowestGiven, Told, number_range, shape_lowest, none_first, none_next}
use Rattle.theory_demands.specs.Decided.{misshaped, not_misshaped, unsound, sound, RegionStands, region-told, end_told, set_told}
use Rattle.theory_demands.proofs.Decided.{frame_told}
use Rattle.theory_demands.specs.Refused.{answer-same}

-- ---- map: 1 to 9

module _ (h : Handle) (s : St) (start end frame flags constraints : ℕ) where
  abbrev MapHere : Refusal → Type 0
  MapHere = MapSlip h s start end frame flags constraints

  abbrev need : ℕ
  need = needed (3 - h.level) h s 0 (asked_map start end frame flags constraints)

  abbrev m : Map
  m = asked_map start end frame flags constraints

  abbrev MapGoal : Type 0
  MapGoal = Told MapHere Err (map_call h start end frame flags constraints s).answer

  -- refused for its arguments, whatever the refusal
  module _ (fits : shaped h s ≡ true) where
    map-refused : (r : Refusal) → Err r ≡ verify_map h end m → LowestGiven MapHere r → MapGoal
    map-refused r e lowest = inl (r, sym (answer-same (call-refused h start end frame flags constraints s fits e r refl)), lowest)

    map-one : NoneBelow MapHere 2
    unfolding MapSlip
    map-one = none_next MapHere 1 (none_first MapHere) (not_misshaped h s fits)

    map_end : (end_fits end ≡ false) × BadEnd end → MapGoal
    unfolding MapSlip
    map_end x = map-refused (End end) (ask_end h end m x.0) (record { given = (refl, x.1); lower = map-one })

    module _ (ends : end_fits end ≡ true) (good : ¬ (BadEnd end)) where
      map_two : NoneBelow MapHere 3
      unfolding MapSlip
      map_two = none_next MapHere 2 map-one (λ e g. good g.1)

      map-bit : HasBit1 flags → MapGoal
      unfolding MapSlip asked_map
      map-bit x = map-refused (InvalidFlags flags) (ask_invalid h end m ends x) (record { given = (refl, x); lower = map_two })

      module _ (plain : ¬ (HasBit1 flags)) where
        map_three : NoneBelow MapHere 4
        unfolding MapSlip
        map_three = none_next MapHere 3 map_two (λ f g. plain g.1)

        map-set : (only (flag_set h) flags ≡ false) × OutsideSet h flags → MapGoal
        unfolding MapSlip asked_map
        map-set x = map-refused (FlagSet flags) (ask_set h end m ends plain x.0) (record { given = (refl, x.1); lower = map_three })

        module _ (from : (only (flag_set h) flags ≡ true) × (¬ (OutsideSet h flags))) where
          map_four : NoneBelow MapHere 5
          unfolding MapSlip
          map_four = none_next MapHere 4 map_three (λ f g. from.1 g.1)

          map_five : ¬ (Backwards (rounded start end)) → NoneBelow MapHere 6
          unfolding MapSlip
          map_five forwards = none_next MapHere 5 map_four (λ r g. forwards (rw (← g.0) g.1))

          map_backwards : (verify h (rounded start end) ≡ Err (RegionBackwards (rounded start end))) × Backwards (rounded start end)
              → MapGoal
          unfolding MapSlip asked_map
          map_backwards x =
              map-refused (RegionBackwards (rounded start end))
              (ask_region h end m ends plain from.0 (sym x.0) (RegionBackwards (rounded start end)) refl)
              (record { given = (refl, x.1); lower = map_four })

          map_beyond : ((a : VirtualAddress) × (verify h (rounded start end) ≡ Err (AddressRange a))
              × (¬ (Backwards (rounded start end)))
              × BeyondRange h.range h.level (rounded start end) a) → MapGoal
          unfolding MapSlip asked_map
          map_beyond x =
              map-refused (AddressRange x.0) (ask_region h end m ends plain from.0 (sym x.1) (AddressRange x.0) refl)
              (record { given = x.3; lower = map_five x.2 })

          module _ (stands : (verify h (rounded start end) ≡ granted) × RegionStands h (rounded start end)) where
            framed : frame_asked frame ((rounded start end).end.0 - (rounded start end).start.0) ≡ verify_map h end m
            unfolding asked_map
            framed = ask_frame h end m ends plain from.0 (sym stands.0) refl

            map_six : NoneBelow MapHere 7
            unfolding MapSlip
            map_six = none_next MapHere 6 (map_five stands.1.forwards) stands.1.within

            map_frame : (frame_asked frame ((rounded start end).end.0 - (rounded start end).start.0)
                ≡ Err (Frame (record { 0 = frame })))
                × BadFrame frame (rounded start end)
                → MapGoal
            unfolding MapSlip
            map_frame x =
                map-refused (Frame (record { 0 = frame })) (sym x.0 ∙ framed) (record { given = (refl, x.1); lower = map_six })

            module _
                (well : (frame_asked frame ((rounded start end).end.0 - (rounded start end).start.0) ≡ granted)
                × (¬ (BadFrame frame (rounded start end)))) where
              map_asked_lem : map_sound h m s ≡ map_call h start end frame flags constraints s
              map_asked_lem = call-asked h start end frame flags constraints s fits framed well.0

              map_seven : NoneBelow MapHere 8
              unfolding MapSlip
              map_seven = none_next MapHere 7 map_six (λ f g. well.1 g.1)

              map_unsound : soundb h s ≡ false → MapGoal
              unfolding MapSlip
              map_unsound un = inl (
                Unsound,
                sym (answer-same (sound_not h m s un ∙ map_asked_lem)),
                record { given = unsound h s fits un; lower = map_seven },
              )

              module _ (is : soundb h s ≡ true) where
                map_eight : NoneBelow MapHere 9
                unfolding MapSlip
                map_eight = none_next MapHere 8 map_seven (λ g. g (sound h s fits is))

                map_full : free s.ledger < need → MapGoal
                unfolding MapSlip
                map_full short = inl (
                  WantOfRoom need (free s.ledger),
                  sym (answer-same (sound_full h m s is refl refl short ∙ map_asked_lem)),
                  record { given = (refl, refl, short); lower = map_eight },
                )

                map_done : need ≤ free s.ledger → MapGoal
                unfolding put_down MapSlip
                map_done room = inr (
                  (λ q. none_next MapHere 11
                      (none_next MapHere 10 (none_next MapHere 9 map_eight (λ k f g. omega (arith, g.0, g.1, g.2))) (λ w g. g))
                      (λ k g. g) q (number_range q).1),
                  λ r e. let z = answer-same (sound_mapped h m s is refl refl room ∙ map_asked_lem) ∙ e in
                      cc,
                )

  pub map-told : MapGoal
  unfolding MapSlip
  map-told = by_bool (shaped h s)
      (λ fits. ⊎_elim (map_end fits) (λ x. ⊎_elim (map-bit fits x.0 x.1)
      (λ plain. ⊎_elim (map-set fits x.0 x.1 plain)
      (λ from. ⊎_elim (map_backwards fits x.0 x.1 plain from)
      (λ y. ⊎_elim (map_beyond fits x.0 x.1 plain from)
      (λ z. ⊎_elim (map_frame fits x.0 x.1 plain from z)
      (λ w. by_bool (soundb h s)
      (λ is. ⊎_elim (map_done fits x.0 x.1 plain from z w is) (map_full fits x.0 x.1 plain from z w is)
      (le_or need (free s.ledger)))
      (map_unsound fits x.0 x.1 plain from z w)) (frame_told frame (rounded start end))) y)
      (region-told h (rounded start end))) (set_told h flags)) (eq_or (flags / 2 % 2) 1)) (end_told end))
      (λ fails. inl (
        Shape,
        sym (answer-same (call_misshaped h start end frame flags constraints s fails)),
        shape_lowest MapHere
            (misshaped h s fails),
      ))
