-- What modify asks (document 01, "The refusal slip"): refusals 2 to 6 of its arguments, refusals 9 to 11 of what it would do, and a law for
-- each way through the code.
use Rattle.std.specs.Prelude.{Option, Some, None, ◌≡◌, refl, Bool, not, cond, ◌&&◌, ℕ, ◌-◌, ◌/◌, ◌%◌, ◌^◌, ◌≤◌, ◌<◌, eqb, ltb}
use Rattle.std.proofs.Common.{sym, ap, ◌∙◌, true≢false}
use Rattle.std.proofs.Math.Bool.{true, false}
use Rattle.std.specs.Int.Bits.{bit_and}
use borrow.Author.Tests.{eq-eqb, ne_eqb, lt-ltb, le-ltb}
use Rattle.laws.specs.Test.{by_bool}
use Rattle.address.specs.Address.{up-below}
use Rattle.entry.specs.Word.{only}
use Rattle.region.specs.Region.{rounded}
use Rattle.region.specs.declared.MemoryRegion.{MemoryRegion}
use Rattle.pool.specs.Refuse.{first_refused, accepted_next, refused-first, granted}
use Rattle.pool.specs.Sound.{flag_set}
use Rattle.pool.specs.declared.Handle.{Handle}
use Rattle.pool.specs.declared.Refusal.{Refusal}
use Rattle.pool.specs.declared.Refusal.TheVariants.{End, InvalidFlags, FlagSet, WantOfRoom, HouseRule, Short}
use Rattle.region_verify.specs.Verify.{end_fits, verify, refused_never, verified_span, span-length}
use Rattle.modify_entry.specs.declared.Edit.{Edit}
use Rattle.modify_survey.specs.declared.Survey.{Survey}
use Rattle.std.specs.Prelude.{Err}
use Rattle.pool.specs.Refuse.{Outcome}
use Rattle.std.specs.Prelude.{Ok}

-- the edit that a call asks for: "start is rounded down and end up to 4096"
unfoldable pub asked_edit : ℕ → ℕ → ℕ → ℕ → Bool → Edit
asked_edit start end set clear live = record { region = rounded start end; set = set; clear = clear; live = live }

-- with the region that was rounded for it
pub asked_is : (start end set clear : ℕ) (live : Bool) {r : MemoryRegion} → r ≡ rounded start end
    → ◌≡◌ {A = Edit} (record { region = r; set = set; clear = clear; live = live }) (asked_edit start end set clear live)
unfolding asked_edit
asked_is start end set clear live e = ap (λ (x : MemoryRegion). record { region = x; set = set; clear = clear; live = live }) e

-- bits that may be set: from the set m, bit 0 not among them, none that is cleared too
unfoldable pub settable : ℕ → ℕ → ℕ → Bool
settable m set clear = only m set && (not (eqb (set % 2) 1) && eqb (bit_and set clear) 0)

-- 3: bit 1, "set before clear"; 4: "a flag outside the set; modify: bit 0 to set, or a bit both set and cleared", "for a clash, set"
unfoldable pub verify_bits : Handle → ℕ → ℕ → Outcome
verify_bits h set clear =
    cond (eqb (set / 2 % 2) 1) (Err (InvalidFlags set))
    (cond (eqb (clear / 2 % 2) 1) (Err (InvalidFlags clear))
    (cond (settable (flag_set h) set clear) (cond (only (flag_set h) clear) granted (Err (FlagSet clear))) (Err (FlagSet set))))

-- 2: the end; 3, 4: the bits; 5, 6: the region
unfoldable pub verify_edit : Handle → ℕ → Edit → Outcome
verify_edit h end e =
    cond (end_fits end) (first_refused Err (verify_bits h e.set e.clear) (verify h e.region)) (Err (End end))

-- 9: "new tables needed exceed those free at entry"; live, 10: "house rule broken", 11: "list shorter than needed"
abbrev pub unless_broken : Option ℕ → Outcome → Outcome
unless_broken (Some word) next = Err (HouseRule word)
unless_broken None next = next

unfoldable pub verify_survey : ℕ → ℕ → Bool → Survey → Outcome
verify_survey free room live v =
    cond (ltb free v.splits) (Err (WantOfRoom v.splits free))
    (cond live
    (unless_broken v.broken (cond (ltb room v.numbers) (Err (Short v.numbers)) granted))
    granted)

-- ---- laws: one for each way through the code

module _ (m set clear : ℕ) where
  pub set_outside : only m set ≡ false → false ≡ settable m set clear
  unfolding settable
  set_outside e = rw e

  pub set-valid : only m set ≡ true → set % 2 ≡ 1 → false ≡ settable m set clear
  unfolding settable
  set-valid from e = rw (from, eq-eqb (set % 2) 1 e)

  pub set_apart : only m set ≡ true → (set % 2 ≡ 1 → ⊥) → eqb (bit_and set clear) 0 ≡ settable m set clear
  unfolding settable
  set_apart from even = rw (from, ne_eqb (set % 2) 1 even)

  pub settable-says : settable m set clear ≡ true → (only m set ≡ true) × (eqb (set % 2) 1 ≡ false)
  unfolding settable
  settable-says e = go (only m set) (eqb (set % 2) 1) (eqb (bit_and set clear) 0) e
    where
      go : (a b c : Bool) → a && (not b && c) ≡ true → (a ≡ true) × (b ≡ false)
      go true false c e = (refl, refl)
      go true true c e = absurd (true≢false (sym e))
      go false b c e = absurd (true≢false (sym e))

module _ (h : Handle) (set clear : ℕ) where
  pub bits_set_invalid : set / 2 % 2 ≡ 1 → Err (InvalidFlags set) ≡ verify_bits h set clear
  unfolding verify_bits
  bits_set_invalid e = rw (eq-eqb (set / 2 % 2) 1 e)

  module _ (one : set / 2 % 2 ≡ 1 → ⊥) where
    pub bits_clear_invalid : clear / 2 % 2 ≡ 1 → Err (InvalidFlags clear) ≡ verify_bits h set clear
    unfolding verify_bits
    bits_clear_invalid e = rw (ne_eqb (set / 2 % 2) 1 one, eq-eqb (clear / 2 % 2) 1 e)

    module _ (two : clear / 2 % 2 ≡ 1 → ⊥) where
      pub bits_unsettable : settable (flag_set h) set clear ≡ false → Err (FlagSet set) ≡ verify_bits h set clear
      unfolding verify_bits
      bits_unsettable e = rw (ne_eqb (set / 2 % 2) 1 one, ne_eqb (clear / 2 % 2) 1 two, e)

      pub bits-settable : settable (flag_set h) set clear ≡ true
          → cond (only (flag_set h) clear) granted (Err (FlagSet clear)) ≡ verify_bits h set clear
      unfolding verify_bits
      bits-settable e = rw (ne_eqb (set / 2 % 2) 1 one, ne_eqb (clear / 2 % 2) 1 two, e)

      pub bits_set_outside : only (flag_set h) set ≡ false → Err (FlagSet set) ≡ verify_bits h set clear
      bits_set_outside e = bits_unsettable (sym (set_outside (flag_set h) set clear e))

      module _ (from : only (flag_set h) set ≡ true) where
        pub bits-set-valid : set % 2 ≡ 1 → Err (FlagSet set) ≡ verify_bits h set clear
        bits-set-valid e = bits_unsettable (sym (set-valid (flag_set h) set clear from e))

        module _ (even : set % 2 ≡ 1 → ⊥) where
          pub bits_clash : (bit_and set clear ≡ 0 → ⊥) → Err (FlagSet set) ≡ verify_bits h set clear
          bits_clash n = bits_unsettable (sym (set_apart (flag_set h) set clear from even) ∙ ne_eqb (bit_and set clear) 0 n)

          module _ (apart : bit_and set clear ≡ 0) where
            by_clear : (b : Bool) → only (flag_set h) clear ≡ b → cond b granted (Err (FlagSet clear)) ≡ verify_bits h set clear
            by_clear b e =
                ap (λ (x : Bool). cond x granted (Err (FlagSet clear))) (sym e)
                ∙ bits-settable (sym (set_apart (flag_set h) set clear from even) ∙ eq-eqb (bit_and set clear) 0 apart)

            pub bits_clear_outside : only (flag_set h) clear ≡ false → Err (FlagSet clear) ≡ verify_bits h set clear
            bits_clear_outside e = by_clear false e

            pub bits-accepted : only (flag_set h) clear ≡ true → granted ≡ verify_bits h set clear
            bits-accepted e = by_clear true e

module _ (h : Handle) (end : ℕ) (e : Edit) where
  pub edit_end : end_fits end ≡ false → Err (End end) ≡ verify_edit h end e
  unfolding verify_edit
  edit_end q = rw q

  module _ (ends : end_fits end ≡ true) {x : Outcome} (is : x ≡ verify_bits h e.set e.clear) where
    by_bits : first_refused Err x (verify h e.region) ≡ verify_edit h end e
    unfolding verify_edit
    by_bits = rw (ends, is)

    pub edit_bits : (r : Refusal) → x ≡ Err r → x ≡ verify_edit h end e
    edit_bits r q = q ∙ refused-first Err x _ r q ∙ by_bits

    pub edit_region : x ≡ granted → verify h e.region ≡ verify_edit h end e
    edit_region q = accepted_next Err x _ q ∙ by_bits

module _ (free room : ℕ) (live : Bool) (v : Survey) where
  pub survey_full : free < v.splits → Err (WantOfRoom v.splits free) ≡ verify_survey free room live v
  unfolding verify_survey
  survey_full l = rw (lt-ltb free v.splits l)

  module _ (fits : v.splits ≤ free) where
    pub survey_off : live ≡ false → granted ≡ verify_survey free room live v
    unfolding verify_survey
    survey_off e = rw (le-ltb free v.splits fits, e)

    module _ (on : live ≡ true) where
      pub survey_broken : {word : ℕ} → v.broken ≡ Some word → Err (HouseRule word) ≡ verify_survey free room live v
      unfolding verify_survey
      survey_broken e = rw (le-ltb free v.splits fits, on, e)

      module _ (kept : v.broken ≡ None) where
        pub survey_short : room < v.numbers → Err (Short v.numbers) ≡ verify_survey free room live v
        unfolding verify_survey
        survey_short l = rw (le-ltb free v.splits fits, on, kept, lt-ltb room v.numbers l)

        pub survey_accepted : v.numbers ≤ room → granted ≡ verify_survey free room live v
        unfolding verify_survey
        survey_accepted l = rw (le-ltb free v.splits fits, on, kept, le-ltb room v.numbers l)

-- ---- a region that was verified is no longer than the largest span

pub asked-span : (h : Handle) (start end set clear : ℕ) (live : Bool) → let e = asked_edit start end set clear live in
    verify_edit h end e ≡ granted → e.region.end.0 - e.region.start.0 ≤ 2 ^ 48
unfolding asked_edit rounded
asked-span h start end set clear live ok =
    by_bool (end_fits end) (λ f. bits f (verify_bits h set clear) refl)
    (λ f. absurd (refused_never (edit_end h end (asked_edit start end set clear live) f ∙ ok)))
  where
    bits : end_fits end ≡ true → (x : Outcome) → verify_bits h set clear ≡ x
        → (rounded start end).end.0 - (rounded start end).start.0 ≤ 2 ^ 48
    bits f (Ok tt) q =
        span-length h.range h.level (rounded start end)
        (verified_span h (rounded start end) (edit_region h end (asked_edit start end set clear live) f (sym q) refl ∙ ok))
        (up-below end 4096)
    bits f (Err r) q = absurd (refused_never (edit_bits h end (asked_edit start end set clear live) f (sym q) r refl ∙ ok))
