-- Demand 1: each call is refused by the lowest number on its slip, and by none where nothing is on it. Leans on `Slip`, `Told`, `Decided`.
use Rattle.std.proofs.Math.Path.{◌≡◌, refl, sym}
use Rattle.std.proofs.Common.{ap, ◌∙◌}
use Rattle.std.specs.Prelude.{true, false, List, ◌⊎◌, ◌≢◌, ℕ, ◌*◌, ◌≤◌, ◌<◌, length, Err, Ok}
use Rattle.std.proofs.Math.Logic.{inl, inr, ⊎_elim}
use native.Mathlib.Omega.{arith}
use Rattle.laws.specs.Test.{by_bool, eq_or, le_or}
use Rattle.address.specs.declared.VirtualAddress.{VirtualAddress}
use Rattle.region.specs.Region.{rounded}
use Rattle.pool.specs.State.{St, tables}
use Rattle.pool.specs.Refuse.{shaped, number, Out, granted, Counted, Outcome}
use Rattle.pool.specs.Sound.{soundb}
use Rattle.make.specs.Call.{make_call, make_refused, make_accepted}
use Rattle.image.specs.Call.{Imaged, image_call, image_misshaped, image_no_table, image_short, image_written}
use Rattle.pool.specs.declared.Handle.{Handle}
use Rattle.pool.specs.declared.Refusal.{Refusal}
use Rattle.pool.specs.declared.Refusal.TheVariants.{Shape, End, RegionBackwards, AddressRange, Unsound, Short}
use Rattle.theory_sound.specs.Clauses.{SoundPool}
use Rattle.checker.specs.Call.{check_call, check_misshaped, check_unsound, check_sound}
use Rattle.compact_spec.specs.Call.{compact_call, call_misshaped as compact-misshaped, call_unsound as compact-unsound, call-compacted}
use Rattle.region_verify.specs.Verify.{end_fits, verify}
use Rattle.arm.specs.Arm.{Walked, hole, block, page as one_page, outside, walk}
use Rattle.look_up.specs.Call.{answer, look_up_call, look_misshaped, look_beyond, look_walks}
use Rattle.list_lines.specs.Lines.{lines_of}
use Rattle.list.specs.Call.{Listing, verify_ends, list_lines, list_call, ends_fit, list_short, list_written, Listed}
use Rattle.list.specs.Call.{list_misshaped, list_region, list_unsound, list_sound_lem, ends_past}
use Rattle.theory_demands.specs.Slip.{Misshaped, BadEnd, Backwards, BeyondRange, BeyondSpan, MakeSlip}
use Rattle.theory_demands.specs.Slip.{CheckSlip, LookUpSlip, ImageSlip, ListSlip}
use Rattle.theory_demands.specs.Told.{NoneBelow, Told, none_below, number_range, shape_lowest, none_first, none_next}
use Rattle.theory_demands.specs.Decided.{misshaped, not_misshaped, unsound, sound, RegionStands, region-told, accepted-not, end_told}
use Rattle.theory_demands.specs.Decided.{span-told}

-- ---- make: 1

pub make_told : (h : Handle) (s : St) → Told (MakeSlip h s) Err (make_call h s).answer
unfolding MakeSlip
make_told h s = by_bool (shaped h s)
    (λ fits. inr (none (not_misshaped h s fits), λ r e. accepted-not r (ap (λ (x : Out Outcome). x.answer) (make_accepted h s fits) ∙ e)))
    (λ fails. inl
    (Shape, sym (ap (λ (x : Out Outcome). x.answer) (make_refused h s fails)), shape_lowest (MakeSlip h s) (misshaped h s fails)))
  where
    none : ¬ (Misshaped h s) → (q : Refusal) → ¬ (MakeSlip h s q)
    none one q =
        none_below (MakeSlip h s) 12 (λ l. one) (λ l e g. g) (λ l f g. g) (λ l f g. g) (λ l r g. g) (λ l a g. g) (λ l f g. g) (λ l g. g)
        (λ l k f g. g) (λ l w g. g)
        (λ l k g. g) q (number_range q).1

-- ---- check: 1, 8

check_below : (h : Handle) (s : St) (n : ℕ) → ¬ (Misshaped h s) → (8 < n → ¬ (¬ (SoundPool h s))) → (q : Refusal) → number q < n
    → ¬ (CheckSlip h s q)
unfolding CheckSlip
check_below h s n one eight =
    none_below (CheckSlip h s) n (λ l. one) (λ l e g. g) (λ l f g. g) (λ l f g. g) (λ l r g. g) (λ l a g. g) (λ l f g. g) eight
    (λ l k f g. g)
    (λ l w g. g) (λ l k g. g)

pub check_told : (h : Handle) (s : St) → Told (CheckSlip h s) Err (check_call h s)
unfolding CheckSlip
check_told h s = by_bool (shaped h s)
    (λ fits. by_bool (soundb h s)
    (λ is. inr (
      (λ q. check_below h s 12 (not_misshaped h s fits) (λ l g. g (sound h s fits is)) q (number_range q).1),
      λ r e. accepted-not r
          (check_sound h s fits is ∙ e),
    ))
    (λ un. inl (
      Unsound,
      sym
          (check_unsound h s fits un),
      record { given = unsound h s fits un; lower = check_below h s 8 (not_misshaped h s fits) (λ l. absurd (omega arith)) },
    )))
    (λ fails. inl (Shape, sym (check_misshaped h s fails), shape_lowest (CheckSlip h s) (misshaped h s fails)))

-- ---- compact: 1, 8

pub answer-same : {x y : Out Counted} → x ≡ y → x.answer ≡ y.answer
answer-same e = ap (λ (x : Out Counted). x.answer) e

pub compact_told : (h : Handle) (s : St) → Told (CheckSlip h s) Err (compact_call h s).answer
unfolding CheckSlip
compact_told h s = by_bool (shaped h s)
    (λ fits. by_bool (soundb h s)
    (λ is. inr (
      (λ q. check_below h s 12 (not_misshaped h s fits) (λ l g. g (sound h s fits is)) q (number_range q).1),
      λ r e. let z = answer-same (call-compacted h s fits is refl refl) ∙ e in cc,
    ))
    (λ un. inl (
      Unsound,
      sym (answer-same (compact-unsound h s fits un)),
      record {
        given = unsound h s fits un;
        lower = check_below h s 8 (not_misshaped h s fits) (λ l. absurd (omega arith));
      },
    )))
    (λ fails. inl (Shape, sym (answer-same (compact-misshaped h s fails)), shape_lowest (CheckSlip h s) (misshaped h s fails)))

-- ---- page image: 1, 11

pub image_told : (h : Handle) (s : St) (k : ℕ) (page : List ℕ) → Told (ImageSlip h s k page) Err (image_call h s k page).answer
unfolding ImageSlip
image_told h s k page = by_bool (shaped h s)
    (λ fits. ⊎_elim
    (λ past. inl (Shape, sym (told (image_no_table h s k page fits past)), shape_lowest (ImageSlip h s k page) (inr past)))
    (λ inside. ⊎_elim
    (λ whole. inr (
      (λ q. below 12 (one fits inside) (λ l n g. g.1 whole) q (number_range q).1),
      λ r e. accepted-not r
          (told (image_written h s k page fits inside whole) ∙ e),
    ))
    (λ n. inl (
      Short 4096,
      sym
          (told (image_short h s k page fits inside n)),
      record { given = (refl, n); lower = below 11 (one fits inside) (λ l. absurd (omega arith)) },
    ))
    (eq_or (length page) 4096))
    (le_or (tables s) k))
    (λ fails. inl (Shape, sym (told (image_misshaped h s k page fails)), shape_lowest (ImageSlip h s k page) (inl (misshaped h s fails))))
  where
    told : {x y : Imaged} → x ≡ y → x.answer ≡ y.answer
    told e = ap (λ (x : Imaged). x.answer) e

    one : shaped h s ≡ true → k < tables s → ¬ (Misshaped h s ⊎ (tables s ≤ k))
    one fits inside x = ⊎_elim (not_misshaped h s fits) (λ l. omega arith) x

    below : (n : ℕ) → ¬ (Misshaped h s ⊎ (tables s ≤ k)) → (11 < n → (m : ℕ) → ¬ ((m ≡ 4096) × (length page ≢ 4096))) → (q : Refusal)
        → number q < n → ¬ (ImageSlip h s k page q)
    below n first eleven =
        none_below (ImageSlip h s k page) n (λ l. first) (λ l e g. g) (λ l f g. g) (λ l f g. g) (λ l r g. g) (λ l a g. g) (λ l f g. g)
        (λ l g. g) (λ l k f g. g)
        (λ l w g. g) eleven

-- ---- look up: 1, 6, 8

-- a walk is refused exactly where it leads away
answer-told : (w : Walked)
    → ((w ≡ outside) × (answer w ≡ Err Unsound)) ⊎ ((w ≢ outside) × ((r : Refusal) → answer w ≢ Err r))
unfolding answer
answer-told (hole level flags) =
    inr ((λ e. cc), λ r e. cc)
answer-told (block level flags frame) =
    inr ((λ e. cc), λ r e. cc)
answer-told (one_page level flags frame) =
    inr ((λ e. cc), λ r e. cc)
answer-told outside = inl (refl, refl)

pub look_up_told : (h : Handle) (s : St) (va : ℕ) → Told (LookUpSlip h s va) Err (look_up_call h s va)
unfolding LookUpSlip
look_up_told h s va = by_bool (shaped h s)
    (λ fits. ⊎_elim
    (λ x. inl (
      AddressRange (record { 0 = va }),
      sym (look_beyond h s va fits x.0),
      record {
        given = (refl, x.1);
        lower = below 6 (not_misshaped h s fits) (λ l. absurd (omega arith)) (λ l. absurd (omega arith));
      },
    ))
    (λ x. ⊎_elim
    (λ w. inl (
      Unsound,
      sym (look_walks h s va fits x.0) ∙ w.1,
      record {
        given = w.0;
        lower = below 8 (not_misshaped h s fits) (λ l a g. x.1 g.1) (λ l. absurd (omega arith));
      },
    ))
    (λ w. inr (none fits x.1 w.0, λ r e. w.1 r (look_walks h s va fits x.0 ∙ e)))
    (answer-told (walk h.base.0 (tables s) s.words va h.level)))
    (span-told h.range h.level va))
    (λ fails. inl (Shape, sym (look_misshaped h s va fails), shape_lowest (LookUpSlip h s va) (misshaped h s fails)))
  where
    below : (n : ℕ) → ¬ (Misshaped h s) → (6 < n → (a : VirtualAddress) → ¬ ((a.0 ≡ va) × BeyondSpan h.range h.level va))
        → (8 < n → ¬ (walk h.base.0 (tables s) s.words va h.level ≡ outside)) → (q : Refusal) → number q < n
        → ¬ (LookUpSlip h s va q)
    below n one six eight =
        none_below (LookUpSlip h s va) n (λ l. one) (λ l e g. g) (λ l f g. g) (λ l f g. g) (λ l r g. g) six (λ l f g. g) eight
        (λ l k f g. g) (λ l w g. g)
        (λ l k g. g)

    none : shaped h s ≡ true → ¬ (BeyondSpan h.range h.level va) → ¬ (walk h.base.0 (tables s) s.words va h.level ≡ outside)
        → (q : Refusal)
        → ¬ (LookUpSlip h s va q)
    none fits within stays q = below 12 (not_misshaped h s fits) (λ l a g. within g.1) (λ l. stays) q (number_range q).1

-- ---- list: 1, 2, 5, 6, 8, 11

module _ (h : Handle) (s : St) (start end : ℕ) (list : List ℕ) where
  abbrev lines : ℕ
  lines = 4 * length (lines_of h s (rounded start end))

  abbrev ListHere : Refusal → Type 0
  ListHere = ListSlip h s start end list

  list_answer : {x y : Listing} → x ≡ y → x.answer ≡ y.answer
  list_answer e = ap (λ (x : Listing). x.answer) e

  abbrev ListGoal : Type 0
  ListGoal = Told ListHere Err (list_call h s start end list).answer

  module _ (fits : shaped h s ≡ true) where
    list_one : NoneBelow ListHere 2
    unfolding ListSlip
    list_one = none_next ListHere 1 (none_first ListHere) (not_misshaped h s fits)

    list_end : (end_fits end ≡ false) × BadEnd end → ListGoal
    unfolding ListSlip
    list_end x = inl (
      End end,
      sym (list_answer (list_region h s start end list fits (ends_past h start end x.0) (End end) refl)),
      record { given = (refl, x.1); lower = list_one },
    )

    module _ (ends : end_fits end ≡ true) (good : ¬ (BadEnd end)) where
      list_four : NoneBelow ListHere 5
      unfolding ListSlip
      list_four = none_next ListHere 4
          (none_next ListHere 3 (none_next ListHere 2 list_one (λ e g. good g.1)) (λ f g. g)) (λ f g. g)

      list_five : ¬ (Backwards (rounded start end)) → NoneBelow ListHere 6
      unfolding ListSlip
      list_five forwards = none_next ListHere 5 list_four (λ r g. forwards (rw (← g.0) g.1))

      list_backwards : (verify h (rounded start end) ≡ Err (RegionBackwards (rounded start end))) × Backwards (rounded start end)
          → ListGoal
      unfolding ListSlip
      list_backwards x = inl (
        RegionBackwards (rounded start end),
        sym
            (list_answer
            (list_region h s start end list fits (ends_fit h start end ends refl) (RegionBackwards (rounded start end)) x.0)),
        record { given = (refl, x.1); lower = list_four },
      )

      list_beyond : ((a : VirtualAddress) × (verify h (rounded start end) ≡ Err (AddressRange a)) × (¬ (Backwards (rounded start end)))
          × BeyondRange h.range h.level (rounded start end) a) → ListGoal
      unfolding ListSlip
      list_beyond x = inl (
        AddressRange x.0,
        sym (list_answer (list_region h s start end list fits (ends_fit h start end ends refl) (AddressRange x.0) x.1)),
        record { given = x.3; lower = list_five x.2 },
      )

      module _ (stands : (verify h (rounded start end) ≡ granted) × RegionStands h (rounded start end)) where
        region_ok : granted ≡ verify_ends h start end
        region_ok = sym stands.0 ∙ ends_fit h start end ends refl

        list_seven : NoneBelow ListHere 8
        unfolding ListSlip
        list_seven =
            none_next ListHere 7 (none_next ListHere 6 (list_five stands.1.forwards) stands.1.within) (λ f g. g)

        list_unsafe : soundb h s ≡ false → ListGoal
        unfolding ListSlip
        list_unsafe un = inl (
          Unsound,
          sym (list_answer (list_unsound h s start end list fits region_ok refl un)),
          record { given = unsound h s fits un; lower = list_seven },
        )

        module _ (is : soundb h s ≡ true) where
          list_is : list_lines (lines_of h s (rounded start end)) list ≡ list_call h s start end list
          unfolding lines_of
          list_is = list_sound_lem h s start end list fits region_ok refl is refl

          list_ten : NoneBelow ListHere 11
          unfolding ListSlip
          list_ten = none_next ListHere 10
              (none_next ListHere 9 (none_next ListHere 8 list_seven (λ g. g (sound h s fits is))) (λ k f g. g)) (λ w g. g)

          list_narrow : length list < lines → ListGoal
          unfolding ListSlip
          list_narrow short = inl (
            Short lines,
            sym (list_answer (list_short (lines_of h s (rounded start end)) list short ∙ list_is)),
            record { given = (refl, short); lower = list_ten },
          )

          list_done : lines ≤ length list → ListGoal
          unfolding ListSlip
          list_done room = inr (
            (λ q. none_next ListHere 11 list_ten (λ k g. omega (arith, g.0, g.1)) q (number_range q).1),
            λ r e. let z : ◌≡◌ {A = Listed} (Ok (length (lines_of h s (rounded start end)))) (Err r) =
                list_answer (list_written (lines_of h s (rounded start end)) list room ∙ list_is) ∙ e in let o : ◌≡◌ {A = ℕ} 0 1 =
                cc in omega arith,
          )

  pub list_told : ListGoal
  unfolding ListSlip
  list_told = by_bool (shaped h s)
      (λ fits. ⊎_elim (list_end fits) (λ x. ⊎_elim (list_backwards fits x.0 x.1)
      (λ y. ⊎_elim (list_beyond fits x.0 x.1)
      (λ z. by_bool (soundb h s)
      (λ is. ⊎_elim (list_done fits x.0 x.1 z is) (list_narrow fits x.0 x.1 z is) (le_or lines (length list)))
      (list_unsafe fits x.0 x.1 z)) y)
      (region-told h (rounded start end))) (end_told end))
      (λ fails. inl (
        Shape,
        sym (list_answer (list_misshaped h s start end list fails)),
        shape_lowest ListHere
            (misshaped h s fails),
      ))
