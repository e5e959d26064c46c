-- Theorems about the definitions of specs/Call.
use Rattle.std.specs.Prelude.{◌≡◌, Bool, List, ◌++◌, ◌⊎◌, ℕ, suc, ◌/◌, ◌%◌, ◌^◌, ◌≤◌, ◌<◌, length, drop, Err, None, Some}
use Rattle.std.proofs.Math.Path.{refl, sym}
use Rattle.std.proofs.Common.{ap, subst, ◌∙◌, true≢false, inl, inr, arith, lit≤}
use Rattle.std.proofs.Math.Bool.{true, false}
use Rattle.laws.specs.Test.{is_true, le_or}
use Rattle.region.specs.Region.{rounded}
use Rattle.pool.specs.State.{St}
use Rattle.pool.specs.Number.{used, free}
use Rattle.pool.specs.Refuse.{number, shaped, says-shaped, granted, Outcome}
use Rattle.pool.specs.Sound.{soundb}
use Rattle.pool.specs.declared.Handle.{Handle}
use Rattle.pool.specs.declared.Refusal.{Refusal}
use Rattle.pool.specs.declared.Refusal.TheVariants.{WantOfRoom, HouseRule, Short}
use Rattle.modify_entry.specs.declared.Edit.{Edit}
use Rattle.modify_entry.specs.Own.{Numbered, numbered}
use Rattle.modify_range.specs.Range.{Work, work}
use Rattle.modify_verify.specs.Verify.{asked_edit, verify_survey, survey_full, survey_off, survey_broken, survey_short, survey_accepted}
use Rattle.modify.specs.Call.{ModifyAnswer, Modifying, modifying, refused, answer_of, edit_tables, modify_sound, sound_not, sound_refused}
use Rattle.modify.specs.Call.{sound_edited}
use Rattle.modify.specs.Call.{call_misshaped, call-refused, call-asked, nothing}
use Rattle.theory_forest.specs.Tree.{Tree}
use Rattle.theory_sound.specs.Codec.{shaped_placed, root_tree}
use Rattle.theory_sound.proofs.Decide.{sound_decide}
use Rattle.theory_sound.specs.Step.{Ready, Leaves}
use Rattle.theory_sound.proofs.Step.{root_ready, root_leaves}
use Rattle.theory_sound.specs.Slot.{slot_shows}
use Rattle.theory_tree.specs.Modify.{GivenModify, modify_tree, modify_made}
use Rattle.theory_tree.specs.Walk.{seen}
use Rattle.theory_tree.proofs.DocumentModify.{document_modifies, document_modify_needs}
use Rattle.theory_map.specs.Terms.{depth_of, root_in}
use Rattle.theory_map.specs.Leaf.{slot_fine}
use Rattle.theory_map.specs.Moves.{root_node}
use Rattle.theory_map.specs.Pieces.{Area}
use Rattle.theory_map.specs.Place.{Paged, paged}
use Rattle.theory_map.specs.Asked.{left_by}
use Rattle.theory_modify.specs.Terms.{ModifyArguments, modify_answer, modify_accepted, Modifies, edit_asked, ModifyPassed, surveyed}
use Rattle.theory_modify.specs.Terms.{modify_pages_of, tree_after_modify, made_by_modify, numbers_of, InModifyRegion}
use Rattle.theory_modify.specs.Numbers.{table_numbers, occurs, first_page}
use Rattle.theory_modify.specs.Word.{Bits}
use Rattle.theory_modify.specs.Pass.{area_of, TableEdited}
use Rattle.theory_modify.specs.Range.{edit_table, edit_takes}
use Rattle.theory_modify.proofs.Range.{range_edits}
use Rattle.theory_modify.specs.Found.{by_broken}
use Rattle.theory_modify.specs.Splits.{survey_splits}
use Rattle.theory_modify.specs.Notes.{put_all, put_off, put_live}
use Rattle.theory_modify.proofs.Counted.{survey_numbers}
use Rattle.theory_modify.proofs.Once.{numbers_once}
use Rattle.theory_modify.specs.Listed.{changes}
use Rattle.theory_modify.proofs.Listed.{region_tells}
use Rattle.theory_modify.specs.Asked.{asked-bits, asked_area, asked_forwards, asked_early}
use Rattle.theory_modify.specs.Call.{work_after, Clear, Judged, is_full, is_broken, is_short, is_clear}

module _ {h : Handle} {c : ModifyArguments} {s : St} (passed : ModifyPassed h c s) where
  abbrev e : Edit
  e = edit_asked c

  pub bits : Bits h e
  bits = asked-bits h c.start c.end c.set c.clear c.live passed.asks

  pub area : Area (depth_of h) (root_in h) (area_of e 0)
  area = asked_area h c.start c.end c.set c.clear c.live passed.asks passed.shape.level

  -- the call's region, in pages of the root's tree
  pub region_paged : Paged h (InModifyRegion c) (modify_pages_of c).from (modify_pages_of c).upto
  unfolding asked_edit
  region_paged = paged h (rounded c.start c.end) area.inside

  pub ready : Ready h s (depth_of h) 0
  ready = root_ready passed.shape passed.pool

  pub given : GivenModify (modify_pages_of c)
  given = record { set = bits.set.plain; clear = bits.clear.plain }

  takes-made : edit_takes e (depth_of h) 0 (root_tree h s) ≡ made_by_modify h c s
  takes-made =
      subst (λ (t : Tree). edit_takes e (depth_of h) 0 t ≡ modify_made (depth_of h) (root_in h) (modify_pages_of c) t) (sym (root_node h s))
      (document_modify_needs e.set e.clear (depth_of h) (root_in h) e.region.start.0 e.region.end.0 _ (omega arith)
      area.inside)

  done_tree : edit_table e (depth_of h) 0 (root_tree h s) ≡ tree_after_modify h c s
  done_tree =
      subst (λ (t : Tree). edit_table e (depth_of h) 0 t ≡ modify_tree (depth_of h) (root_in h) (modify_pages_of c) t) (sym (root_node h s))
      (document_modifies e.set e.clear (depth_of h) (root_in h) e.region.start.0 e.region.end.0 _ (omega arith)
      area.inside)

  -- REFUSAL 9'S COUNT IS THE TREE'S
  pub splits-made : (surveyed h c s).splits ≡ made_by_modify h c s
  splits-made =
      let q = survey_splits (shaped_placed passed.shape) (depth_of h) 0 0 e s nothing ready in
      omega (arith, takes-made)

  -- REFUSAL 11'S COUNT IS THE TREE'S, where the house rule is kept
  pub numbers-made : (surveyed h c s).broken ≡ None → (surveyed h c s).numbers ≡ length (numbers_of h c s)
  numbers-made kept =
      let a = survey_numbers (shaped_placed passed.shape) (depth_of h) (omega arith) (root_in h) 0 0 e s nothing area ready kept in
      omega (arith, a.numbers)

  -- each once
  pub numbers-one : (x : ℕ) → occurs x (numbers_of h c s) ≤ 1
  numbers-one x =
      numbers_once e.set e.clear x (depth_of h) (root_in h) (area_of e 0) (root_tree h s) (omega arith) area
      (asked_forwards h c.start c.end c.set c.clear c.live passed.asks)

  -- exactly the entries that change
  pub numbers_tell : (y : ℕ) → e.region.start.0 / 4096 ≤ y → y < e.region.end.0 / 4096
      → occurs (first_page (suc (depth_of h)) (tree_after_modify h c s) y % 2 ^ 44) (numbers_of h c s)
      ≡ changes e.set e.clear (seen (suc (depth_of h)) (root_tree h s) y)
  numbers_tell y above under =
      let placed = shaped_placed passed.shape in
      ap (λ (t : Tree). occurs (first_page (suc (depth_of h)) t y % 2 ^ 44) (numbers_of h c s)) (sym done_tree)
      ∙ subst
      (λ (t : Tree). occurs (first_page (suc (depth_of h)) (edit_table e (depth_of h) 0 t) y % 2 ^ 44)
      (table_numbers e.set e.clear (depth_of h) e.region t)
      ≡ changes e.set e.clear (seen (suc (depth_of h)) t y)) (sym (root_node h s))
      (region_tells e.set e.clear bits.set.plain bits.clear.plain y (depth_of h) (root_in h) (area_of e 0)
      (λ i. slot_shows h s (depth_of h) 0 i) (omega arith) area
      (λ j inside. slot_fine placed ready j inside)
      (asked_forwards h c.start c.end c.set c.clear c.live passed.asks) above under)

  -- ---- with room

  module _ (room : made_by_modify h c s ≤ free s.ledger) (list : List ℕ) where
    root_edited : TableEdited (shaped_placed passed.shape) c.live (work s list 0) (work_after h c s list) (depth_of h) 0
        (edit_table e (depth_of h) 0 (root_tree h s)) (edit_takes e (depth_of h) 0 (root_tree h s)) (numbers_of h c s)
    unfolding asked_edit
    root_edited =
        range_edits (shaped_placed passed.shape) (depth_of h) (omega arith) (root_in h) 0 0 e (work s list 0) bits area ready
        (omega (arith, takes-made))

    pub after_list : numbered (work_after h c s list).count (work_after h c s list).list
        ≡ put_all c.live (numbers_of h c s) (numbered 0 list)
    after_list = root_edited.puts

    pub after_call : Leaves h s (work_after h c s list).state (tree_after_modify h c s)
    after_call =
        subst (Leaves h s (work_after h c s list).state) done_tree (root_leaves passed.shape passed.pool root_edited.works.worked)

-- what refusals 9 to 11 say
abbrev verdict : Handle → ModifyArguments → St → List ℕ → Outcome
verdict h c s list = verify_survey (free s.ledger) (length list) c.live (surveyed h c s)

-- no refusal is an acceptance
not-accepted : {r : Refusal} (live : Bool) (n k : ℕ) → Err r ≡ modify_accepted live n k → ⊥
unfolding modify_accepted
not-accepted live n k q = cc

answer_of_lem : {r : Refusal} {s s' : St} {list list' : List ℕ} {y : ModifyAnswer} → refused r s list ≡ modifying y s' list'
    → Err r ≡ y
answer_of_lem e = ap (λ (x : Modifying). x.answer) e

done_is : (h : Handle) (c : ModifyArguments) (s : St) (list : List ℕ) → let w = work_after h c s list in
    edit_tables h (edit_asked c) s list ≡ modifying (modify_accepted c.live (used w.state.ledger) w.count) w.state w.list
unfolding edit_tables answer_of modify_accepted asked_edit
done_is h c s list = refl

module _ {h : Handle} {c : ModifyArguments} {s : St} (passed : ModifyPassed h c s) (list : List ℕ) where
  sound_is : soundb h s ≡ true
  sound_is = is_true (soundb h s) (sound_decide passed.shape passed.pool)

  asked_is : modify_sound h (edit_asked c) s list ≡ modify_answer h c s list
  asked_is =
      call-asked h c.start c.end c.set c.clear c.live s list (is_true (shaped h s) (says-shaped h s passed.shape)) refl
      passed.asks

  pub call_stopped : (r : Refusal) → verdict h c s list ≡ Err r → modify_answer h c s list ≡ refused r s list
  unfolding asked_edit
  call_stopped r q = sym (sound_refused h (edit_asked c) s list sound_is refl refl refl r q ∙ asked_is)

  pub call_done : verdict h c s list ≡ granted → let w = work_after h c s list in
      modify_answer h c s list ≡ modifying (modify_accepted c.live (used w.state.ledger) w.count) w.state w.list
  unfolding asked_edit
  call_done q = sym (sound_edited h (edit_asked c) s list sound_is refl refl refl q ∙ asked_is) ∙ done_is h c s list

  -- refusal 9
  pub call_full : free s.ledger < made_by_modify h c s
      → modify_answer h c s list ≡ refused (WantOfRoom (made_by_modify h c s) (free s.ledger)) s list
  call_full full =
      let m = splits-made passed in
      call_stopped (WantOfRoom (surveyed h c s).splits (free s.ledger))
      (sym (survey_full (free s.ledger) (length list) c.live (surveyed h c s) (omega arith)))
      ∙ ap (λ (n : ℕ). refused (WantOfRoom n (free s.ledger)) s list) m

  -- accepted
  pub call-accepted : Clear h c s list → let w = work_after h c s list in
      modify_answer h c s list ≡ modifying (modify_accepted c.live (used w.state.ledger) w.count) w.state w.list
  call-accepted fits = call_done (go c.live refl)
    where
      room : (surveyed h c s).splits ≤ free s.ledger
      room = omega (arith, fits.room, splits-made passed)

      go : (live : Bool) → c.live ≡ live → verdict h c s list ≡ granted
      go true q =
          sym (survey_accepted (free s.ledger) (length list) c.live (surveyed h c s) room q (fits.kept q)
          (omega (arith, fits.enough q, numbers-made passed (fits.kept q))))
      go false q = sym (survey_off (free s.ledger) (length list) c.live (surveyed h c s) room q)

  -- refusal 10
  pub call_broken : made_by_modify h c s ≤ free s.ledger → c.live ≡ true → (w : ℕ) → (surveyed h c s).broken ≡ Some w
      → modify_answer h c s list ≡ refused (HouseRule w) s list
  call_broken room on word broken =
      let m = splits-made passed in
      call_stopped (HouseRule word)
      (sym (survey_broken (free s.ledger) (length list) c.live (surveyed h c s) (omega arith) on broken))

  -- refusal 11
  pub call_short : made_by_modify h c s ≤ free s.ledger → c.live ≡ true → (surveyed h c s).broken ≡ None
      → length list < length (numbers_of h c s)
      → modify_answer h c s list ≡ refused (Short (length (numbers_of h c s))) s list
  call_short room on kept short =
      let m = splits-made passed in
      let n = numbers-made passed kept in
      call_stopped (Short (surveyed h c s).numbers)
      (sym (survey_short (free s.ledger) (length list) c.live (surveyed h c s) (omega arith) on kept (omega arith)))
      ∙ ap (λ (k : ℕ). refused (Short k) s list) n

  -- one of these it is
  judged : Judged h c s list
  judged = go (le_or (made_by_modify h c s) (free s.ledger))
    where
      long : (surveyed h c s).broken ≡ None → (length (numbers_of h c s) ≤ length list) ⊎ (length list < length (numbers_of h c s))
          → made_by_modify h c s ≤ free s.ledger
          → c.live ≡ true → Judged h c s list
      long kept (inl enough) room on = is_clear (record { room = room; kept = λ q. kept; enough = λ q. enough })
      long kept (inr short) room on = is_short room on kept short

      live : made_by_modify h c s ≤ free s.ledger → (b : Bool) → c.live ≡ b → Judged h c s list
      live room true on = by_broken (surveyed h c s).broken (λ word broken. is_broken room on word broken)
          (λ kept. long kept (le_or (length (numbers_of h c s)) (length list)) room on)
      live room false off =
          is_clear
          (record { room = room; kept = λ on. absurd (true≢false (sym on ∙ off)); enough = λ on. absurd (true≢false (sym on ∙ off)) })

      go : (made_by_modify h c s ≤ free s.ledger) ⊎ (free s.ledger < made_by_modify h c s) → Judged h c s list
      go (inl room) = live room c.live refl
      go (inr full) = is_full full

-- what is answered otherwise than by refusals 1 to 8 was left by them
passed_by : (h : Handle) (c : ModifyArguments) (s : St) (list : List ℕ) {x : Modifying} → modify_answer h c s list ≡ x
    → ((r : Refusal) → number r < 9 → refused r s list ≡ x → ⊥) → ModifyPassed h c s
passed_by h c s list {x} is later =
    let left = left_by
    (record {
      misshaped = λ e. call_misshaped h c.start c.end c.set c.clear c.live s list e ∙ is;
      stopped = λ e r q. call-refused h c.start c.end c.set c.clear c.live s list e refl r q ∙ is;
      unsound = λ e ok unsound. sound_not h (edit_asked c) s list unsound
          ∙ call-asked h c.start c.end c.set c.clear c.live s list e refl ok
          ∙ is;
      early = asked_early h c.end (edit_asked c);
    })
    later in
    record { shape = left.0; asks = left.1; pool = left.2 }

-- ---- refused 9, 10, 11

module _ (h : Handle) (c : ModifyArguments) (s : St) (list : List ℕ) {y : Refusal} {s' : St} {list' : List ℕ}
    (is : modify_answer h c s list ≡ modifying (Err y) s' list') where
  refused_passed : 9 ≤ number y → ModifyPassed h c s
  refused_passed late = passed_by h c s list is (λ r early q.
      let same : r ≡ y = let p = answer_of_lem q in cc in
      let nine : number r ≡ number y = ap number same in
      omega arith)

  -- the refusal is the one that is due
  refused_is : {r : Refusal} → modify_answer h c s list ≡ refused r s list → y ≡ r
  refused_is {r} q = let p = answer_of_lem (sym q ∙ is) in let same : r ≡ y = cc in sym same

  refused-not : ModifyPassed h c s → Clear h c s list → ⊥
  refused-not passed fits =
      not-accepted c.live (used (work_after h c s list).state.ledger) (work_after h c s list).count
      (ap (λ (x : Modifying). x.answer) (sym is ∙ call-accepted passed list fits))

module _ (h : Handle) (c : ModifyArguments) (s : St) (list : List ℕ) {s' : St} {list' : List ℕ} where
  pub full_back : {a b : ℕ} → modify_answer h c s list ≡ modifying (Err (WantOfRoom a b)) s' list'
      → ModifyPassed h c s × (free s.ledger < made_by_modify h c s)
  full_back {a} {b} is = (passed, go (judged passed list))
    where
      passed : ModifyPassed h c s
      passed = refused_passed h c s list is (lit≤ tt)

      go : Judged h c s list → free s.ledger < made_by_modify h c s
      go (is_full full) = full
      go (is_broken room on word broken) =
          absurd (let e = ap number (refused_is h c s list is (call_broken passed list room on word broken)) in omega arith)
      go (is_short room on kept short) =
          absurd (let e = ap number (refused_is h c s list is (call_short passed list room on kept short)) in omega arith)
      go (is_clear fits) = absurd (refused-not h c s list is passed fits)

  pub broken_back : {w : ℕ} → modify_answer h c s list ≡ modifying (Err (HouseRule w)) s' list'
      → ModifyPassed h c s × (made_by_modify h c s ≤ free s.ledger) × (c.live ≡ true) × ((surveyed h c s).broken ≡ Some w)
  broken_back {w} is = go (judged passed list)
    where
      passed : ModifyPassed h c s
      passed = refused_passed h c s list is (lit≤ tt)

      go : Judged h c s list
          → ModifyPassed h c s × (made_by_modify h c s ≤ free s.ledger) × (c.live ≡ true) × ((surveyed h c s).broken ≡ Some w)
      go (is_full full) = absurd (let e = ap number (refused_is h c s list is (call_full passed list full)) in omega arith)
      go (is_broken room on word broken) =
          let same = refused_is h c s list is (call_broken passed list room on word broken) in
          let found : word ≡ w = cc in
          (passed, room, on, broken ∙ ap Some found)
      go (is_short room on kept short) =
          absurd (let e = ap number (refused_is h c s list is (call_short passed list room on kept short)) in omega arith)
      go (is_clear fits) = absurd (refused-not h c s list is passed fits)

  pub short_back : {n : ℕ} → modify_answer h c s list ≡ modifying (Err (Short n)) s' list'
      → ModifyPassed h c s × (made_by_modify h c s ≤ free s.ledger) × (c.live ≡ true) × ((surveyed h c s).broken ≡ None)
      × (length list < length (numbers_of h c s))
  short_back {n} is = go (judged passed list)
    where
      passed : ModifyPassed h c s
      passed = refused_passed h c s list is (lit≤ tt)

      go : Judged h c s list
          → ModifyPassed h c s × (made_by_modify h c s ≤ free s.ledger) × (c.live ≡ true) × ((surveyed h c s).broken ≡ None)
          × (length list < length (numbers_of h c s))
      go (is_full full) = absurd (let e = ap number (refused_is h c s list is (call_full passed list full)) in omega arith)
      go (is_broken room on word broken) =
          absurd (let e = ap number (refused_is h c s list is (call_broken passed list room on word broken)) in omega arith)
      go (is_short room on kept short) = (passed, room, on, kept, short)
      go (is_clear fits) = absurd (refused-not h c s list is passed fits)

-- ---- accepted

module _ {h : Handle} {c : ModifyArguments} {s s' : St} {list list' : List ℕ} {n k : ℕ} (modifies : Modifies h c s list n k s' list') where
  pub call_passed : ModifyPassed h c s
  call_passed = passed_by h c s list modifies.answers (λ r early e. not-accepted c.live n k (answer_of_lem e))

  pub call-clear : Clear h c s list
  call-clear = go (judged call_passed list)
    where
      never : {r : Refusal} → modify_answer h c s list ≡ refused r s list → ⊥
      never q = not-accepted c.live n k (answer_of_lem (sym q ∙ modifies.answers))

      go : Judged h c s list → Clear h c s list
      go (is_full full) = absurd (never (call_full call_passed list full))
      go (is_broken room on word broken) = absurd (never (call_broken call_passed list room on word broken))
      go (is_short room on kept short) = absurd (never (call_short call_passed list room on kept short))
      go (is_clear fits) = fits

  abbrev w : Work
  w = work_after h c s list

  done : modifying (modify_accepted c.live n k) s' list'
      ≡ modifying (modify_accepted c.live (used w.state.ledger) w.count) w.state w.list
  done = sym modifies.answers ∙ call-accepted call_passed list call-clear

  pub call_state : s' ≡ w.state
  call_state = ap (λ (x : Modifying). x.state) done

  pub call_list : list' ≡ w.list
  call_list = ap (λ (x : Modifying). x.list) done

  pub call-leaves : Leaves h s s' (tree_after_modify h c s)
  call-leaves = subst (λ (x : St). Leaves h s x (tree_after_modify h c s)) (sym call_state) (after_call call_passed call-clear.room list)

  -- the answer
  accepted-same : (live : Bool) (a b x y : ℕ) → modify_accepted live a b ≡ modify_accepted live x y → (a ≡ x) × (live ≡ true → b ≡ y)
  unfolding modify_accepted
  accepted-same true a b x y q = (let z : a ≡ x = cc in z, λ on. let z : b ≡ y = cc in z)
  accepted-same false a b x y q = (let z : a ≡ x = cc in z, λ on. absurd (true≢false (sym on)))

  pub call-answer : (n ≡ used s'.ledger) × (c.live ≡ true → k ≡ w.count)
  call-answer =
      let p = accepted-same c.live n k (used w.state.ledger) w.count (ap (λ (x : Modifying). x.answer) done) in
      (p.0 ∙ ap (λ (x : St). used x.ledger) (sym call_state), p.1)

  -- ---- the list

  pub call_off : c.live ≡ false → list' ≡ list
  call_off off =
      call_list
      ∙ ap (λ (x : Numbered). x.list)
      (after_list call_passed call-clear.room list ∙ ap (λ (live : Bool). put_all live (numbers_of h c s) (numbered 0 list)) off
      ∙ put_off (numbers_of h c s) (numbered 0 list))

  module _ (on : c.live ≡ true) where
    listed : numbered w.count w.list ≡ numbered (length (numbers_of h c s)) (numbers_of h c s ++ drop (length (numbers_of h c s)) list)
    listed =
        after_list call_passed call-clear.room list ∙ ap (λ (live : Bool). put_all live (numbers_of h c s) (numbered 0 list)) on
        ∙ put_live (numbers_of h c s) list (call-clear.enough on)

    pub call_on : (k ≡ length (numbers_of h c s)) × (list' ≡ numbers_of h c s ++ drop k list)
    call_on =
        let q : k ≡ length (numbers_of h c s) = call-answer.1 on ∙ ap (λ (x : Numbered). x.count) listed in
        (q, call_list ∙ ap (λ (x : Numbered). x.list) listed ∙ ap (λ (n : ℕ). numbers_of h c s ++ drop n list) (sym q))
