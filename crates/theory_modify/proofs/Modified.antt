-- DOCUMENT 01'S MODIFY, of the call itself: `modify_answer` is the definition `modify_call` that the contract of the public call cites,
-- `walk_of` the Arm walk of the words, and nothing is asked of the pool but that the call is accepted. `shown` is what "as before" compares:
-- kind of answer, frame, flags.
use Rattle.std.specs.Prelude.{◌≡◌, refl, true, false, List, ◌++◌, eqb, length, drop, ◌↔◌, ℕ, suc, ◌+◌, ◌*◌, ◌/◌, ◌%◌, ◌≤◌, ◌<◌, ◌^◌}
use Rattle.std.proofs.Common.{sym, ◌∙◌, arith}
use Rattle.std.proofs.Math.Path.{ap}
use Rattle.std.proofs.Math.Bool.{cond}
use Rattle.entry.specs.Word.{valid, valid_of, valid_none, edited}
use Rattle.pool.specs.State.{St}
use Rattle.pool.specs.Number.{used, free}
use Rattle.pool.specs.declared.Handle.{Handle}
use Rattle.pool.specs.declared.Refusal.TheVariants.{WantOfRoom, HouseRule, Short}
use Rattle.modify_entry.specs.Word.{edit_word}
use Rattle.modify_survey.specs.House.{may_change}
use Rattle.modify_verify.specs.Verify.{asked_edit}
use Rattle.modify.specs.Call.{Modifying, modifying}
use Rattle.theory_forest.specs.Tree.{Tree}
use Rattle.theory_sound.specs.Clauses.{SoundPool}
use Rattle.theory_sound.specs.Codec.{shaped_placed, root_tree}
use Rattle.theory_sound.proofs.Hanging.{used_tree}
use Rattle.theory_sound.proofs.Step.{leaves-used}
use Rattle.theory_tree.specs.Walk.{Seen, mapped as seenMapped, hole as seenHole, seen}
use Rattle.theory_tree.specs.Shown.{FineTable}
use Rattle.theory_tree.proofs.Demands.{modified as tree-modified, holes_stay, modify_others, modify_tables}
use Rattle.arm.specs.Arm.{at as ends_at}
use Rattle.theory_walk.specs.AsBefore.{walk_of, Shown, mapped, hole, shown}
use Rattle.theory_map.specs.Terms.{InSpan, depth_of, root_in}
use Rattle.theory_map.specs.Leaf.{root_fine}
use Rattle.theory_map.specs.Shown.{in_bytes, walk-shown, leaves-shown}
use Rattle.theory_map.specs.Place.{span_spans}
use Rattle.theory_modify.specs.Terms.{ModifyArguments, modify_answer, Modifies, edit_asked, ModifyPassed, surveyed, InModifyRegion}
use Rattle.theory_modify.specs.Terms.{flags_after, modify_pages_of, made_by_modify, numbers_of}
use Rattle.theory_modify.specs.Numbers.{occurs, first_page}
use Rattle.theory_modify.specs.Listed.{changes}
use Rattle.theory_modify.specs.Call.{work_after, Clear}
use Rattle.theory_modify.proofs.Call.{region_paged, given, splits-made, numbers-made, numbers-one, numbers_tell, call_full, call_broken}
use Rattle.theory_modify.proofs.Call.{call_short, call-accepted, full_back, broken_back, short_back, call_passed, call-clear, call-leaves}
use Rattle.theory_modify.proofs.Call.{call-answer, call_off, call_on}
use Rattle.theory_modify.specs.House.{reach_of, ValidEntry, Covered, LowestBreach, Keeps, ModifyFits}
use Rattle.theory_modify.proofs.Lowest.{survey_lowest, survey_keeps, live_safe}
use Rattle.theory_modify.specs.Change.{bit, house_bit}
use Rattle.theory_modify.proofs.Change.{house_rule_bits}
use Rattle.std.specs.Prelude.{Err, None, Some}

-- ---- what a walk shows, read back

record WasMapped (x : Seen) (f p : ℕ) : Type 0 where
  frame : ℕ
  is : x ≡ seenMapped f frame
  at : frame * 4096 ≡ p

was_mapped : (x : Seen) (f p : ℕ) → in_bytes x ≡ mapped f p → WasMapped x f p
unfolding in_bytes
was_mapped (seenMapped g q) f p e =
    record { frame = q; is = ap (λ (y : ℕ). seenMapped y q) (let z : g ≡ f = cc in z); at = let z : q * 4096 ≡ p = cc in z }
was_mapped (seenHole g) f p e = cc

was_hole : (x : Seen) (f : ℕ) → in_bytes x ≡ hole f → x ≡ seenHole f
unfolding in_bytes
was_hole (seenMapped g q) f e = cc
was_hole (seenHole g) f e = ap seenHole (let z : g ≡ f = cc in z)

still_mapped : (x f p : ℕ) → x ≡ f → f % 2 ≡ 1 → in_bytes (cond (valid x) (seenMapped x p) (seenHole x)) ≡ mapped f (p * 4096)
unfolding in_bytes
still_mapped x f p e odd = rw (e, valid_of f odd)

now_hole : (x f p : ℕ) → x ≡ f → f % 2 ≡ 0 → in_bytes (cond (valid x) (seenMapped x p) (seenHole x)) ≡ hole f
unfolding in_bytes
now_hole x f p e even = rw (e, valid_none f even)

flags_are : (c : ModifyArguments) (f : ℕ) → edited (modify_pages_of c).set (modify_pages_of c).clear f ≡ flags_after c f
unfolding asked_edit
flags_are c f = refl

-- ---- AN ACCEPTED CALL

module _ {h : Handle} {c : ModifyArguments} {s s' : St} {list list' : List ℕ} {n k : ℕ} (modifies : Modifies h c s list n k s' list') where
  -- the pool is sound afterwards;
  pub modify_keeps_sound : SoundPool h s'
  modify_keeps_sound = (call-leaves modifies).pool

  passed : ModifyPassed h c s
  passed = call_passed modifies

  fine : FineTable (depth_of h) (root_tree h s)
  fine = root_fine (shaped_placed passed.shape) passed.pool

  module _ (va : ℕ) where
    before_shown : {x : Shown} → shown (walk_of h s va) ≡ x → in_bytes (seen (suc (depth_of h)) (root_tree h s) (va / 4096)) ≡ x
    before_shown is = sym (walk-shown passed.shape passed.pool va) ∙ is

    module _ (at : InModifyRegion c va) {f p : ℕ} (was : shown (walk_of h s va) ≡ mapped f p) where
      was_page : WasMapped (seen (suc (depth_of h)) (root_tree h s) (va / 4096)) f p
      was_page = was_mapped (seen (suc (depth_of h)) (root_tree h s) (va / 4096)) f p (before_shown was)

      region-after : let x = edited (modify_pages_of c).set (modify_pages_of c).clear f in
          shown (walk_of h s' va) ≡ in_bytes (cond (valid x) (seenMapped x was_page.frame) (seenHole x))
      region-after =
          leaves-shown (call-leaves modifies) va
          (tree-modified (depth_of h) (root_in h) (root_tree h s) fine (modify_pages_of c) (given passed) (va / 4096)
          ((region_paged passed).spans va at) f was_page.frame
          ((region_paged passed).page va at) was_page.is)

      -- a page of the region that was mapped keeps its frame, with the flags (flags or set) without clear;
      pub modify_valid_pages : flags_after c f % 2 ≡ 1 → shown (walk_of h s' va) ≡ mapped (flags_after c f) p
      modify_valid_pages v =
          region-after
          ∙ still_mapped (edited (modify_pages_of c).set (modify_pages_of c).clear f) (flags_after c f) was_page.frame (flags_are c f) v
          ∙ ap (mapped (flags_after c f)) was_page.at

      -- where that clears VALID it is a hole with these flags;
      pub modify_cleared_pages : flags_after c f % 2 ≡ 0 → shown (walk_of h s' va) ≡ hole (flags_after c f)
      modify_cleared_pages v =
          region-after
          ∙ now_hole (edited (modify_pages_of c).set (modify_pages_of c).clear f) (flags_after c f) was_page.frame (flags_are c f) v

    -- a hole of the region stays as it is;
    pub modify_holes_stay : InModifyRegion c va → {f : ℕ} → shown (walk_of h s va) ≡ hole f → shown (walk_of h s' va) ≡ hole f
    unfolding in_bytes
    modify_holes_stay at {f} was =
        leaves-shown (call-leaves modifies) va
        (holes_stay (depth_of h) (root_in h) (root_tree h s) fine (modify_pages_of c) (given passed) (va / 4096)
        ((region_paged passed).spans va at) f ((region_paged passed).page va at)
        (was_hole (seen (suc (depth_of h)) (root_tree h s) (va / 4096)) f (before_shown was)))

    -- every other address of the span walks as before;
    pub modify_elsewhere_as_before : InSpan h va → ¬ (InModifyRegion c va) → shown (walk_of h s' va) ≡ shown (walk_of h s va)
    modify_elsewhere_as_before at other =
        leaves-shown (call-leaves modifies) va
        (modify_others (depth_of h) (root_in h) (root_tree h s) fine (modify_pages_of c) (given passed) (va / 4096)
        (span_spans h va passed.shape.level at)
        (λ of. other ((region_paged passed).address va of)))
        ∙ sym (walk-shown passed.shape passed.pool va)

  -- the answer is the tables in use afterwards: those before, with those made; none is freed
  pub modify_tables_in_use : (n ≡ used s'.ledger) × (used s'.ledger ≡ used s.ledger + made_by_modify h c s)
  modify_tables_in_use =
      let before = used_tree passed.shape passed.pool in
      let after = leaves-used (call-leaves modifies) in
      let count = modify_tables (depth_of h) (root_in h) (root_tree h s) (modify_pages_of c) in
      ((call-answer modifies).0, omega arith)

  -- ---- the list

  module _ (va : ℕ) (at : InModifyRegion c va) where
    -- the number of the entry that shows an address of the region afterwards
    abbrev number : ℕ
    number = first_page (suc (depth_of h)) (root_tree h s') (va / 4096) % 2 ^ 44

    listed : occurs number (numbers_of h c s)
        ≡ changes (modify_pages_of c).set (modify_pages_of c).clear (seen (suc (depth_of h)) (root_tree h s) (va / 4096))
    listed =
        let of = (region_paged passed).page va at in
        ap (λ (t : Tree). occurs (first_page (suc (depth_of h)) t (va / 4096) % 2 ^ 44) (numbers_of h c s)) (call-leaves modifies).tree
        ∙ numbers_tell passed (va / 4096) of.from of.below

    -- stands among the numbers once if the address was mapped and its flags change, and else not at all;
    pub modify_changed_listed : {f p : ℕ} → shown (walk_of h s va) ≡ mapped f p
        → occurs number (numbers_of h c s) ≡ cond (eqb (flags_after c f) f) 0 1
    unfolding changes
    modify_changed_listed {f} {p} was =
        let page = was_mapped (seen (suc (depth_of h)) (root_tree h s) (va / 4096)) f p (before_shown va was) in
        listed ∙ ap (changes (modify_pages_of c).set (modify_pages_of c).clear) page.is
        ∙ ap (λ (x : ℕ). cond (eqb x f) 0 1) (flags_are c f)

    pub modify_hole_not_listed : {f : ℕ} → shown (walk_of h s va) ≡ hole f → occurs number (numbers_of h c s) ≡ 0
    unfolding changes
    modify_hole_not_listed {f} was =
        listed
        ∙ ap (changes (modify_pages_of c).set (modify_pages_of c).clear)
        (was_hole (seen (suc (depth_of h)) (root_tree h s) (va / 4096)) f (before_shown va was))

  -- not live, the list stays untouched;
  pub modify_list_untouched : c.live ≡ false → list' ≡ list
  modify_list_untouched off = call_off modifies off

  -- live, it is answered how many numbers there are, and the list holds them and then what it held: it has room for all of them
  pub modify_list_exactly : c.live ≡ true → (k ≡ length (numbers_of h c s)) × (k ≤ length list) × (list' ≡ numbers_of h c s ++ drop k list)
  modify_list_exactly on = let p = call_on modifies on in (p.0, omega (arith, p.0, (call-clear modifies).enough on), p.1)

  -- ---- live

  -- live, no valid entry is split and only the house rule's bits change: where the lookups of an address of the region ended at a valid
  -- word they end at the same level, at that word edited; and the entry lay in the region as a whole
  pub modify_live_safe : c.live ≡ true → {va level w : ℕ} → ValidEntry h c s va level w
      → (reach_of h s' va ≡ ends_at level (edit_word level (edit_asked c) w)) × (may_change h w (edit_word level (edit_asked c) w) ≡ true)
      × Covered c level va
  modify_live_safe live stands = live_safe modifies live stands

  -- no bit but 0, 7, 10, 11, 51, 53, 54 and 55 to 58 of the word changes
  pub modify_live_bits : c.live ≡ true → {va level w : ℕ} → ValidEntry h c s va level w → (i : ℕ) → house_bit i ≡ false
      → bit i w ≡ bit i (edit_word level (edit_asked c) w)
  modify_live_bits live {va} {level} {w} stands =
      (house_rule_bits h w (edit_word level (edit_asked c) w)).0 (live_safe modifies live stands).1

-- ---- THE REFUSALS 9 TO 11

module _ (h : Handle) (c : ModifyArguments) (s : St) (list : List ℕ) where
  -- 9 is given exactly when none of refusals 1 to 8 is, and more tables are made than are free at entry, live or not;
  pub
      modify_refused_9_exactly : ((a b : ℕ) × (s' : St) × (list' : List ℕ)
      × (modify_answer h c s list ≡ modifying (Err (WantOfRoom a b)) s' list'))
      ↔ (ModifyPassed h c s × (free s.ledger < made_by_modify h c s))
  modify_refused_9_exactly = (
    λ at. full_back h c s list at.4,
    λ full. (made_by_modify h c s, free s.ledger, s, list, call_full full.0 list full.1),
  )

  -- refusal 9 carries both numbers, and leaves the state and the list as they were;
  pub modify_refusal_9_carries : {a b : ℕ} {s' : St} {list' : List ℕ}
      → modify_answer h c s list ≡ modifying (Err (WantOfRoom a b)) s' list'
      → (a ≡ made_by_modify h c s) × (b ≡ free s.ledger) × (s' ≡ s) × (list' ≡ list)
  modify_refusal_9_carries {a} {b} is =
      let back = full_back h c s list is in
      let same = sym is ∙ call_full back.0 list back.1 in
      let p : Err (WantOfRoom a b) ≡ Err (WantOfRoom (made_by_modify h c s) (free s.ledger)) =
      ap (λ (x : Modifying). x.answer) same in (
        let e : a ≡ made_by_modify h c s = cc in e,
        let e : b ≡ free s.ledger = cc in e,
        ap (λ (x : Modifying). x.state) same,
        ap (λ (x : Modifying). x.list) same,
      )

  -- the survey's count of splits is what the modify makes;
  pub modify_splits_made : ModifyPassed h c s → (surveyed h c s).splits ≡ made_by_modify h c s
  modify_splits_made passed = splits-made passed

  -- 10 is given exactly when none of refusals 1 to 9 is, and a live call breaks the house rule;
  pub
      modify_refused_10_exactly : ((w : ℕ) × (s' : St) × (list' : List ℕ)
      × (modify_answer h c s list ≡ modifying (Err (HouseRule w)) s' list'))
      ↔ (ModifyPassed h c s × (made_by_modify h c s ≤ free s.ledger) × (c.live ≡ true)
      × ((w : ℕ) × ((surveyed h c s).broken ≡ Some w)))
  modify_refused_10_exactly = (
    λ at. let back = broken_back h c s list at.3 in (back.0, back.1, back.2, (at.0, back.3)),
    λ broken. (broken.3.0, s, list, call_broken broken.0 list broken.1 broken.2 broken.3.0 broken.3.1),
  )

  -- refusal 10 carries the survey's word, and leaves the state and the list as they were;
  pub modify_refusal_10_carries : {w : ℕ} {s' : St} {list' : List ℕ} → modify_answer h c s list ≡ modifying (Err (HouseRule w)) s' list'
      → ((surveyed h c s).broken ≡ Some w) × (s' ≡ s) × (list' ≡ list)
  modify_refusal_10_carries {w} is =
      let back = broken_back h c s list is in
      let same = sym is ∙ call_broken back.0 list back.1 back.2 w back.3 in
      (back.3, ap (λ (x : Modifying). x.state) same, ap (λ (x : Modifying). x.list) same)

  -- the survey is broken with the word w exactly when w stands at the lowest address, by the Arm walk, where the call breaks the house
  -- rule;
  pub house_rule_lowest : ModifyPassed h c s → (w : ℕ)
      → ((surveyed h c s).broken ≡ Some w) ↔ LowestBreach h c s w
  house_rule_lowest passed w = survey_lowest passed w

  -- refusal 10 is given with w exactly when none of refusals 1 to 9 is, the call is live, and w stands at the lowest address where it
  -- breaks the house rule;
  pub modify_refused_10_lowest : (w : ℕ) → (modify_answer h c s list ≡ modifying (Err (HouseRule w)) s list)
      ↔ (ModifyPassed h c s × (made_by_modify h c s ≤ free s.ledger) × (c.live ≡ true) × LowestBreach h c s w)
  modify_refused_10_lowest w = (
    λ is.
        let back = broken_back h c s list is in
        (back.0, back.1, back.2, (survey_lowest back.0 w).0 back.3),
    λ broken. call_broken broken.0 list broken.1 broken.2 w ((survey_lowest broken.0 w).1 broken.3),
  )

  -- 11 is given exactly when none of refusals 1 to 10 is, and a live call would list more numbers than the list has room for;
  pub
      modify_refused_11_exactly : ((n : ℕ) × (s' : St) × (list' : List ℕ)
      × (modify_answer h c s list ≡ modifying (Err (Short n)) s' list'))
      ↔ (ModifyPassed h c s × (made_by_modify h c s ≤ free s.ledger) × (c.live ≡ true) × Keeps h c s
      × (length list < length (numbers_of h c s)))
  modify_refused_11_exactly = (
    λ at. let back = short_back h c s list at.3 in (back.0, back.1, back.2, (survey_keeps back.0).0 back.3, back.4),
    λ short. (
      length (numbers_of h c s),
      s,
      list,
      call_short short.0 list short.1 short.2 ((survey_keeps short.0).1 short.3)
          short.4,
    ),
  )

  -- refusal 11 carries the length that is needed, and leaves the state and the list as they were;
  pub modify_refusal_11_carries : {n : ℕ} {s' : St} {list' : List ℕ} → modify_answer h c s list ≡ modifying (Err (Short n)) s' list'
      → (n ≡ length (numbers_of h c s)) × (s' ≡ s) × (list' ≡ list)
  modify_refusal_11_carries {n} is =
      let back = short_back h c s list is in
      let same = sym is ∙ call_short back.0 list back.1 back.2 back.3 back.4 in
      let p : Err (Short n) ≡ Err (Short (length (numbers_of h c s))) = ap (λ (x : Modifying). x.answer) same in
      (let e : n ≡ length (numbers_of h c s) = cc in e, ap (λ (x : Modifying). x.state) same, ap (λ (x : Modifying). x.list) same)

  -- the survey's count of numbers is the list's, where the house rule is kept;
  pub modify_numbers_counted : ModifyPassed h c s → (surveyed h c s).broken ≡ None → (surveyed h c s).numbers ≡ length (numbers_of h c s)
  modify_numbers_counted passed kept = numbers-made passed kept

  -- no number stands in it twice;
  pub modify_numbers_once : ModifyPassed h c s → (x : ℕ) → occurs x (numbers_of h c s) ≤ 1
  modify_numbers_once passed x = numbers-one passed x

  -- the call is accepted exactly when none of refusals 1 to 11 is given
  pub modify_accepted_exactly : ((n k : ℕ) × (s' : St) × (list' : List ℕ) × Modifies h c s list n k s' list')
      ↔ (ModifyPassed h c s × ModifyFits h c s list)
  modify_accepted_exactly = (
    λ at.
        let passed = call_passed at.4 in
        let clear = call-clear at.4 in
        (passed, record { room = clear.room; kept = λ on. (survey_keeps passed).0 (clear.kept on); enough = clear.enough }),
    λ fits.
        let w = work_after h c s list in
        let clear : Clear h c s list =
        record { room = fits.1.room; kept = λ on. (survey_keeps fits.0).1 (fits.1.kept on); enough = fits.1.enough } in
        (used w.state.ledger, w.count, w.state, w.list, record { answers = call-accepted fits.0 list clear }),
  )
