-- Refusal 10 by the Arm walk: a survey is broken exactly by the lowest address of the region where the call breaks the house rule, and
-- carries the word that stands there; and an accepted live call keeps the rule.
use Rattle.std.specs.Prelude.{◌≡◌, true, false, List, ◌⊎◌, ◌↔◌, None, Some}
use Rattle.std.proofs.Math.Path.{refl, sym, ap}
use Rattle.std.proofs.Common.{ap₂, subst, ◌∙◌, inl, inr}
use Prim.Native.Nat.{ℕ, suc, ◌+◌, ◌*◌, ◌-◌, ◌/◌, ◌%◌, ◌≤◌, ◌<◌}
use native.Mathlib.Omega.{arith}
use Rattle.laws.specs.Size.{size_at, down}
use Rattle.laws.specs.Test.{by_bool, le_or}
use Rattle.entry.specs.Word.{valid, valid_of, valid_yes, edited}
use Rattle.region.specs.Region.{rounded}
use Rattle.pool.specs.State.{St}
use Rattle.pool.specs.Refuse.{Shaped}
use Rattle.pool.specs.declared.Handle.{Handle}
use Rattle.modify_entry.specs.declared.Edit.{Edit}
use Rattle.modify_entry.specs.Word.{edit_word}
use Rattle.modify_survey.specs.House.{may_change}
use Rattle.modify_verify.specs.Verify.{asked_edit}
use Rattle.modify.specs.Call.{nothing}
use Rattle.theory_forest.specs.Tree.{Tree}
use Rattle.theory_forest.specs.Walk.{Ends, walk_tree}
use Rattle.theory_sound.specs.Clauses.{SoundPool}
use Rattle.theory_sound.specs.Codec.{shaped_placed, root_tree}
use Rattle.arm.specs.Arm.{at}
use Rattle.theory_walk.specs.Any.{slots_taken, reached_at}
use Rattle.theory_walk.proofs.Walked.{reach_tree}
use Rattle.theory_tree.specs.Page.{pages_in, span-size, first, slot_of_page, slot_lt, in_rest, entry_start}
use Rattle.theory_map.specs.Terms.{depth_of, root_in}
use Rattle.theory_map.specs.Leaf.{root_fine}
use Rattle.theory_map.specs.Shown.{slots_are, walk_same, FineEnds, table-ends}
use Rattle.theory_modify.specs.Terms.{ModifyArguments, Modifies, edit_asked, ModifyPassed, surveyed, InModifyRegion, modify_pages_of}
use Rattle.theory_modify.specs.Terms.{tree_after_modify}
use Rattle.theory_modify.specs.House.{reach_of, ValidEntry, Covered, Breaks, LowestBreach, Keeps}
use Rattle.theory_modify.specs.Word.{valid-edited}
use Rattle.theory_modify.specs.Asked.{asked_forwards}
use Rattle.theory_modify.proofs.Call.{area, region_paged, ready, call_passed, call-clear, call-leaves}
use Rattle.theory_modify.specs.Found.{WithinPages, new_word, Broken, First, Finds, by_broken, new_is, BreaksIn, survey_finds}
use Rattle.theory_modify.specs.Stays.{modify_stays}

-- ---- the walk of an address, on the root's tree

abbrev ends_of : Handle → Tree → ℕ → Ends
ends_of h t y = walk_tree (slot_of_page y) (suc (depth_of h)) t

reach-ends : {h : Handle} {s : St} → Shaped h s → SoundPool h s → (va : ℕ)
    → reach_of h s va ≡ at (3 - (ends_of h (root_tree h s) (va / 4096)).depth) (ends_of h (root_tree h s) (va / 4096)).word
unfolding reached_at
reach-ends {h} {s} shape P va =
    reach_tree shape P va
    ∙ ap reached_at
    (walk_same (slots_taken va) (slot_of_page (va / 4096)) (suc (depth_of h)) (root_tree h s) (λ l k. slots_are va l (omega arith)))

at_level : {a b v w : ℕ} → at a v ≡ at b w → a ≡ b
at_level {a} {b} {v} {w} e = let z : a ≡ b = cc in z

at_word : {a b v w : ℕ} → at a v ≡ at b w → v ≡ w
at_word {a} {b} {v} {w} e = let z : v ≡ w = cc in z

module _ {h : Handle} {c : ModifyArguments} {s : St} (passed : ModifyPassed h c s) where
  abbrev e : Edit
  e = edit_asked c

  abbrev lo : ℕ
  lo = e.region.start.0 / 4096

  abbrev hi : ℕ
  hi = e.region.end.0 / 4096

  abbrev ends : ℕ → Ends
  ends y = ends_of h (root_tree h s) y

  ends_fine : (y : ℕ) → FineEnds (depth_of h) (ends y)
  ends_fine y = table-ends (slot_of_page y) (depth_of h) (root_tree h s) (slot_lt y) (root_fine (shaped_placed passed.shape) passed.pool)

  -- an entry that lies in the region, in bytes and in pages
  module _ (n va : ℕ) (low : n ≤ 3) where
    start_is : down va (size_at (3 - n)) ≡ (va / 4096 - va / 4096 % pages_in n) * 4096
    unfolding down
    start_is =
        let i = in_rest n (va / 4096 / pages_in n) (va / 4096) refl in
        let f : first n (va / 4096 / pages_in n) ≡ va / 4096 - va / 4096 % pages_in n = omega arith in
        entry_start n va low ∙ ap (λ (x : ℕ). x * 4096) f

    covered_within : Covered c (3 - n) va → WithinPages lo hi n (va / 4096)
    unfolding asked_edit
    covered_within C =
        let a = start_is in
        let b = span-size n low in
        record { from = omega (arith, C.from); upto = omega (arith, C.upto) }

    within_covered : WithinPages lo hi n (va / 4096) → Covered c (3 - n) va
    unfolding asked_edit
    within_covered W =
        let a = start_is in
        let b = span-size n low in
        record {
          from = omega (arith, W.from, (area passed).inside.start_page);
          upto = omega (arith, W.upto, (area passed).inside.end_page);
        }

  module _ (va : ℕ) where
    abbrev x : Ends
    x = ends (va / 4096)

    low_end : x.depth ≤ 3
    low_end = omega (arith, (ends_fine (va / 4096)).low)

    reached : reach_of h s va ≡ at (3 - x.depth) x.word
    reached = reach-ends passed.shape passed.pool va

    new_word_lem : (w : ℕ) → new_word e.set e.clear (3 - x.depth) w ≡ edit_word (3 - x.depth) e w
    new_word_lem w = new_is (3 - x.depth) e w

    -- an address where the call breaks the rule is one of a page that does
    to_page : (w : ℕ) → Breaks h c s va w → Broken h e.set e.clear lo hi x (va / 4096) w
    to_page w B = record { word = at_word same; valid = valid_of w B.stands.valid; rule = either B.rule }
      where
        same : at (3 - x.depth) x.word ≡ at B.level w
        same = sym reached ∙ B.stands.ends

        either : (¬ (Covered c B.level va)) ⊎ (may_change h w (edit_word B.level e w) ≡ false)
            → (¬ (WithinPages lo hi x.depth (va / 4096))) ⊎ (may_change h w (new_word e.set e.clear (3 - x.depth) w) ≡ false)
        either (inl split) = inl (λ W. split (subst (λ (l : ℕ). Covered c l va) (at_level same) (within_covered x.depth va low_end W)))
        either (inr bits) = inr (ap (may_change h w) (new_word_lem w ∙ ap (λ (l : ℕ). edit_word l e w) (at_level same)) ∙ bits)

    of_page : (w : ℕ) → InModifyRegion c va → Broken h e.set e.clear lo hi x (va / 4096) w → Breaks h c s va w
    of_page w in_region B = record {
      level = 3 - x.depth;
      stands = record { region = in_region; ends = reached ∙ ap (at (3 - x.depth)) B.word; valid = valid_yes w B.valid };
      rule = either B.rule;
    }
      where
        either : (¬ (WithinPages lo hi x.depth (va / 4096))) ⊎ (may_change h w (new_word e.set e.clear (3 - x.depth) w) ≡ false)
            → (¬ (Covered c (3 - x.depth) va)) ⊎ (may_change h w (edit_word (3 - x.depth) e w) ≡ false)
        either (inl split) = inl (λ C. split (covered_within x.depth va low_end C))
        either (inr bits) = inr (ap (may_change h w) (sym (new_word_lem w)) ∙ bits)

  -- ---- the survey

  scanned : Finds (BreaksIn (shaped_placed passed.shape) e (suc (depth_of h)) (root_tree h s)) lo hi nothing (surveyed h c s)
  scanned = survey_finds (shaped_placed passed.shape) (depth_of h) (omega arith) (root_in h) 0 0 e s nothing (area passed) (ready passed)
      (asked_forwards h c.start c.end c.set c.clear c.live passed.asks)

  -- the first address of the page
  module _ {w : ℕ} (f : First (λ y u. Broken h e.set e.clear lo hi (ends y) y u) lo hi w) where
    address : ℕ
    address = f.page * 4096

    back : f.page ≡ address / 4096
    unfolding address
    back = omega arith

    first_breaks : Breaks h c s address w
    first_breaks =
        of_page address w
        ((region_paged passed).address address (record { from = omega (arith, f.from, back); below = omega (arith, f.below, back) }))
        (subst (λ (y : ℕ). Broken h e.set e.clear lo hi (ends y) y w) back f.here)

    first_least : (b u : ℕ) → b < address → ¬ (Breaks h c s b u)
    unfolding address
    first_least b u l B = f.least (b / 4096) u ((region_paged passed).page b B.stands.region).from (omega arith) (to_page b u B)

    first_lowest : LowestBreach h c s w
    first_lowest = record { address = address; breaks = first_breaks; least = first_least }

    -- no other address is the lowest
    lowest_first : {u : ℕ} → LowestBreach h c s u → w ≡ u
    unfolding address
    lowest_first {u} L =
        let a : ℕ = L.address in
        let page = (region_paged passed).page a L.breaks.stands.region in
        let broken = to_page a u L.breaks in
        let same : f.page ≡ a / 4096 = go (le_or f.page (a / 4096)) (le_or a (f.page * 4096)) in
        sym (subst (λ (y : ℕ). Broken h e.set e.clear lo hi (ends y) y w) same f.here).word ∙ broken.word
      where
        go : (f.page ≤ L.address / 4096) ⊎ (L.address / 4096 < f.page) → (L.address ≤ f.page * 4096) ⊎ (f.page * 4096 < L.address)
            → f.page ≡ L.address / 4096
        go (inr l) k =
            absurd
            (f.least (L.address / 4096) u ((region_paged passed).page L.address L.breaks.stands.region).from l
            (to_page L.address u L.breaks))
        go (inl l) (inr k) = absurd (L.least (f.page * 4096) w k first_breaks)
        go (inl l) (inl k) = omega arith

  -- where the survey is not broken no address breaks
  kept_none : (surveyed h c s).broken ≡ None → Keeps h c s
  kept_none kept va u B =
      let page = (region_paged passed).page va B.stands.region in
      scanned.none refl kept (va / 4096) u page.from page.below (to_page va u B)

  -- REFUSAL 10, BY THE WALK
  pub survey_lowest : (w : ℕ) → ((surveyed h c s).broken ≡ Some w) ↔ LowestBreach h c s w
  survey_lowest w = (
    λ found. first_lowest (scanned.some refl w found),
    λ L. by_broken (surveyed h c s).broken
        (λ u broken. broken ∙ ap Some (lowest_first (scanned.some refl u broken) L))
        (λ kept. absurd (kept_none kept L.address w L.breaks)),
  )

  pub survey_keeps : ((surveyed h c s).broken ≡ None) ↔ Keeps h c s
  survey_keeps = (
    kept_none,
    λ keeps. by_broken {A = (surveyed h c s).broken ≡ None} (surveyed h c s).broken
        (λ w broken. let L = (survey_lowest w).0 broken in absurd (keeps L.address w L.breaks))
        (λ kept. kept),
  )

  -- ---- where the rule is kept

  module _ (kept : (surveyed h c s).broken ≡ None) (va level w : ℕ) (S : ValidEntry h c s va level w) where
    pub kept_change : may_change h w (edit_word level e w) ≡ true
    kept_change = by_bool {A = may_change h w (edit_word level e w) ≡ true} (may_change h w (edit_word level e w)) (λ may. may)
        (λ bits. absurd (kept_none kept va w (record { level = level; stands = S; rule = inr bits })))

    pub kept_covered : Covered c level va
    kept_covered =
        go (le_or (rounded c.start c.end).start.0 (down va (size_at level)))
        (le_or (down va (size_at level) + size_at level) (rounded c.start c.end).end.0)
      where
        split : ¬ (¬ (Covered c level va))
        split not = kept_none kept va w (record { level = level; stands = S; rule = inl not })

        go : ((rounded c.start c.end).start.0 ≤ down va (size_at level))
            ⊎ (down va (size_at level) < (rounded c.start c.end).start.0)
            → (down va (size_at level) + size_at level ≤ (rounded c.start c.end).end.0)
            ⊎ ((rounded c.start c.end).end.0 < down va (size_at level) + size_at level)
            → Covered c level va
        go (inl a) (inl b) = record { from = a; upto = b }
        go (inr a) b = absurd (split (λ C. omega (arith, C.from)))
        go (inl a) (inr b) = absurd (split (λ C. omega (arith, C.upto)))

    same_end : at (3 - (ends (va / 4096)).depth) (ends (va / 4096)).word ≡ at level w
    same_end = sym (reached va) ∙ S.ends

    -- the tree after the modify has the edited word at the same level
    pub kept_walk : ends_of h (tree_after_modify h c s) (va / 4096)
        ≡ record { word = edit_word level e w; depth = (ends (va / 4096)).depth }
    kept_walk =
        let y : ℕ = va / 4096 in
        let page = (region_paged passed).page va S.region in
        let v : valid (ends y).word ≡ true = ap valid (at_word same_end) ∙ valid_of w S.valid in
        let W : WithinPages lo hi (ends y).depth y =
        covered_within (ends y).depth va (low_end va) (subst (λ (l : ℕ). Covered c l va) (sym (at_level same_end)) kept_covered) in
        let new : edited e.set e.clear (ends y).word ≡ edit_word level e w =
        sym (valid-edited e (ends y).word (ends y).depth (low_end va) (ends_fine y).fine v)
        ∙ ap₂ (λ (l x : ℕ). edit_word l e x) (at_level same_end) (at_word same_end) in
        modify_stays (depth_of h) (root_in h) (modify_pages_of c) (root_tree h s) y (root_fine (shaped_placed passed.shape) passed.pool)
        ((region_paged passed).spans va S.region)
        page.from page.below v W
        ∙ ap (λ (x : ℕ). record { word = x; depth = (ends y).depth }) new

    pub kept_level : 3 - (ends (va / 4096)).depth ≡ level
    kept_level = at_level same_end

-- ---- an accepted live call

module _ {h : Handle} {c : ModifyArguments} {s s' : St} {list list' : List ℕ} {n k : ℕ} (modifies : Modifies h c s list n k s' list')
    (live : c.live ≡ true) where
  was : ModifyPassed h c s
  was = call_passed modifies

  kept : (surveyed h c s).broken ≡ None
  kept = (call-clear modifies).kept live

  -- LIVE SAFETY
  pub live_safe : {va level w : ℕ} → ValidEntry h c s va level w
      → (reach_of h s' va ≡ at level (edit_word level (edit_asked c) w)) × (may_change h w (edit_word level (edit_asked c) w) ≡ true)
      × Covered c level va
  live_safe {va} {level} {w} S = (
    reach-ends (call-leaves modifies).shape (call-leaves modifies).pool va
        ∙ ap (λ (t : Tree). at (3 - (ends_of h t (va / 4096)).depth) (ends_of h t (va / 4096)).word) (call-leaves modifies).tree
        ∙ ap (λ (x : Ends). at (3 - x.depth) x.word) (kept_walk was kept va level w S)
        ∙ ap (λ (l : ℕ). at l (edit_word level (edit_asked c) w)) (kept_level was kept va level w S),
    kept_change was kept va level w S,
    kept_covered was kept va level w S,
  )
