-- The call of map on a pool that refusals 1 to 8 leave: it is refused 9 exactly when the tree's count exceeds what is free, and otherwise
-- it leaves a sound pool whose root shows the tree after the map.
use Rattle.std.specs.Prelude.{◌≡◌, refl, true, ◌⊎◌, ℕ, ◌≤◌, ◌<◌, Err, Ok}
use Rattle.std.proofs.Common.{sym, ap, subst, ◌∙◌, inl, inr, arith}
use Rattle.laws.specs.Test.{is_true, le_or}
use Rattle.pool.specs.State.{St}
use Rattle.pool.specs.Number.{used, free}
use Rattle.pool.specs.Refuse.{number, shaped, says-shaped, Out, out, Counted}
use Rattle.pool.specs.Sound.{soundb}
use Rattle.pool.specs.declared.Handle.{Handle}
use Rattle.pool.specs.declared.Refusal.{Refusal}
use Rattle.pool.specs.declared.Refusal.TheVariants.{WantOfRoom}
use Rattle.map_rules.specs.declared.Map.{Map}
use Rattle.map_count_spec.specs.Needed.{needed}
use Rattle.map_put.specs.Put.{map_range}
use Rattle.map_spec.specs.Call.{refused, map_sound, sound_not, sound_full}
use Rattle.map_spec.specs.Call.{sound_mapped, put_down_lem, call_misshaped, call-refused, call-asked}
use Rattle.theory_forest.specs.Tree.{Tree}
use Rattle.theory_sound.specs.Codec.{shaped_placed, root_tree}
use Rattle.theory_sound.proofs.Decide.{sound_decide}
use Rattle.theory_sound.specs.Step.{Ready, Leaves}
use Rattle.theory_sound.proofs.Step.{root_ready, root_leaves}
use Rattle.theory_tree.specs.Rules.{Given}
use Rattle.theory_tree.proofs.Document.{document_is}
use Rattle.theory_tree.proofs.Needed.{document_needs}
use Rattle.theory_tree.specs.Root.{map_tree, map_made}
use Rattle.theory_map.specs.Terms.{MapArguments, map_answer, Maps, map_asked, MapPassed, depth_of, root_in, map_pages_of, tree_after_map}
use Rattle.theory_map.specs.Terms.{made_by}
use Rattle.theory_map.specs.Stand.{Allowed}
use Rattle.theory_map.specs.Moves.{WorkedWithin, root_node}
use Rattle.theory_map.specs.Pieces.{done_table, takes_table, Area}
use Rattle.theory_map.specs.Range.{range_works}
use Rattle.theory_map.specs.Need.{needed_is}
use Rattle.theory_map.specs.Asked.{asked_allowed, asked_area, asked_early, left_by}

-- the state that an accepted call leaves
abbrev pub state_after : Handle → MapArguments → St → St
state_after h c s = map_range (depth_of h) h 0 (map_asked c) s

module _ {h : Handle} {c : MapArguments} {s : St} (passed : MapPassed h c s) where
  abbrev m : Map
  m = map_asked c

  allowed : Allowed h m.flags
  allowed = asked_allowed h c.start c.end c.frame c.flags c.constraints passed.asks

  pub area : Area (depth_of h) (root_in h) m
  area = asked_area h c.start c.end c.frame c.flags c.constraints passed.asks passed.shape.level

  ready : Ready h s (depth_of h) 0
  ready = root_ready passed.shape passed.pool

  pub given : Given (map_pages_of c)
  given =
      let I = area.inside in
      record { plain = allowed.plain; ends = omega (arith, area.room, I.start_page, I.end_page, I.frame_page) }

  takes-made : takes_table m (depth_of h) (root_tree h s) ≡ made_by h c s
  takes-made =
      subst (λ (t : Tree). takes_table m (depth_of h) t ≡ map_made (depth_of h) (root_in h) (map_pages_of c) t) (sym (root_node h s))
      (document_needs m.flags m.blocks (depth_of h) (root_in h) m.region.start.0 m.region.end.0 m.frame.0 _ (omega arith)
      area.inside)

  done_tree : done_table m (depth_of h) (root_tree h s) ≡ tree_after_map h c s
  done_tree =
      subst (λ (t : Tree). done_table m (depth_of h) t ≡ map_tree (depth_of h) (root_in h) (map_pages_of c) t) (sym (root_node h s))
      (document_is m.flags m.blocks (depth_of h) (root_in h) m.region.start.0 m.region.end.0 m.frame.0 _ (omega arith)
      area.inside)

  -- REFUSAL 9'S COUNT IS THE TREE'S
  pub needed-made : needed (depth_of h) h s 0 m ≡ made_by h c s
  needed-made = needed_is (shaped_placed passed.shape) (depth_of h) 0 m s ready ∙ takes-made

  -- ---- with room

  module _ (room : made_by h c s ≤ free s.ledger) where
    worked : WorkedWithin (shaped_placed passed.shape) s (state_after h c s) (depth_of h) 0 (done_table m (depth_of h) (root_tree h s))
        (takes_table m (depth_of h) (root_tree h s))
    worked =
        range_works (shaped_placed passed.shape) (depth_of h) (omega arith) (root_in h) 0 m s allowed area ready
        (omega (arith, takes-made))

    pub after_call : Leaves h s (state_after h c s) (tree_after_map h c s)
    after_call = subst (Leaves h s (state_after h c s)) done_tree (root_leaves passed.shape passed.pool worked.worked)

-- ---- what the call answers

-- no refusal is an acceptance
not-tables : {r : Refusal} {s s' : St} {n : ℕ} {x : Out Counted} → refused r s ≡ x → x ≡ out (Ok n) s' → ⊥
not-tables e q = let p = ap (λ (y : Out Counted). y.answer) (e ∙ q) in cc

module _ {h : Handle} {c : MapArguments} {s : St} (passed : MapPassed h c s) where
  sound_is : soundb h s ≡ true
  sound_is = is_true (soundb h s) (sound_decide passed.shape passed.pool)

  asked_is : map_sound h (map_asked c) s ≡ map_answer h c s
  asked_is =
      call-asked h c.start c.end c.frame c.flags c.constraints s
      (is_true (shaped h s) (says-shaped h s passed.shape)) refl passed.asks

  -- refusal 9
  pub call_full : free s.ledger < made_by h c s → map_answer h c s ≡ refused (WantOfRoom (made_by h c s) (free s.ledger)) s
  call_full full = sym (sound_full h (map_asked c) s sound_is (sym (needed-made passed)) refl full ∙ asked_is)

  -- accepted
  pub call-maps : made_by h c s ≤ free s.ledger
      → map_answer h c s ≡ out (Ok (used (state_after h c s).ledger)) (state_after h c s)
  call-maps room =
      sym (put_down_lem h (map_asked c) s refl refl ∙ sound_mapped h (map_asked c) s sound_is (sym (needed-made passed)) refl room
      ∙ asked_is)

-- what is answered otherwise than by refusals 1 to 8 was left by them
passed_by : (h : Handle) (c : MapArguments) (s : St) {x : Out Counted} → map_answer h c s ≡ x
    → ((r : Refusal) → number r < 9 → refused r s ≡ x → ⊥) → MapPassed h c s
passed_by h c s {x} is later =
    let left = left_by
    (record {
      misshaped = λ e. call_misshaped h c.start c.end c.frame c.flags c.constraints s e ∙ is;
      stopped = λ e r q. call-refused h c.start c.end c.frame c.flags c.constraints s e refl r q ∙ is;
      unsound = λ e ok unsound. sound_not h (map_asked c) s unsound
          ∙ call-asked h c.start c.end c.frame c.flags c.constraints s e refl ok
          ∙ is;
      early = asked_early h c.end (map_asked c);
    })
    later in
    record { shape = left.0; asks = left.1; pool = left.2 }

-- ---- refused 9

answer_of_lem : {r : Refusal} {s s' : St} {y : Counted} → refused r s ≡ out y s' → Err r ≡ y
answer_of_lem e = ap (λ (x : Out Counted). x.answer) e

module _ (h : Handle) (c : MapArguments) (s : St) {a b : ℕ} {s' : St}
    (is : map_answer h c s ≡ out (Err (WantOfRoom a b)) s') where
  pub full_passed : MapPassed h c s
  full_passed = passed_by h c s is (λ r early e.
      let same : r ≡ WantOfRoom a b = let p = answer_of_lem e in cc in
      let nine : number r ≡ 9 = ap number same in
      omega arith)

  pub full_more : free s.ledger < made_by h c s
  full_more = go (le_or (made_by h c s) (free s.ledger))
    where
      go : (made_by h c s ≤ free s.ledger) ⊎ (free s.ledger < made_by h c s) → free s.ledger < made_by h c s
      go (inl room) =
          absurd
          (let p = ap (λ (x : Out Counted). x.answer) (sym is ∙ call-maps full_passed room) in cc)
      go (inr more) = more

-- ---- accepted

module _ {h : Handle} {c : MapArguments} {s s' : St} {n : ℕ} (maps : Maps h c s n s') where
  pub call_passed : MapPassed h c s
  call_passed = passed_by h c s maps.answers (λ r early e. not-tables e refl)

  pub call_room : made_by h c s ≤ free s.ledger
  call_room = go (le_or (made_by h c s) (free s.ledger))
    where
      go : (made_by h c s ≤ free s.ledger) ⊎ (free s.ledger < made_by h c s) → made_by h c s ≤ free s.ledger
      go (inl room) = room
      go (inr full) = absurd (not-tables (sym (call_full call_passed full)) maps.answers)

  pub call_state : s' ≡ state_after h c s
  call_state = ap (λ (x : Out Counted). x.state) (sym maps.answers ∙ call-maps call_passed call_room)

  pub call-count : n ≡ used s'.ledger
  call-count =
      let p : Ok n ≡ Ok (used (state_after h c s).ledger) =
      ap (λ (x : Out Counted). x.answer) (sym maps.answers ∙ call-maps call_passed call_room) in
      let e : n ≡ used (state_after h c s).ledger = cc in
      e ∙ ap (λ (x : St). used x.ledger) (sym call_state)

  -- the pool that it leaves
  pub call-leaves : Leaves h s s' (tree_after_map h c s)
  call-leaves = subst (λ (x : St). Leaves h s x (tree_after_map h c s)) (sym call_state) (after_call call_passed call_room)
