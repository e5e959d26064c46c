-- DEMANDS 2 AND 3, of the call itself. `map_answer` is the definition that the contract of the public call cites, `walk_of` the Arm walk of
-- the words; nothing is asked of the pool but that the call is accepted (`Maps`), which it is in a sound pool alone. `Terms` has the words
-- that are used here.
use Rattle.std.specs.Prelude.{◌≡◌, List, map, ◌↔◌, ℕ, ◌≤◌, ◌<◌, Err}
use Rattle.std.proofs.Common.{sym, ◌∙◌}
use Rattle.std.proofs.Math.Path.{ap}
use Rattle.entry.specs.Word.{valid_of}
use Rattle.pool.specs.State.{St}
use Rattle.pool.specs.Number.{used, free}
use Rattle.pool.specs.Refuse.{Out, out, Counted}
use Rattle.pool.specs.declared.Handle.{Handle}
use Rattle.pool.specs.declared.Refusal.TheVariants.{WantOfRoom}
use Rattle.map_verify.specs.Verify.{asked_map}
use Rattle.theory_sound.specs.Clauses.{SoundPool}
use Rattle.theory_sound.specs.Codec.{root_tree}
use Rattle.theory_walk.specs.AsBefore.{walk_of}
use Rattle.theory_tree.specs.Order.{Each, made_all}
use Rattle.theory_tree.proofs.Demands.{valid_map_frees_none}
use Rattle.theory_map.specs.Terms.{MapArguments, map_answer, Maps, Asks, ShapedSound, MapPassed, made_by, freed_by}
use Rattle.theory_map.specs.Terms.{Valid, InTurn, depth_of, root_in, map_pages_of}
use Rattle.theory_map.specs.Call.{state_after, call_full, call-maps, full_passed, full_more, call_passed, call_room, call-leaves}
use Rattle.theory_map.specs.Order.{turn_enough}

-- ---- DEMAND 2

module _ {h : Handle} {c : MapArguments} {s s' : St} {n : ℕ} (maps : Maps h c s n s') where
  -- the pool is sound afterwards;
  pub map_keeps_sound : SoundPool h s'
  map_keeps_sound = (call-leaves maps).pool

  -- a VALID map frees none
  pub map_valid_frees_none : Valid c → freed_by h c s ≡ 0
  unfolding asked_map
  map_valid_frees_none v = valid_map_frees_none (depth_of h) (root_in h) (root_tree h s) (map_pages_of c) (valid_of c.flags v)

-- ---- REFUSAL 9

module _ (h : Handle) (c : MapArguments) (s : St) where
  -- refusal 9 is given exactly when none of refusals 1 to 8 is, and more tables are made than are free at entry;
  pub map_refused_9_exactly : ((a b : ℕ) × (s' : St) × (map_answer h c s ≡ out (Err (WantOfRoom a b)) s'))
      ↔ (MapPassed h c s × (free s.ledger < made_by h c s))
  map_refused_9_exactly = (
    λ at. (full_passed h c s at.3, full_more h c s at.3),
    λ full. (made_by h c s, free s.ledger, s, call_full full.0 full.1),
  )

  -- refusal 9 carries both numbers, and leaves the state as it was;
  pub map_refusal_9_carries : {a b : ℕ} {s' : St} → map_answer h c s ≡ out (Err (WantOfRoom a b)) s'
      → (a ≡ made_by h c s) × (b ≡ free s.ledger) × (s' ≡ s)
  map_refusal_9_carries {a} {b} is =
      let same = sym is ∙ call_full (full_passed h c s is) (full_more h c s is) in
      let p : Err (WantOfRoom a b) ≡ Err (WantOfRoom (made_by h c s) (free s.ledger)) =
      ap (λ (x : Out Counted). x.answer) same in
      (let e : a ≡ made_by h c s = cc in e, let e : b ≡ free s.ledger = cc in e, ap (λ (x : Out Counted). x.state) same)

  -- the call is accepted exactly when none of refusals 1 to 8 is given and no more tables are made than are free
  pub map_accepted_exactly : ((n : ℕ) × (s' : St) × Maps h c s n s') ↔ (MapPassed h c s × (made_by h c s ≤ free s.ledger))
  map_accepted_exactly = (
    λ at. (call_passed at.2, call_room at.2),
    λ room. (used (state_after h c s).ledger, state_after h c s, record { answers = call-maps room.0 room.1 }),
  )

-- ---- DEMAND 3: VALID calls whose regions share no page

pub record EitherOrder (h : Handle) (cs ds : List MapArguments) (s : St) : Type 0 where
  -- all are accepted in one order exactly when all are in the other
  pub accepted : ((s' : St) × InTurn h cs s s') ↔ ((t' : St) × InTurn h ds s t')
  -- after either order every address has the same walk answer, level included
  pub walks : (s' t' : St) → InTurn h cs s s' → InTurn h ds s t' → (va : ℕ) → walk_of h s' va ≡ walk_of h t' va
  -- after either order equally many tables are in use
  pub tables : (s' t' : St) → InTurn h cs s s' → InTurn h ds s t' → used s'.ledger ≡ used t'.ledger

-- ---- with and without VALID (Q-13)

module _ (h : Handle) (cs : List MapArguments) (s : St) (law : ShapedSound h s) where
  -- where as many tables are free at entry as the calls of a list make, want of room aside, none of them is refused 9;
  pub maps_enough_room : Each (Asks h) cs → made_all (depth_of h) (root_in h) (map map_pages_of cs) (root_tree h s) ≤ free s.ledger
      → (s' : St) × InTurn h cs s s'
  maps_enough_room asks room = turn_enough h cs s law asks room
