-- Calls one after the other are the maps of a list on the root's tree: accepted where each passes and there is room on the way. So a list
-- of VALID calls whose regions share no page may be reordered (Q-13); demand 3 is the case of two.
use Rattle.std.specs.Prelude.{◌≡◌, ℕ, ◌-◌, ◌≤◌}
use Rattle.std.proofs.Common.{sym, subst₂, arith}
use mathlib.Core.List.{List, [], ◌∷◌, map}
use Rattle.pool.specs.State.{St, tables}
use Rattle.pool.specs.Number.{used, free, used-free}
use Rattle.pool.specs.declared.Handle.{Handle}
use Rattle.theory_forest.specs.Tree.{Tree}
use Rattle.theory_forest.specs.Nodes.{nodes}
use Rattle.theory_sound.specs.Codec.{root_tree}
use Rattle.theory_sound.proofs.Hanging.{used_tree}
use Rattle.theory_tree.specs.Order.{RoomFor, made_all, Each}
use Rattle.theory_tree.proofs.Demands.{enough_room}
use Rattle.theory_map.specs.Terms.{MapArguments, Maps, Asks, ShapedSound, MapPassed, InTurn, none, next}
use Rattle.theory_map.specs.Terms.{depth_of, root_in, map_pages_of}
use Rattle.theory_map.specs.Call.{state_after, call-maps, call-leaves}

pub passes : {h : Handle} {c : MapArguments} {s : St} → ShapedSound h s → Asks h c → MapPassed h c s
passes law asks = record { shape = law.shape; asks = asks; pool = law.pool }

pub turn_lawful : {h : Handle} {c : MapArguments} {s s' : St} {n : ℕ} → Maps h c s n s' → ShapedSound h s'
turn_lawful maps = record { shape = (call-leaves maps).shape; pool = (call-leaves maps).pool }

-- what is free is what the tree leaves of the pool
pub spare : {h : Handle} {s : St} → ShapedSound h s → free s.ledger ≡ tables s - nodes (root_tree h s)
spare {h} {s} law = let a = used_tree law.shape law.pool in let b = used-free s.ledger in omega arith

module _ (h : Handle) where
  abbrev room_for : ℕ → List MapArguments → Tree → Type 0
  room_for n cs t = RoomFor (depth_of h) (root_in h) n (map map_pages_of cs) t

  -- ---- a list with room is accepted

  pub room_turn : (cs : List MapArguments) (s : St) → ShapedSound h s → Each (Asks h) cs → room_for (tables s) cs (root_tree h s)
      → (s' : St) × InTurn h cs s s'
  room_turn [] s law asks room = (s, none)
  room_turn (c ∷ cs) s law asks room =
      let t : St = state_after h c s in
      let maps : Maps h c s (used t.ledger) t =
      record { answers = call-maps (passes law asks.0) (omega (arith, room.0, spare law)) } in
      after maps
      (room_turn cs t (turn_lawful maps) asks.1
      (subst₂ (λ (n : ℕ) (u : Tree). room_for n cs u) (sym (call-leaves maps).size.same_tables) (sym (call-leaves maps).tree) room.1))
    where
      after : {t : St} {n : ℕ} → Maps h c s n t → (s' : St) × InTurn h cs t s' → (s' : St) × InTurn h (c ∷ cs) s s'
      after maps (s', rest) = (s', next maps rest)

-- where the tables that a list makes are free at entry, no call of it is refused 9
pub turn_enough : (h : Handle) (cs : List MapArguments) (s : St) → ShapedSound h s → Each (Asks h) cs
    → made_all (depth_of h) (root_in h) (map map_pages_of cs) (root_tree h s) ≤ free s.ledger → (s' : St) × InTurn h cs s s'
turn_enough h cs s law asks room =
    let in_use = used_tree law.shape law.pool in
    let sum = used-free s.ledger in
    room_turn h cs s law asks (enough_room (depth_of h) (root_in h) (root_tree h s) (tables s) (map map_pages_of cs) (omega arith))
