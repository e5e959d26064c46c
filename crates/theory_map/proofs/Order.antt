-- Theorems about the definitions of specs/Order.
use Rattle.std.specs.Prelude.{◌≡◌, ℕ, suc, ◌*◌, ◌/◌}
use Rattle.std.proofs.Math.Path.{refl, ap}
use Rattle.std.proofs.Common.{sym, subst₂, ◌∙◌, arith}
use mathlib.Core.List.Permᴰ
use mathlib.Core.List.{List, [], ◌∷◌, map}
use Rattle.entry.specs.Word.{valid_of}
use Rattle.pool.specs.State.{St, tables}
use Rattle.pool.specs.Number.{used, used-free}
use Rattle.pool.specs.declared.Handle.{Handle}
use Rattle.map_verify.specs.Verify.{asked_map}
use Rattle.theory_forest.specs.Tree.{Tree}
use Rattle.theory_forest.specs.Nodes.{nodes}
use Rattle.theory_forest.specs.Walk.{walk_tree}
use Rattle.theory_sound.specs.Codec.{shaped_placed, root_tree}
use Rattle.theory_sound.proofs.Hanging.{used_tree}
use Rattle.arm.specs.Arm.{says}
use Rattle.theory_walk.specs.AsBefore.{walk_of, shown}
use Rattle.theory_walk.specs.Any.{slots_taken, reached_at}
use Rattle.theory_walk.proofs.Walked.{walk_of_tree}
use Rattle.theory_tree.specs.Walk.{seen}
use Rattle.theory_tree.specs.Shown.{FineTable}
use Rattle.theory_tree.specs.Rules.{Given}
use Rattle.theory_tree.specs.Commute.{Apart as ApartPages}
use Rattle.theory_tree.specs.Order.{RoomFor, run, ValidMap, Each, Pairwise, Pairs, Reorders}
use Rattle.theory_tree.proofs.Order.{run_reorders, room_reorders}
use Rattle.theory_tree.specs.Order.{each_reorders}
use Rattle.theory_tree.proofs.Demands.{any_order_seen}
use Rattle.theory_map.specs.Terms.{MapArguments, Asks, ShapedSound, MapPassed, Valid, RegionsApart, InTurn, none, next, InSpan}
use Rattle.theory_map.specs.Terms.{depth_of, root_in, map_pages_of}
use Rattle.theory_map.specs.Leaf.{root_fine}
use Rattle.theory_map.specs.Shown.{in_bytes, walk-shown}
use Rattle.theory_map.specs.Call.{given, call_passed, call_room, call-leaves}
use Rattle.theory_map.specs.Place.{span_spans}
use Rattle.theory_map.proofs.Place.{region_paged}
use Rattle.theory_map.specs.Order.{passes, turn_lawful, spare, room_turn}

module _ (h : Handle) where
  abbrev room_for : ℕ → List MapArguments → Tree → Type 0
  room_for n cs t = RoomFor (depth_of h) (root_in h) n (map map_pages_of cs) t

  -- ---- a list that is accepted

  turn_asks : {cs : List MapArguments} {s s' : St} → InTurn h cs s s' → Each (Asks h) cs
  turn_asks none = tt
  turn_asks (next maps rest) = ((call_passed maps).asks, turn_asks rest)

  turn_room : {cs : List MapArguments} {s s' : St} → ShapedSound h s → InTurn h cs s s' → room_for (tables s) cs (root_tree h s)
  turn_room law none = tt
  turn_room law (next {cs = cs} maps rest) = (
    omega (arith, call_room maps, spare law),
    subst₂ (λ (n : ℕ) (t : Tree). room_for n cs t) (call-leaves maps).size.same_tables (call-leaves maps).tree
        (turn_room (turn_lawful maps) rest),
  )

  turn_tree : {cs : List MapArguments} {s s' : St} → InTurn h cs s s'
      → root_tree h s' ≡ run (depth_of h) (root_in h) (map map_pages_of cs) (root_tree h s)
  unfolding run
  turn_tree none = refl
  turn_tree (next {cs = cs} maps rest) = turn_tree rest ∙ ap (run (depth_of h) (root_in h) (map map_pages_of cs)) (call-leaves maps).tree

  turn_sound : {cs : List MapArguments} {s s' : St} → ShapedSound h s → InTurn h cs s s' → ShapedSound h s'
  turn_sound law none = law
  turn_sound law (next maps rest) = turn_sound (turn_lawful maps) rest

  -- ---- in pages

  pages_apart : {c d : MapArguments} {s : St} → MapPassed h c s → MapPassed h d s → RegionsApart c d
      → ApartPages (map_pages_of c) (map_pages_of d)
  pages_apart one two apart page a b e f =
      let same : page * 4096 / 4096 ≡ page = omega arith in
      apart (page * 4096)
      ((region_paged one).address (page * 4096) (record { from = omega arith; below = omega arith }))
      ((region_paged two).address (page * 4096) (record { from = omega arith; below = omega arith }))

  module _ (s : St) (law : ShapedSound h s) where
    all_given : (cs : List MapArguments) → Each (Asks h) cs → Each Given (map map_pages_of cs)
    all_given [] asks = tt
    all_given (c ∷ cs) asks = (given (passes law asks.0), all_given cs asks.1)

    all_valid : (cs : List MapArguments) → Each (Asks h) cs → Each Valid cs → Each ValidMap (map map_pages_of cs)
    unfolding asked_map
    all_valid [] asks valid = tt
    all_valid (c ∷ cs) asks valid =
        (record { given = given (passes {c = c} law asks.0); valid = valid_of c.flags valid.0 }, all_valid cs asks.1 valid.1)

    all_apart : (c : MapArguments) (cs : List MapArguments) → Asks h c → Each (Asks h) cs → Each (RegionsApart c) cs
        → Each (ApartPages (map_pages_of c)) (map map_pages_of cs)
    all_apart c [] own asks apart = tt
    all_apart c (d ∷ cs) own asks apart =
        (pages_apart (passes law own) (passes law asks.0) apart.0, all_apart c cs own asks.1 apart.1)

    pairwise_pages : (cs : List MapArguments) → Each (Asks h) cs → Pairs RegionsApart cs → Pairwise (map map_pages_of cs)
    pairwise_pages [] asks apart = tt
    pairwise_pages (c ∷ cs) asks apart = (all_apart c cs asks.0 asks.1 apart.0, pairwise_pages cs asks.1 apart.1)

pub apart_flip : (c d : MapArguments) → RegionsApart c d → RegionsApart d c
apart_flip c d apart va at of = apart va of at

-- ---- in another order

module _ {h : Handle} {s : St} (law : ShapedSound h s) {cs ds : List MapArguments} (reorders : Reorders cs ds)
    (apart : Pairs RegionsApart cs) where
  fine : FineTable (depth_of h) (root_tree h s)
  fine = root_fine (shaped_placed law.shape) law.pool

  -- with VALID: accepted too,
  pub order_accepted : Each Valid cs → {s' : St} → InTurn h cs s s' → (t' : St) × InTurn h ds s t'
  order_accepted valid {s'} turn =
      let asks = turn_asks h turn in
      let in_use = used_tree law.shape law.pool in
      let sum = used-free s.ledger in
      room_turn h ds s law (each_reorders (Asks h) reorders asks)
      (room_reorders (depth_of h) (root_in h) (tables s) (Permᴰ.map map_pages_of reorders) (pairwise_pages h s law cs asks apart)
      (all_valid h s law cs asks valid) (root_tree h s) fine
      (omega arith) (turn_room h law turn))

  module _ {s' t' : St} (turn : InTurn h cs s s') (turn' : InTurn h ds s t') where
    -- with the same tree;
    pub order_tree : Each Valid cs → root_tree h s' ≡ root_tree h t'
    order_tree valid =
        let asks = turn_asks h turn in
        turn_tree h turn
        ∙ run_reorders (depth_of h) (root_in h) (Permᴰ.map map_pages_of reorders) (pairwise_pages h s law cs asks apart)
        (all_valid h s law cs asks valid) (root_tree h s) fine
        ∙ sym (turn_tree h turn')

    pub order_walks : Each Valid cs → (va : ℕ) → walk_of h s' va ≡ walk_of h t' va
    order_walks valid va =
        let one = turn_sound h law turn in
        let two = turn_sound h law turn' in
        walk_of_tree one.shape one.pool va
        ∙ ap (λ (t : Tree). says va (reached_at (walk_tree (slots_taken va) (suc (depth_of h)) t))) (order_tree valid)
        ∙ sym (walk_of_tree two.shape two.pool va)

    pub order_tables : Each Valid cs → used s'.ledger ≡ used t'.ledger
    order_tables valid =
        let one = turn_sound h law turn in
        let two = turn_sound h law turn' in
        used_tree one.shape one.pool ∙ ap nodes (order_tree valid) ∙ sym (used_tree two.shape two.pool)

    -- with and without VALID: the same shown
    pub order_shown : (va : ℕ) → InSpan h va → shown (walk_of h s' va) ≡ shown (walk_of h t' va)
    order_shown va at =
        let asks = turn_asks h turn in
        let one = turn_sound h law turn in
        let two = turn_sound h law turn' in
        walk-shown one.shape one.pool va
        ∙ ap (λ (t : Tree). in_bytes (seen (suc (depth_of h)) t (va / 4096))) (turn_tree h turn)
        ∙ ap in_bytes
        (any_order_seen (depth_of h) (root_in h) (root_tree h s) fine (map map_pages_of cs) (map map_pages_of ds)
        (Permᴰ.map map_pages_of reorders)
        (pairwise_pages h s law cs asks apart) (all_given h s law cs asks) (va / 4096) (span_spans h va law.shape.level at))
        ∙ ap (λ (t : Tree). in_bytes (seen (suc (depth_of h)) t (va / 4096))) (sym (turn_tree h turn'))
        ∙ sym (walk-shown two.shape two.pool va)
