-- Theorems about the definitions of specs/Demands.
use Rattle.std.specs.Prelude.{◌≡◌, true, false, cond, List, ◌↔◌, ℕ, suc, ◌+◌, ◌-◌, ◌≤◌}
use Rattle.std.proofs.Common.{sym, ap, ◌∙◌}
use mathlib.Core.List.Permᴰ
use Rattle.laws.specs.Test.{by_bool}
use Rattle.entry.specs.Word.{valid, edited}
use Rattle.theory_forest.specs.Tree.{Tree}
use Rattle.theory_forest.specs.Nodes.{nodes}
use Rattle.theory_tree.specs.Page.{In}
use Rattle.theory_tree.specs.Walk.{mapped, hole, walk, seen}
use Rattle.theory_tree.specs.Shown.{FineTable}
use Rattle.theory_tree.specs.Rules.{Map, Given}
use Rattle.theory_tree.specs.After.{covers, yes_covers, covers_yes, after_in, after-out, asked-valid, asked_hole}
use Rattle.theory_tree.specs.Commute.{Apart}
use Rattle.theory_tree.specs.Root.{map_tree, map_made, map_freed}
use Rattle.theory_tree.proofs.Root.{map-seen, map-count, valid_frees_none, map_commute}
use Rattle.theory_tree.specs.Order.{Reorders, Each, Pairwise, ValidMap, run, RoomFor, made_all, each_reorders, pairwise_reorders}
use Rattle.theory_tree.proofs.Order.{run_reorders, room_reorders, seen_reorders}
use Rattle.theory_tree.proofs.Order.{room_enough}
use Rattle.theory_tree.specs.Modify.{Modify, GivenModify, pages_of, changed, after_modify, modify_tree, modify_made}
use Rattle.theory_tree.proofs.Modify.{modify_seen}
use Rattle.theory_tree.proofs.Modify.{modify_count}
use Rattle.theory_tree.specs.Demands.{OfRegion}

module _ (depth r : ℕ) (t : Tree) (fine : FineTable depth t) where
  -- ---- DEMAND 2

  module _ (m : Map) (given : Given m) (page : ℕ) (spans : In (suc depth) r page) where
    -- after a VALID map each page of the region walks to its frame and flags;
    pub region-mapped : OfRegion m.from m.upto page → valid m.flags ≡ true
        → seen (suc depth) (map_tree depth r m t) page ≡ mapped m.flags (m.frame + (page - m.from))
    region-mapped p v =
        map-seen depth r m given t fine page spans ∙ after_in m page (seen (suc depth) t page) (yes_covers m page p.from p.below)
        ∙ asked-valid m page v

    -- without VALID the region's pages are holes with its flags;
    pub region_holes : OfRegion m.from m.upto page → valid m.flags ≡ false
        → seen (suc depth) (map_tree depth r m t) page ≡ hole m.flags
    region_holes p v =
        map-seen depth r m given t fine page spans ∙ after_in m page (seen (suc depth) t page) (yes_covers m page p.from p.below)
        ∙ asked_hole m page v

    -- every other page walks as before: kind of answer, frame, flags
    pub others_as_before : ¬ (OfRegion m.from m.upto page) → seen (suc depth) (map_tree depth r m t) page ≡ seen (suc depth) t page
    others_as_before other =
        map-seen depth r m given t fine page spans
        ∙ after-out m page (seen (suc depth) t page) (by_bool (covers m page)
        (λ c. let x = covers_yes m page c in absurd (other (record { from = x.0; below = x.1 })))
        (λ c. c))

  -- ---- DEMAND 3: two VALID maps that share no page

  module _ (m n : Map) (apart : Apart m n) (vm : valid m.flags ≡ true) (vn : valid n.flags ≡ true) where
    -- one tree in either order
    pub either_order : map_tree depth r n (map_tree depth r m t) ≡ map_tree depth r m (map_tree depth r n t)
    either_order = sym (map_commute depth r m n apart vm vn t fine)

  -- ---- Q-13: any list of maps whose regions share no page pairwise, in any order

  -- with VALID every reordering is accepted as a whole or none is, and the walk answers and tables in use agree
  pub record AnyOrder (k : ℕ) (ms ns : List Map) : Type 0 where
    pub accepted : RoomFor depth r k ms t ↔ RoomFor depth r k ns t
    pub answers : (page : ℕ) → walk (suc depth) (run depth r ms t) page ≡ walk (suc depth) (run depth r ns t) page
    pub tables : nodes (run depth r ms t) ≡ nodes (run depth r ns t)

  pub any_order : (k : ℕ) (ms ns : List Map) → Reorders ms ns → Pairwise ms → Each ValidMap ms → nodes t ≤ k → AnyOrder k ms ns
  any_order k ms ns reorders apart valid room =
      let same = run_reorders depth r reorders apart valid t fine in
      record {
        accepted = (
          room_reorders depth r k reorders apart valid t fine room,
          room_reorders depth r k (Permᴰ.symm reorders) (pairwise_reorders reorders apart)
              (each_reorders ValidMap reorders valid) t fine room,
        );
        answers = λ page. ap (λ (u : Tree). walk (suc depth) u page) same;
        tables = ap nodes same;
      }

  -- with and without VALID frame and flags agree in every order
  pub any_order_seen : (ms ns : List Map) → Reorders ms ns → Pairwise ms → Each Given ms → (page : ℕ) → In (suc depth) r page
      → seen (suc depth) (run depth r ms t) page ≡ seen (suc depth) (run depth r ns t) page
  any_order_seen ms ns reorders apart given page spans = seen_reorders depth r reorders apart given t fine page spans

  -- ---- MODIFY

  module _ (e : Modify) (given : GivenModify e) (page : ℕ) (spans : In (suc depth) r page) where
    -- a page of the region that was mapped keeps its frame, with the flags (flags or set) without clear, and is a hole where that clears
    -- VALID;
    pub modified : (f p : ℕ) → OfRegion e.from e.upto page → seen (suc depth) t page ≡ mapped f p
        → seen (suc depth) (modify_tree depth r e t) page
        ≡ cond (valid (edited e.set e.clear f)) (mapped (edited e.set e.clear f) p) (hole (edited e.set e.clear f))
    unfolding after_modify changed
    modified f p of old =
        modify_seen depth r e given t fine page spans
        ∙ rw (yes_covers (pages_of e) page of.from of.below, old)

    -- a hole of the region stays as it is;
    pub holes_stay : (f : ℕ) → OfRegion e.from e.upto page → seen (suc depth) t page ≡ hole f
        → seen (suc depth) (modify_tree depth r e t) page ≡ hole f
    unfolding after_modify changed
    holes_stay f of old = modify_seen depth r e given t fine page spans ∙ rw (yes_covers (pages_of e) page of.from of.below, old)

    -- every other page walks as before
    pub modify_others : ¬ (OfRegion e.from e.upto page) → seen (suc depth) (modify_tree depth r e t) page ≡ seen (suc depth) t page
    unfolding after_modify
    modify_others other =
        modify_seen depth r e given t fine page spans
        ∙ rw (by_bool {A = covers (pages_of e) page ≡ false} (covers (pages_of e) page)
        (λ c. let x = covers_yes (pages_of e) page c in absurd (other (record { from = x.0; below = x.1 })))
        (λ c. c))

-- ---- TABLES, of any tree

module _ (depth r : ℕ) (t : Tree) where
  -- tables after = tables before + made - freed; a VALID map frees none
  pub tables_after : (m : Map) → nodes (map_tree depth r m t) + map_freed depth r m t ≡ nodes t + map_made depth r m t
  tables_after m = map-count depth r m t

  pub valid_map_frees_none : (m : Map) → valid m.flags ≡ true → map_freed depth r m t ≡ 0
  valid_map_frees_none m v = valid_frees_none depth r m v t

  -- tables after = tables before + made: modify frees none
  pub modify_tables : (e : Modify) → nodes (modify_tree depth r e t) ≡ nodes t + modify_made depth r e t
  modify_tables e = modify_count depth r e t

  -- a list of maps whose new tables are all free at entry is not refused 9 (Q-13, with and without VALID)
  pub enough_room : (k : ℕ) (ms : List Map) → nodes t + made_all depth r ms t ≤ k → RoomFor depth r k ms t
  enough_room k ms room = room_enough depth r k ms t room
