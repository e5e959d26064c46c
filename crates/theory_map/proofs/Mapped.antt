-- Theorems about the definitions of specs/Mapped.
use Rattle.std.specs.Prelude.{◌≡◌, refl, List, [], ◌∷◌, ℕ, ◌+◌, ◌/◌, ◌%◌}
use Rattle.std.proofs.Common.{sym, ◌∙◌, arith}
use Rattle.std.proofs.Math.Path.{ap}
use mathlib.Core.List.Permᴰ
use Rattle.entry.specs.Word.{valid_of, valid_none}
use Rattle.pool.specs.State.{St}
use Rattle.pool.specs.Number.{used}
use Rattle.pool.specs.declared.Handle.{Handle}
use Rattle.map_count_spec.specs.Needed.{needed}
use Rattle.map_verify.specs.Verify.{asked_map}
use Rattle.theory_sound.specs.Codec.{shaped_placed, root_tree}
use Rattle.theory_sound.proofs.Hanging.{used_tree}
use Rattle.theory_sound.proofs.Step.{leaves-used}
use Rattle.theory_walk.specs.AsBefore.{walk_of, mapped, hole, shown}
use Rattle.theory_tree.specs.Shown.{FineTable}
use Rattle.theory_tree.specs.Order.{Reorders, Each, Pairs, each_reorders, pairs_reorders}
use Rattle.theory_tree.proofs.Demands.{region-mapped, region_holes, others_as_before, tables_after}
use Rattle.theory_map.specs.Terms.{MapArguments, Maps, map_asked, ShapedSound, MapPassed, InMapRegion, frame_for}
use Rattle.theory_map.specs.Terms.{Valid, RegionsApart, InTurn, next, InSpan, depth_of, root_in, map_pages_of}
use Rattle.theory_map.specs.Terms.{made_by, freed_by}
use Rattle.theory_map.specs.Leaf.{root_fine}
use Rattle.theory_map.specs.Shown.{in_bytes, walk-shown, leaves-shown}
use Rattle.theory_map.specs.Call.{given, needed-made, call_passed}
use Rattle.theory_map.specs.Call.{call-count, call-leaves}
use Rattle.theory_map.specs.Place.{span_spans}
use Rattle.theory_map.proofs.Place.{region_paged, frame_is}
use Rattle.theory_map.proofs.Order.{apart_flip, order_accepted, order_walks, order_tables, order_shown}
use Rattle.theory_map.specs.Mapped.{EitherOrder}

-- ---- DEMAND 2

module _ {h : Handle} {c : MapArguments} {s s' : St} {n : ℕ} (maps : Maps h c s n s') where
  passed : MapPassed h c s
  passed = call_passed maps

  fine : FineTable (depth_of h) (root_tree h s)
  fine = root_fine (shaped_placed passed.shape) passed.pool

  module _ (va : ℕ) where
    -- each page of the region walks to its frame and flags;
    pub map_region_walks : InMapRegion c va → Valid c → shown (walk_of h s' va) ≡ mapped c.flags (frame_for c va)
    unfolding asked_map in_bytes
    map_region_walks at v =
        leaves-shown (call-leaves maps) va
        (region-mapped (depth_of h) (root_in h) (root_tree h s) fine (map_pages_of c) (given passed) (va / 4096)
        ((region_paged passed).spans va at) ((region_paged passed).page va at) (valid_of c.flags v))
        ∙ ap (mapped c.flags) (frame_is passed va at)

    -- without VALID each page of the region is a hole with the call's flags;
    pub map_region_holes : InMapRegion c va → c.flags % 2 ≡ 0 → shown (walk_of h s' va) ≡ hole c.flags
    unfolding asked_map in_bytes
    map_region_holes at v =
        leaves-shown (call-leaves maps) va
        (region_holes (depth_of h) (root_in h) (root_tree h s) fine (map_pages_of c) (given passed) (va / 4096)
        ((region_paged passed).spans va at) ((region_paged passed).page va at) (valid_none c.flags v))

    -- every other address of the span walks as before;
    pub map_elsewhere_as_before : InSpan h va → ¬ (InMapRegion c va) → shown (walk_of h s' va) ≡ shown (walk_of h s va)
    map_elsewhere_as_before at other =
        leaves-shown (call-leaves maps) va
        (others_as_before (depth_of h) (root_in h) (root_tree h s) fine (map_pages_of c) (given passed) (va / 4096)
        (span_spans h va passed.shape.level at) (λ of. other ((region_paged passed).address va of)))
        ∙ sym (walk-shown passed.shape passed.pool va)

  -- the answer is the tables in use afterwards: those before, with those made, less those freed
  pub map_tables_in_use : (n ≡ used s'.ledger) × (used s'.ledger + freed_by h c s ≡ used s.ledger + made_by h c s)
  map_tables_in_use =
      let before = used_tree passed.shape passed.pool in
      let after = leaves-used (call-leaves maps) in
      let count = tables_after (depth_of h) (root_in h) (root_tree h s) (map_pages_of c) in
      (call-count maps, omega arith)

-- ---- REFUSAL 9

module _ (h : Handle) (c : MapArguments) (s : St) where
  -- the count by the rules is what the map makes;
  pub map-needed-made : MapPassed h c s → needed (depth_of h) h s 0 (map_asked c) ≡ made_by h c s
  map-needed-made passed = needed-made passed

-- any number of VALID calls, in any order (Q-13), in a pool that refusals 1 and 8 leave
pub maps_any_order : (h : Handle) (cs ds : List MapArguments) (s : St) → ShapedSound h s → Reorders cs ds → Pairs RegionsApart cs
    → Each Valid cs → EitherOrder h cs ds s
maps_any_order h cs ds s law reorders apart valid = record {
  accepted = (
    λ at. order_accepted law reorders apart valid at.1,
    λ at. order_accepted law (Permᴰ.symm reorders) (pairs_reorders RegionsApart apart_flip reorders apart)
        (each_reorders Valid reorders valid) at.1,
  );
  walks = λ s' t' turn turn'. order_walks law reorders apart turn turn' valid;
  tables = λ s' t' turn turn'. order_tables law reorders apart turn turn' valid;
}

-- two VALID calls, whatever the pool
pub maps_commute : (h : Handle) (c d : MapArguments) (s : St) → RegionsApart c d → Valid c → Valid d
    → EitherOrder h (c ∷ d ∷ []) (d ∷ c ∷ []) s
maps_commute h c d s apart vc vd = record {
  accepted = (λ at. (both (law at.1)).accepted.0 at, λ at. (both (law at.1)).accepted.1 at);
  walks = λ s' t' turn turn'. (both (law turn)).walks s' t' turn turn';
  tables = λ s' t' turn turn'. (both (law turn)).tables s' t' turn turn';
}
  where
    law : {e : MapArguments} {es : List MapArguments} {s' : St} → InTurn h (e ∷ es) s s' → ShapedSound h s
    law (next maps rest) = let passed = call_passed maps in record { shape = passed.shape; pool = passed.pool }

    both : ShapedSound h s → EitherOrder h (c ∷ d ∷ []) (d ∷ c ∷ []) s
    both l = maps_any_order h (c ∷ d ∷ []) (d ∷ c ∷ []) s l (Permᴰ.swap refl refl) ((apart, tt), (tt, tt)) (vc, (vd, tt))

-- ---- with and without VALID (Q-13)

module _ (h : Handle) (cs : List MapArguments) (s : St) (law : ShapedSound h s) where
  -- where all are accepted in two orders, every address of the span shows the same kind of answer, frame and flags
  pub maps_any_order_shown : (ds : List MapArguments) (s' t' : St) → Reorders cs ds → Pairs RegionsApart cs → InTurn h cs s s'
      → InTurn h ds s t' → (va : ℕ) → InSpan h va
      → shown (walk_of h s' va) ≡ shown (walk_of h t' va)
  maps_any_order_shown ds s' t' reorders apart turn turn' va at = order_shown law reorders apart turn turn' va at
