-- Theorems about the definitions of specs/Listed.
use Rattle.std.specs.Prelude.{◌≡◌, false, ◌⊎◌, ◌≢◌, eqb}
use Rattle.std.proofs.Math.Path.{refl, sym, ap, subst}
use Rattle.std.proofs.Common.{ap₂, subst₂, ◌∙◌, inl, inr, eq-eqb, ne_eqb}
use Rattle.std.proofs.Math.Bool.{true}
use mathlib.Core.List.{List, [], ◌∷◌, ◌++◌}
use Prim.Native.Nat.{ℕ, zero, suc, ◌+◌, ◌*◌, ◌-◌, ◌/◌, ◌%◌, ◌^◌, ◌≤◌, ◌<◌}
use Rattle.std.proofs.Math.Nat.{mod-one}
use native.Mathlib.Omega.{arith}
use Rattle.std.proofs.Math.Dec.{eqb→eq}
use Rattle.laws.specs.Size.{size_at}
use Rattle.laws.specs.Test.{by_bool, eq_or, le_or, and_l}
use Rattle.entry.specs.Word.{valid, plain_flags, Plain, edited}
use Rattle.address_slot.specs.Slot.{entry_index}
use Rattle.region.specs.Region.{region, whole}
use Rattle.region.specs.Chunks.{chunks, Tiles, none, more, chunks_tile}
use Rattle.region.specs.declared.MemoryRegion.{MemoryRegion}
use Rattle.map_rules.specs.declared.Map.{Map}
use Rattle.map_rules.specs.Rules.{chunk_map}
use Rattle.theory_forest.specs.Tree.{Tree, leaf, node, node_ext}
use Rattle.theory_forest.specs.Walk.{walk_tree}
use Rattle.theory_tree.specs.Page.{pages_in, span-zero, child, slot_of_page, slot_lt, In, in_of, in_rest, entry_rest}
use Rattle.theory_tree.specs.Word.{frame_in}
use Rattle.theory_tree.specs.Edit.{edited_frame, edited-bit, edited_plain}
use Rattle.theory_tree.specs.Fine.{Fine}
use Rattle.theory_tree.specs.Walk.{mapped, hole, seen_in, seen, seen_leaf, seen_node, seen_fine}
use Rattle.theory_tree.proofs.Walk.{fill_seen}
use Rattle.theory_tree.specs.Shown.{FineTree}
use Rattle.theory_tree.proofs.Shown.{fine_fill_slots}
use Rattle.theory_tree.specs.Visit.{opened, obey}
use Rattle.theory_tree.proofs.Visit.{opens_leaf, opens_node}
use Rattle.theory_tree.specs.Slots.{fill_slot}
use Rattle.theory_tree.proofs.Slots.{fill_node, fill_slot_lem}
use Rattle.theory_tree.specs.Chunks.{at_slot, sweep, chunked, chunked_table, index_slot}
use Rattle.theory_tree.specs.Needed.{slot_tree}
use Rattle.theory_tree.specs.Modify.{edit_rule}
use Rattle.theory_tree.specs.DocumentModify.{document_modify}
use Rattle.theory_map.specs.Stand.{Piece}
use Rattle.theory_map.specs.Pieces.{Area, slot_at, Pieces, pieces}
use Rattle.theory_modify.specs.Numbers.{gathered, changed_number, own_numbers, lower_numbers, table_numbers, occurs, first_page}
use Rattle.theory_modify.specs.Gathered.{number-changed, number_same, number_hole, own_on, own_here, lower-own}
use Rattle.theory_modify.specs.Gathered.{lower_on, leaf_page}
use Rattle.theory_modify.specs.Gathered.{at_slot_lem, in_node, at_node, at_others, gathered-from, sweep_before}
use Rattle.theory_modify.specs.Once.{occurs-append, pages_below, Few}
use Rattle.theory_modify.proofs.Once.{nil_occurs, piece_some, gathered_few, page_few, entry_few}
use Rattle.theory_modify.specs.Once.{occurs_both}
use Rattle.theory_modify.proofs.Once.{table_few}
use Rattle.theory_modify.specs.Listed.{slot_in_lem, changes}

first_leaf : (depth w y : ℕ) → first_page depth (leaf w) y ≡ y - y % pages_in depth
unfolding first_page walk_tree
first_leaf zero w y = refl
first_leaf (suc depth) w y = refl

first_node : (depth : ℕ) (f : ℕ → Tree) (y : ℕ) → first_page (suc depth) (node f) y ≡ first_page depth (f (slot_of_page y depth)) y
unfolding first_page walk_tree
first_node depth f y = refl

first_le : (depth : ℕ) (t : Tree) (y : ℕ) → first_page depth t y ≤ y
unfolding first_page
first_le depth t y = omega arith

-- a word from its parts
low_two : (x : ℕ) → x % 4 ≡ x % 2 + x / 2 % 2 * 2
low_two x = omega arith

low_four : (x : ℕ) → x ≡ x % 4 + x / 4 * 4
low_four x = omega arith

low_rest : (w : ℕ) → w % 4096 / 4 ≡ w / 4 % 1024
low_rest w = omega arith

low_same : (w : ℕ) → w % 4096 % 4 ≡ w % 4
low_same w = omega arith

high_rest : (w : ℕ) → w / 2 ^ 48 ≡ w / 4096 / 2 ^ 36
high_rest w = omega arith

parts : (w : ℕ) → plain_flags w + w / 2 % 2 * 2 + frame_in w * 4096 ≡ w
unfolding plain_flags frame_in
parts w = omega (arith, low_two w, low_four (w % 4096), low_rest w, low_same w, high_rest w)

-- a table stays a table
sweep_node : (depth : ℕ) (f : MemoryRegion → ℕ → Tree → Tree) (cs : List MemoryRegion) (p : ℕ) (v : ℕ → Tree)
    → sweep depth f cs p (node v) ≡ node (λ j. slot_tree (sweep depth f cs p (node v)) j)
unfolding sweep
sweep_node depth f [] p v = node_ext (λ j. sym (in_node v j))
sweep_node depth f (c ∷ cs) p v =
    let i : ℕ = entry_index (3 - depth) c.start.0 in
    let w : ℕ → Tree = λ j. slot_tree (at_slot i (f c p) (node v)) j in
    let p' : ℕ = p + (c.end.0 - c.start.0) in
    subst (λ (t : Tree). sweep depth f cs p' t ≡ node (λ j. slot_tree (sweep depth f cs p' t) j)) (sym (at_node i (f c p) v))
    (sweep_node depth f cs p' w)

module _ (set clear : ℕ) where
  first_edit : (depth w : ℕ) (t : Tree) (y : ℕ) → first_page depth (obey (edit_rule set clear w) (leaf w) t) y ≡ y - y % pages_in depth
  unfolding edit_rule obey
  first_edit depth w t y = by_bool (valid w) (λ e. rw e (first_leaf depth (edited set clear w) y)) (λ e. rw e (first_leaf depth w y))

  chunked_page : (c : MemoryRegion) (p w : ℕ)
      → chunked (document_modify set clear) 0 c p (leaf w) ≡ obey (edit_rule set clear w) (leaf w) (leaf w)
  unfolding chunked document_modify
  chunked_page c p w = refl

  module _ (depth : ℕ) (c : MemoryRegion) (p : ℕ) where
    abbrev below : Tree → Tree
    below t = chunked_table (document_modify set clear) depth c p (opened depth t)

    chunked-whole : (w : ℕ) → whole (3 - suc depth) c ≡ true
        → chunked (document_modify set clear) (suc depth) c p (leaf w) ≡ obey (edit_rule set clear w) (leaf w) (below (leaf w))
    unfolding chunked chunked_table document_modify
    chunked-whole w e = rw e

    chunked_part : (w : ℕ) → whole (3 - suc depth) c ≡ false → chunked (document_modify set clear) (suc depth) c p (leaf w) ≡ below (leaf w)
    unfolding chunked chunked_table document_modify obey
    chunked_part w e = rw e

    chunked-into : (f : ℕ → Tree) → chunked (document_modify set clear) (suc depth) c p (node f) ≡ below (node f)
    unfolding chunked chunked_table document_modify obey
    chunked-into f = refl

  module _ (S : Plain set) (C : Plain clear) where
    -- the word changes exactly if its flags do
    plain_same : (w : ℕ) → w < 2 ^ 64 → edited set clear (plain_flags w) ≡ plain_flags w → edited set clear w ≡ w
    plain_same w wide e =
        let a = edited_plain set clear S C w wide in
        let b = edited-bit set clear S C w wide in
        let f = edited_frame set clear S C w wide in
        let x = parts w in
        let z = parts (edited set clear w) in
        omega arith

    seen-valid : (depth w y : ℕ) → Fine depth w → valid w ≡ true
        → seen_in depth w y ≡ mapped (plain_flags w) (frame_in w + y % pages_in depth)
    seen-valid depth w y fine v = seen_fine depth w y fine ∙ rw v

    seen_none : (depth w y : ℕ) → Fine depth w → valid w ≡ false → seen_in depth w y ≡ hole (plain_flags w)
    seen_none depth w y fine v = seen_fine depth w y fine ∙ rw v

    changed-count : (depth : ℕ) (c : MemoryRegion) (w y x : ℕ) → Fine depth w → x ≡ c.start.0 / 4096 % 2 ^ 44
        → occurs x (changed_number set clear c w) ≡ changes set clear (seen_in depth w y)
    unfolding changes occurs
    changed-count depth c w y x fine is = by_bool (valid w)
        (λ v. go v (eq_or (edited set clear w) w))
        (λ v. ap (occurs x) (number_hole set clear c w v) ∙ sym (ap (changes set clear) (seen_none depth w y fine v)))
      where
        go : valid w ≡ true → (edited set clear w ≡ w) ⊎ (edited set clear w ≢ w)
            → occurs x (changed_number set clear c w) ≡ changes set clear (seen_in depth w y)
        go v (inl same) =
            let e : edited set clear (plain_flags w) ≡ plain_flags w = sym (edited_plain set clear S C w fine.wide) ∙ ap plain_flags same in
            ap (occurs x) (number_same set clear c w v same)
            ∙ sym (ap (changes set clear) (seen-valid depth w y fine v) ∙ rw (eq-eqb (edited set clear (plain_flags w)) (plain_flags w) e))
        go v (inr other) =
            ap (occurs x) (number-changed set clear c w v other) ∙ rw (eq-eqb x (c.start.0 / 4096 % 2 ^ 44) is)
            (sym
            (ap (changes set clear) (seen-valid depth w y fine v)
            ∙ rw (ne_eqb (edited set clear (plain_flags w)) (plain_flags w) (λ e. other (plain_same w fine.wide e)))))

    -- ---- a chunk, and a table

    abbrev entry_numbers : ℕ → MemoryRegion → Tree → List ℕ
    entry_numbers zero c u = own_numbers set clear 0 c u
    entry_numbers (suc depth) c u =
        lower_numbers set clear (λ d v. table_numbers set clear depth d v) depth c u ++ own_numbers set clear (suc depth) c u

    module _ (y : ℕ) where
      abbrev after : ℕ → MemoryRegion → ℕ → Tree → Tree
      after depth c p u = chunked (document_modify set clear) depth c p u

      -- what is listed for page y by the numbers xs, where its entry showed t and shows u
      record Tells (depth s : ℕ) (u t : Tree) (xs : List ℕ) : Type 0 where
        from : s / 4096 ≤ first_page depth u y
        count : occurs (first_page depth u y % 2 ^ 44) xs ≡ changes set clear (seen depth t y)

      abbrev EachTells : ℕ → Type 0
      EachTells depth = (q : ℕ) (m : Map) (c : MemoryRegion) (p : ℕ) (u : Tree) → Piece depth q (chunk_map m c p) → FineTree depth u
          → c.start.0 / 4096 ≤ y → y < c.end.0 / 4096 → Tells depth c.start.0 (after depth c p u) u (entry_numbers depth c u)

      piece_in : {depth q : ℕ} {m : Map} → Piece depth q m → m.region.start.0 / 4096 ≤ y → y < m.region.end.0 / 4096 → In depth q y
      piece_in {depth} {q} piece l u = in_of depth q y (omega (arith, piece.inside.low)) (omega (arith, piece.inside.high))

      -- the chunks of a table
      module _ (depth q : ℕ) (m : Map) (low : depth ≤ 3) (tells : EachTells depth)
          (few : (x : ℕ) (c : MemoryRegion) (p : ℕ) (u : Tree) → Piece depth (child q (slot_at depth c)) (chunk_map m c p)
          → Few x c (occurs x (entry_numbers depth c u))) where
        record TableTells (a s : ℕ) (u t : Tree) (xs : List ℕ) : Type 0 where
          slot : a ≤ slot_of_page y depth
          tell : Tells depth s (slot_tree u (slot_of_page y depth)) (slot_tree t (slot_of_page y depth)) xs

        outside_first : (x s z e y0 n : ℕ) → x ≡ y0 % 2 ^ 44 → y0 < z → z ≤ e → e ≤ y0 + 2 ^ 44 → n + pages_below x z ≤ pages_below x e
            → n ≡ 0
        outside_first x s z e y0 n is l k r f = omega arith

        outside_last : (x s z y0 n : ℕ) → x ≡ y0 % 2 ^ 44 → z ≤ y0 → s ≤ z → y0 < s + 2 ^ 44 → n + pages_below x s ≤ pages_below x z → n ≡ 0
        outside_last x s z y0 n is l k r f = omega arith

        table_tells : {level e s : ℕ} {cs : List MemoryRegion} → Tiles level e s cs → (a p : ℕ) → Pieces depth q m a p cs → (v : ℕ → Tree)
            → ((j : ℕ) → a ≤ j → j < 512 → FineTree depth (v j)) → s / 4096 ≤ y → y < e / 4096 → e / 4096 ≤ s / 4096 + 2 ^ 36 → s ≤ e
            → TableTells a s (sweep depth (after depth) cs p (node v)) (node v) (gathered depth (entry_numbers depth) cs (node v))
        unfolding sweep gathered
        table_tells (none l) a p all v fine above under long some = absurd (omega arith)
        table_tells {e = e} (more {s = s} {m = z} {l = cs} lo hi fits rest) a p all v fine above under long some =
            go (le_or (z / 4096) y) (λ l. table_tells rest (suc (slot_at depth c)) p' all.1 v' fine' l under (omega arith) hi)
          where
            c : MemoryRegion
            c = region s z

            i : ℕ
            i = entry_index (3 - depth) s

            p' : ℕ
            p' = p + (z - s)

            index : i ≡ slot_at depth c
            index = index_slot depth s low

            v' : ℕ → Tree
            v' j = slot_tree (at_slot i (after depth c p) (node v)) j

            fine' : (j : ℕ) → suc (slot_at depth c) ≤ j → j < 512 → FineTree depth (v' j)
            fine' j k b =
                subst (FineTree depth) (sym (at_others i j (after depth c p) (node v) (λ q. omega (arith, index)) ∙ in_node v j))
                (fine j (omega (arith, all.0.from)) b)

            rest_few : (x : ℕ)
                → occurs x (gathered depth (entry_numbers depth) cs (node v)) + pages_below x (z / 4096) ≤ pages_below x (e / 4096)
            rest_few x = gathered_few set clear x depth q m (entry_numbers depth) (node v) (few x) rest (suc (slot_at depth c)) p' all.1 hi

            go : (z / 4096 ≤ y) ⊎ (y < z / 4096)
                → (z / 4096 ≤ y
                → TableTells (suc (slot_at depth c)) z (sweep depth (after depth) cs p' (node v')) (node v')
                (gathered depth (entry_numbers depth) cs (node v')))
                → TableTells a s (sweep depth (after depth) cs p' (at_slot i (after depth c p) (node v))) (node v)
                (entry_numbers depth c (slot_tree (node v) i) ++ gathered depth (entry_numbers depth) cs (node v))
            go (inr l) later =
                let place = index in
                let at : slot_of_page y depth ≡ slot_at depth c =
                slot_in_lem depth q (slot_at depth c) y (slot_lt (s / 4096) depth) (piece_in all.0.piece above l) in
                let same : slot_of_page y depth ≡ i = at ∙ sym index in
                let T = tells (child q (slot_at depth c)) m c p (v i) all.0.piece
                (fine i (omega (arith, all.0.from)) (omega (arith, slot_lt (s / 4096) depth))) above l in
                let new : slot_tree (sweep depth (after depth) cs p' (at_slot i (after depth c p) (node v))) (slot_of_page y depth)
                ≡ after depth c p (v i) =
                ap (slot_tree (sweep depth (after depth) cs p' (at_slot i (after depth c p) (node v)))) same
                ∙ sweep_before depth q m low (after depth) cs (suc (slot_at depth c)) p' i (at_slot i (after depth c p) (node v)) all.1
                (omega arith)
                ∙ at_slot_lem i (after depth c p) v in
                let old : slot_tree (node v) (slot_of_page y depth) ≡ v i = ap (slot_tree (node v)) same ∙ in_node v i in
                let x : ℕ = first_page depth (after depth c p (v i)) y % 2 ^ 44 in
                let below = first_le depth (after depth c p (v i)) y in
                let f = T.from in
                let zero_rest = outside_first x s (z / 4096) (e / 4096) (first_page depth (after depth c p (v i)) y)
                (occurs x (gathered depth (entry_numbers depth) cs (node v))) refl
                (omega arith) (omega arith) (omega arith) (rest_few x) in
                record {
                  slot = omega (arith, all.0.from);
                  tell =
                      subst₂
                      (λ (u t : Tree). Tells depth s u t
                      (entry_numbers depth c (slot_tree (node v) i) ++ gathered depth (entry_numbers depth) cs (node v)))
                      (sym new) (sym old)
                      (record {
                        from = f;
                        count =
                            occurs-append x (entry_numbers depth c (slot_tree (node v) i)) (gathered depth (entry_numbers depth) cs (node v))
                            ∙ ap₂ ◌+◌ (ap (λ (t : Tree). occurs x (entry_numbers depth c t)) (in_node v i) ∙ T.count) zero_rest
                            ∙ (let n : changes set clear (seen depth (v i) y) + 0
                            ≡ changes set clear (seen depth (v i) y) = omega arith in n);
                      });
                }
            go (inl l) later =
                let place = index in
                let IH = later l in
                let tree = at_node i (after depth c p) v in
                let σ : ℕ = slot_of_page y depth in
                let deep = IH.slot in
                let same : slot_tree (node v') σ ≡ slot_tree (node v) σ =
                ap (λ (t : Tree). slot_tree t σ) (sym tree) ∙ at_others i σ (after depth c p) (node v) (λ q. omega arith) in
                let numbers : gathered depth (entry_numbers depth) cs (node v') ≡ gathered depth (entry_numbers depth) cs (node v) =
                ap (gathered depth (entry_numbers depth) cs) (sym tree)
                ∙ gathered-from depth q m low (entry_numbers depth) cs (suc (slot_at depth c)) p' (at_slot i (after depth c p) (node v))
                (node v) all.1
                (λ j k. at_others i j (after depth c p) (node v) (λ q. omega arith)) in
                let u : Tree = slot_tree (sweep depth (after depth) cs p' (node v')) σ in
                let x : ℕ = first_page depth u y % 2 ^ 44 in
                let f = IH.tell.from in
                let below = first_le depth u y in
                let zero-here = outside_last x (s / 4096) (z / 4096) (first_page depth u y)
                (occurs x (entry_numbers depth c (slot_tree (node v) i))) refl f (omega arith) (omega arith)
                (few x c p (slot_tree (node v) i) all.0.piece) in
                record {
                  slot = omega (arith, all.0.from);
                  tell =
                      subst (λ (t : Tree). Tells depth s (slot_tree (sweep depth (after depth) cs p' t) σ) (slot_tree (node v) σ)
                      (entry_numbers depth c (slot_tree (node v) i) ++ gathered depth (entry_numbers depth) cs (node v))) (sym tree)
                      (record {
                        from = omega arith;
                        count =
                            occurs-append x (entry_numbers depth c (slot_tree (node v) i)) (gathered depth (entry_numbers depth) cs (node v))
                            ∙ ap₂ ◌+◌ zero-here
                            (ap (occurs x) (sym numbers) ∙ IH.tell.count ∙ ap (λ (t : Tree). (changes set clear) (seen depth t y)) same)
                            ∙ (let n : 0 + changes set clear (seen depth (slot_tree (node v) σ) y)
                            ≡ changes set clear (seen depth (slot_tree (node v) σ) y) = omega arith in
                            n);
                      });
                }

      few_all : (depth : ℕ) → depth ≤ 3 → (x q : ℕ) (m : Map) (c : MemoryRegion) (p : ℕ) (u : Tree) → Piece depth q (chunk_map m c p)
          → Few x c (occurs x (entry_numbers depth c u))
      few_all zero low x q m c p u piece = page_few set clear x c u (piece_some set clear x piece)
      few_all (suc depth) low x q m c p u piece = entry_few set clear x depth q p m c (table_few set clear x depth (omega arith)) piece u

      numbers_are : (depth : ℕ) (x : ℕ) (c : MemoryRegion) (t : Tree)
          → occurs x (table_numbers set clear depth c t)
          ≡ occurs x (gathered depth (entry_numbers depth) (chunks (3 - depth) c.start.0 c.end.0) t)
      unfolding table_numbers
      numbers_are zero x c t = refl
      numbers_are (suc depth) x c t =
          let cs : List MemoryRegion = chunks (3 - suc depth) c.start.0 c.end.0 in
          let lower : MemoryRegion → Tree → List ℕ = lower_numbers set clear (λ d v. table_numbers set clear depth d v) depth in
          occurs-append x (gathered (suc depth) lower cs t) (gathered (suc depth) (own_numbers set clear (suc depth)) cs t)
          ∙ sym (occurs_both x (suc depth) lower (own_numbers set clear (suc depth)) cs t)

      -- a table's region
      whole_tells : (depth q : ℕ) (m : Map) (v : ℕ → Tree) → depth ≤ 3 → EachTells depth → Area depth q m
          → ((j : ℕ) → j < 512 → FineTree depth (v j))
          → m.region.start.0 ≤ m.region.end.0 → m.region.start.0 / 4096 ≤ y → y < m.region.end.0 / 4096
          → Tells (suc depth) m.region.start.0 (chunked_table (document_modify set clear) depth m.region m.frame.0 (node v))
          (node v)
          (table_numbers set clear depth m.region (node v))
      unfolding chunked_table
      whole_tells depth q m v low tells area fine some above under =
          let cs : List MemoryRegion = chunks (3 - depth) m.region.start.0 m.region.end.0 in
          let T = table_tells depth q m low tells (λ x c p u piece. few_all depth low x (child q (slot_at depth c)) m c p u piece)
          (chunks_tile (3 - depth) m.region.start.0 m.region.end.0) 0 m.frame.0
          (pieces depth q m low m.frame.0 m.region (record { inside = area.inside; room = area.room })) v
          (λ j k b. fine j b) above under (omega (arith, area.room)) some in
          let U : Tree = sweep depth (after depth) cs m.frame.0 (node v) in
          let σ : ℕ = slot_of_page y depth in
          let same : first_page (suc depth) U y ≡ first_page depth (slot_tree U σ) y =
          ap (λ (t : Tree). first_page (suc depth) t y) (sweep_node depth (after depth) cs m.frame.0 v)
          ∙ first_node depth (λ j. slot_tree U j) y in
          record {
            from = subst (λ (n : ℕ). m.region.start.0 / 4096 ≤ n) (sym same) T.tell.from;
            count = ap (λ (n : ℕ). occurs (n % 2 ^ 44) (table_numbers set clear depth m.region (node v))) same
                ∙ numbers_are depth (first_page depth (slot_tree U σ) y % 2 ^ 44) m.region (node v) ∙ T.tell.count
                ∙ ap (changes set clear) (ap (λ (t : Tree). seen depth t y) (in_node v σ) ∙ sym (seen_node depth v y));
          }

      page_tells : EachTells 0
      page_tells q m c p (node f) piece fine above under = absurd fine
      page_tells q m c p (leaf w) piece fine above under =
          let one = ap (λ (n : ℕ). y % n) span-zero ∙ mod-one y in
          let z = span-zero in
          let start : c.start.0 / 4096 ≡ y = omega (arith, piece.inside.low, piece.inside.high) in
          let here : first_page 0 (after 0 c p (leaf w)) y ≡ y =
          ap (λ (t : Tree). first_page 0 t y) (chunked_page c p w) ∙ first_edit 0 w (leaf w) y
          ∙ (let k : y - y % pages_in 0 ≡ y = omega arith in k) in
          record {
            from = omega arith;
            count =
                ap (occurs (first_page 0 (after 0 c p (leaf w)) y % 2 ^ 44))
                (sym (leaf_page set clear c (leaf w)))
                ∙ changed-count 0 c w y _ fine (ap (λ (n : ℕ). n % 2 ^ 44) (here ∙ sym start))
                ∙ ap (changes set clear) (sym (seen_leaf 0 w y));
          }

      -- an entry that is covered as a whole
      entry_whole : (depth q p w : ℕ) (c : MemoryRegion) (m : Map) → suc depth ≤ 3 → Piece (suc depth) q (chunk_map m c p)
          → Fine (suc depth) w → c.start.0 / 4096 ≤ y
          → y < c.end.0 / 4096
          → whole (3 - suc depth) c ≡ true
          → Tells (suc depth) c.start.0 (after (suc depth) c p (leaf w)) (leaf w) (entry_numbers (suc depth) c (leaf w))
      unfolding whole
      entry_whole depth q p w c m low piece fine above under all =
          let begins : c.start.0 % size_at (3 - suc depth) ≡ 0 =
          eqb→eq (c.start.0 % size_at (3 - suc depth)) 0
          (and_l (eqb (c.start.0 % size_at (3 - suc depth)) 0) (eqb (c.end.0 % size_at (3 - suc depth)) 0) (rw all tt)) in
          let rest = entry_rest (suc depth) c.start.0 low piece.inside.start_page in
          let mine = in_rest (suc depth) q y (piece_in piece above under) in
          let its = in_rest (suc depth) q (c.start.0 / 4096)
          (in_of (suc depth) q (c.start.0 / 4096) piece.inside.low (omega (arith, piece.inside.high))) in
          let here : first_page (suc depth) (after (suc depth) c p (leaf w)) y ≡ c.start.0 / 4096 =
          ap (λ (t : Tree). first_page (suc depth) t y) (chunked-whole depth c p w all) ∙ first_edit (suc depth) w _ y
          ∙ (let k : y - y % pages_in (suc depth) ≡ c.start.0 / 4096 = omega arith in k) in
          record {
            from = omega arith;
            count = ap (occurs (first_page (suc depth) (after (suc depth) c p (leaf w)) y % 2 ^ 44))
                (ap₂ (λ (a b : List ℕ). a ++ b) (lower-own set clear (λ d v. table_numbers set clear depth d v) depth c (leaf w) all)
                (own_here set clear depth c (leaf w) all))
                ∙ changed-count (suc depth) c w y _ fine (ap (λ (n : ℕ). n % 2 ^ 44) here)
                ∙ ap (changes set clear) (sym (seen_leaf (suc depth) w y));
          }

      -- an entry that goes down
      goes_tells : (depth q p : ℕ) (c : MemoryRegion) (m : Map) (u : Tree) (v : ℕ → Tree) → suc depth ≤ 3 → EachTells depth
          → Piece (suc depth) q (chunk_map m c p)
          → ((j : ℕ) → j < 512 → FineTree depth (v j)) → c.start.0 / 4096 ≤ y → y < c.end.0 / 4096 → opened depth u ≡ node v
          → after (suc depth) c p u ≡ below depth c p u
          → lower_numbers set clear (λ d t. table_numbers set clear depth d t) depth c u ≡ table_numbers set clear depth c (opened depth u)
          → own_numbers set clear (suc depth) c u ≡ []
          → seen (suc depth) (node v) y ≡ seen (suc depth) u y
          → Tells (suc depth) c.start.0 (after (suc depth) c p u) u (entry_numbers (suc depth) c u)
      goes_tells depth q p c m u v low tells piece fine above under opens goes lower own shows =
          let T = whole_tells depth q (chunk_map m c p) v (omega arith) tells (record { inside = piece.inside; room = piece.room }) fine
          (omega (arith, piece.some)) above under in
          let tree : after (suc depth) c p u ≡ chunked_table (document_modify set clear) depth c p (node v) =
          goes ∙ ap (chunked_table (document_modify set clear) depth c p) opens in
          let numbers : entry_numbers (suc depth) c u ≡ table_numbers set clear depth c (node v) ++ [] =
          ap₂ (λ (a b : List ℕ). a ++ b) (lower ∙ ap (table_numbers set clear depth c) opens) own in
          subst (λ (t : Tree). Tells (suc depth) c.start.0 t u (entry_numbers (suc depth) c u)) (sym tree)
          (record {
            from = T.from;
            count = ap (occurs _) numbers ∙ nil_occurs set clear _ (table_numbers set clear depth c (node v)) ∙ T.count
                ∙ ap (changes set clear) shows;
          })

      up_tells : (depth : ℕ) → suc depth ≤ 3 → EachTells depth → EachTells (suc depth)
      up_tells depth low tells q m c p (node f) piece fine above under =
          goes_tells depth q p c m (node f) f low tells piece fine above under (opens_node depth f) (chunked-into depth c p f)
          (lower_on set clear _ depth c (node f) refl)
          (own_on set clear depth c (node f) refl) refl
      up_tells depth low tells q m c p (leaf w) piece fine above under = by_bool (whole (3 - suc depth) c)
          (λ e. entry_whole depth q p w c m low piece fine above under e)
          (λ e. goes_tells depth q p c m (leaf w) (fill_slot depth w) low tells piece (fine_fill_slots depth w fine) above under
          (opens_leaf depth w ∙ fill_node depth w)
          (chunked_part depth c p w e)
          (lower_on set clear _ depth c (leaf w) e) (own_on set clear depth c (leaf w) e)
          (seen_node depth (fill_slot depth w) y
          ∙ ap (λ (t : Tree). seen depth t y) (fill_slot_lem depth w (slot_of_page y depth) (slot_lt y depth)) ∙ seen_leaf depth _ y
          ∙ fill_seen depth w y fine
          ∙ sym (seen_leaf (suc depth) w y)))

      each_tells : (depth : ℕ) → depth ≤ 3 → EachTells depth
      each_tells zero low = page_tells
      each_tells (suc depth) low = up_tells depth low (each_tells depth (omega arith))

      -- EXACTLY THE ENTRIES THAT CHANGE
      pub region_tells : (depth q : ℕ) (m : Map) (v : ℕ → Tree) → depth ≤ 3 → Area depth q m → ((j : ℕ) → j < 512 → FineTree depth (v j))
          → m.region.start.0 ≤ m.region.end.0 → m.region.start.0 / 4096 ≤ y → y < m.region.end.0 / 4096
          → occurs (first_page (suc depth) (chunked_table (document_modify set clear) depth m.region m.frame.0 (node v)) y % 2 ^ 44)
          (table_numbers set clear depth m.region (node v))
          ≡ changes set clear (seen (suc depth) (node v) y)
      region_tells depth q m v low area fine some above under =
          (whole_tells depth q m v low (each_tells depth low) area fine some above under).count
