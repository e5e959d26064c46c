-- The chunks of a region in a table, one after the other: each in one entry, in slots that ascend. And what the document's loop does with a
-- chunk, by its rule.
use Rattle.std.specs.Prelude.{◌≡◌, ◌⊎◌}
use Rattle.std.proofs.Math.Path.{refl, ap₂}
use Rattle.std.proofs.Common.{sym, ap, subst, inl, inr, arith}
use mathlib.Core.List.{List, [], ◌∷◌}
use Prim.Native.Nat.{ℕ, zero, suc, ◌+◌, ◌-◌, ◌/◌, ◌^◌, ◌≤◌, ◌<◌}
use Rattle.laws.specs.Test.{eq_or, le_or}
use Rattle.address_slot.specs.Slot.{entry_index, chunk_end}
use Rattle.region.specs.Chunks.{met, met-step, chunks, chunks_none, chunks-step}
use Rattle.region.specs.declared.MemoryRegion.{MemoryRegion}
use Rattle.map_rules.specs.declared.Map.{Map}
use Rattle.map_rules.specs.Rules.{chunk_map}
use Rattle.theory_forest.specs.Tree.{Tree, leaf}
use Rattle.theory_tree.specs.Page.{pages_in, first, child, slot_of_page, child_order}
use Rattle.theory_tree.specs.Visit.{keep, write, down as goDown, opened, splits, obey, counted}
use Rattle.theory_tree.specs.Chunks.{Inside, chunked, chunked_table, index_slot, FirstCut, cut}
use Rattle.theory_tree.specs.Needed.{slot_tree, tallied, needed, needed_table}
use Rattle.theory_tree.specs.Document.{document_rule}
use Rattle.theory_map.specs.Rule.{says_of}
use Rattle.theory_map.specs.Stand.{Piece}

-- ---- the document's loop on trees, for a map of one chunk or of a table's region

-- an entry after a map of one chunk, and the new tables that the map takes
abbrev pub done_to : Map → ℕ → Tree → Tree
done_to m depth t = chunked (document_rule m.flags m.blocks) depth m.region m.frame.0 t

abbrev pub takes : Map → ℕ → Tree → ℕ
takes m depth t = needed (document_rule m.flags m.blocks) depth m.region m.frame.0 t

-- a table after a map of its region, and the new tables that the map takes
abbrev pub done_table : Map → ℕ → Tree → Tree
done_table m depth t = chunked_table (document_rule m.flags m.blocks) depth m.region m.frame.0 t

abbrev pub takes_table : Map → ℕ → Tree → ℕ
takes_table m depth t = needed_table (document_rule m.flags m.blocks) depth m.region m.frame.0 t

-- by what the rule says
pub done_keep : (m : Map) (depth : ℕ) (t : Tree) → says_of m depth t ≡ keep → done_to m depth t ≡ t
unfolding chunked obey
done_keep m zero t e = rw e
done_keep m (suc depth) t e = rw e

pub done_write : (m : Map) (depth x : ℕ) (t : Tree) → says_of m depth t ≡ write x → done_to m depth t ≡ leaf x
unfolding chunked obey
done_write m zero x t e = rw e
done_write m (suc depth) x t e = rw e

pub done_down : (m : Map) (depth : ℕ) (t : Tree) → says_of m (suc depth) t ≡ goDown
    → done_to m (suc depth) t ≡ done_table m depth (opened depth t)
unfolding chunked chunked_table obey
done_down m depth t e = rw e

pub takes-down : (m : Map) (depth : ℕ) (t : Tree) → says_of m (suc depth) t ≡ goDown
    → takes m (suc depth) t ≡ splits t + takes_table m depth (opened depth t)
unfolding needed needed_table counted
takes-down m depth t e = rw e

-- ---- the chunks

-- a region with its frame in the table below the q-th entry
pub record Area (depth q : ℕ) (m : Map) : Type 0 where
  pub inside : Inside (first (suc depth) q) (pages_in (suc depth)) m.region.start.0 m.region.end.0 m.frame.0
  pub room : m.frame.0 + (m.region.end.0 - m.region.start.0) ≤ 2 ^ 48

-- a chunk is the region of the table below its entry
pub piece_area : {depth q : ℕ} {m : Map} → Piece (suc depth) q m → Area depth q m
piece_area piece = record { inside = piece.inside; room = piece.room }

-- the slot of a chunk
abbrev pub slot_at : ℕ → MemoryRegion → ℕ
slot_at depth c = slot_of_page (c.start.0 / 4096) depth

-- the chunk c, with the frame p, in a slot from a on
pub record Next (depth q : ℕ) (m : Map) (a p : ℕ) (c : MemoryRegion) : Type 0 where
  pub from : a ≤ slot_at depth c
  pub piece : Piece depth (child q (slot_at depth c)) (chunk_map m c p)

-- one after the other
abbrev pub Pieces : ℕ → ℕ → Map → ℕ → ℕ → List MemoryRegion → Type 0
Pieces depth q m a p [] = Unit {0}
Pieces depth q m a p (c ∷ cs) = Next depth q m a p c × Pieces depth q m (suc (slot_at depth c)) (p + (c.end.0 - c.start.0)) cs

module _ (depth q : ℕ) (m : Map) (low : depth ≤ 3) where
  -- the entries below slot a end at s, if anything is left
  abbrev Past : ℕ → ℕ → ℕ → Type 0
  Past a s e = (i : ℕ) → i < a → s < e → first depth (child q i) + pages_in depth ≤ s / 4096

  pieces_from : (n a s e p : ℕ) → met (3 - depth) s e ≡ n → Inside (first (suc depth) q) (pages_in (suc depth)) s e p → p + (e - s) ≤ 2 ^ 48
      → Past a s e
      → Pieces depth q m a p (chunks (3 - depth) s e)
  pieces_from zero a s e p n I room past = go (le_or e s)
    where
      go : (e ≤ s) ⊎ (s < e) → Pieces depth q m a p (chunks (3 - depth) s e)
      go (inl h) = subst (Pieces depth q m a p) (sym (chunks_none (3 - depth) s e h)) tt
      go (inr h) = absurd (let k = met-step (3 - depth) s e h in omega arith)
  pieces_from (suc n) a s e p k I room past = go (le_or e s) (λ z. pieces_from n (suc (slot_of_page (s / 4096) depth)) z e (p + (z - s)))
    where
      i : ℕ
      i = slot_of_page (s / 4096) depth

      go : (e ≤ s) ⊎ (s < e)
          → ((z : ℕ) → met (3 - depth) z e ≡ n → Inside (first (suc depth) q) (pages_in (suc depth)) z e (p + (z - s))
          → p + (z - s) + (e - z) ≤ 2 ^ 48 → Past (suc i) z e
          → Pieces depth q m (suc i) (p + (z - s)) (chunks (3 - depth) z e))
          → Pieces depth q m a p (chunks (3 - depth) s e)
      go (inl h) ih = subst (Pieces depth q m a p) (sym (chunks_none (3 - depth) s e h)) tt
      go (inr h) ih =
          let z : ℕ = chunk_end (3 - depth) s e in
          let c = cut depth q s e p low h I in
          let fewer : met (3 - depth) (chunk_end (3 - depth) s e) e ≡ n = let j = met-step (3 - depth) s e h in omega arith in
          subst (Pieces depth q m a p) (sym (chunks-step (3 - depth) s e h)) (
            record {
              from = from c (le_or a i);
              piece = record { inside = c.chunk; some = c.more; room = omega (arith, c.within, c.more) };
            },
            ih z fewer c.rest (omega (arith, c.within, c.more)) (λ j l more. next z c j more (eq_or j i) l),
          )
        where
          from : {z : ℕ} → FirstCut depth q s e p z i → (a ≤ i) ⊎ (i < a) → a ≤ i
          from c (inl l) = l
          from c (inr l) = absurd (let x = past i l h in omega (arith, c.chunk.high, c.more, c.chunk.start_page, c.chunk.end_page))

          next : (z : ℕ) → FirstCut depth q s e p z i → (j : ℕ) → z < e → (j ≡ i) ⊎ (¬ (j ≡ i)) → j < suc i
              → first depth (child q j) + pages_in depth ≤ z / 4096
          next z c j more (inl same) l =
              let end : first depth (child q i) + pages_in depth ≤ z / 4096 = omega (arith, c.ends, c.rest.start_page, c.rest.end_page) in
              rw same end
          next z c j more (inr other) l = let o = child_order depth q j i (omega arith) in omega (arith, c.chunk.low, c.more)

  -- THE CHUNKS OF A TABLE'S REGION
  pub pieces : (p : ℕ) (c : MemoryRegion) → Area depth q (chunk_map m c p)
      → Pieces depth q m 0 p (chunks (3 - depth) c.start.0 c.end.0)
  pieces p c area =
      pieces_from (met (3 - depth) c.start.0 c.end.0) 0 c.start.0 c.end.0 p refl area.inside area.room
      (λ i l. absurd (omega arith))

  -- what the chunks take depends on the slots from a on
  pub tallied-from : (each : MemoryRegion → ℕ → Tree → ℕ) (cs : List MemoryRegion) (a p : ℕ) (t u : Tree) → Pieces depth q m a p cs
      → ((j : ℕ) → a ≤ j → slot_tree t j ≡ slot_tree u j) → tallied depth each cs p t ≡ tallied depth each cs p u
  unfolding tallied
  tallied-from each [] a p t u all same = refl
  tallied-from each (c ∷ cs) a p t u all same =
      let i : ℕ = entry_index (3 - depth) c.start.0 in
      let at = index_slot depth c.start.0 low in
      let here : slot_tree t i ≡ slot_tree u i = same i (omega (arith, all.0.from)) in
      ap₂ ◌+◌ (ap (each c p) here)
      (tallied-from each cs (suc (slot_at depth c)) (p + (c.end.0 - c.start.0)) t u all.1
      (λ j l. same j (omega (arith, all.0.from))))
