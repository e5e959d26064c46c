-- Theorems about the definitions of specs/Once.
use Rattle.std.specs.Prelude.{◌≡◌, ◌&&◌, eqb}
use Rattle.std.proofs.Common.{sym, ap, ap₂, subst, ◌∙◌}
use Rattle.std.proofs.Math.Bool.{not}
use mathlib.Core.List.{List, [], ◌∷◌, ◌++◌, append-nil}
use Prim.Native.Nat.{ℕ, zero, suc, ◌+◌, ◌-◌, ◌/◌, ◌%◌, ◌^◌, ◌≤◌, ◌<◌}
use native.Mathlib.Omega.{arith}
use Rattle.std.proofs.Math.Dec.{eqb→eq}
use Rattle.laws.specs.Test.{by_bool}
use Rattle.entry.specs.Word.{valid, edited}
use Rattle.address_slot.specs.Slot.{entry_index}
use Rattle.region.specs.Region.{region}
use Rattle.region.specs.Chunks.{chunks, Tiles, none, more, chunks_tile}
use Rattle.region.specs.declared.MemoryRegion.{MemoryRegion}
use Rattle.map_rules.specs.declared.Map.{Map}
use Rattle.map_rules.specs.Rules.{chunk_map}
use Rattle.theory_forest.specs.Tree.{Tree, leaf, node}
use Rattle.theory_tree.specs.Page.{child}
use Rattle.theory_tree.specs.Visit.{opened}
use Rattle.theory_tree.specs.Needed.{slot_tree}
use Rattle.theory_map.specs.Stand.{Piece}
use Rattle.theory_map.specs.Pieces.{Area, slot_at, Pieces, pieces}
use Rattle.theory_modify.specs.Numbers.{gathered, changed_number, own_numbers, lower_numbers, table_numbers, occurs}
use Rattle.theory_modify.specs.Passes.{own_entry}
use Rattle.theory_modify.specs.Gathered.{own_on, own_here, lower-own, lower_on, leaf_numbers, leaf_page}
use Rattle.theory_modify.specs.Once.{occurs-append, occurs_both, pages_below, Few}

module _ (set clear x : ℕ) where
  one_few : (c : MemoryRegion) → c.start.0 / 4096 < c.end.0 / 4096 → Few x c (occurs x (c.start.0 / 4096 % 2 ^ 44 ∷ []))
  unfolding occurs
  one_few c some = by_bool (eqb x (c.start.0 / 4096 % 2 ^ 44))
      (λ e. let same = eqb→eq x (c.start.0 / 4096 % 2 ^ 44) (rw e tt) in rw e (few (c.start.0 / 4096) (c.end.0 / 4096) same some))
      (λ e. rw e (omega arith))
    where
      few : (s e : ℕ) → x ≡ s % 2 ^ 44 → s < e → 1 + 0 + pages_below x s ≤ pages_below x e
      few s e same l = omega arith

  none_few : (c : MemoryRegion) → c.start.0 / 4096 ≤ c.end.0 / 4096 → Few x c (occurs x [])
  unfolding occurs
  none_few c l = omega arith

  changed_few : (c : MemoryRegion) (w : ℕ) → c.start.0 / 4096 < c.end.0 / 4096 → Few x c (occurs x (changed_number set clear c w))
  unfolding changed_number
  changed_few c w some =
      by_bool (valid w && not (eqb (edited set clear w) w)) (λ e. rw e (one_few c some)) (λ e. rw e (none_few c (omega arith)))

  leaf_few : (c : MemoryRegion) (u : Tree) → c.start.0 / 4096 < c.end.0 / 4096 → Few x c (occurs x (leaf_numbers set clear c u))
  leaf_few c (leaf w) some = changed_few c w some
  leaf_few c (node f) some = none_few c (omega arith)

  -- ---- a table

  module _ (depth q : ℕ) (m : Map) (f : MemoryRegion → Tree → List ℕ) (t : Tree)
      (each : (c : MemoryRegion) (p : ℕ) (u : Tree) → Piece depth (child q (slot_at depth c)) (chunk_map m c p)
      → Few x c (occurs x (f c u))) where
    pub gathered_few : {level e s : ℕ} {cs : List MemoryRegion} → Tiles level e s cs → (a p : ℕ) → Pieces depth q m a p cs → s ≤ e
        → occurs x (gathered depth f cs t) + pages_below x (s / 4096) ≤ pages_below x (e / 4096)
    unfolding gathered occurs
    gathered_few (none l) a p all some = omega arith
    gathered_few {e = e} (more {s = s} {m = z} {l = cs} above under fits rest) a p all some =
        let c : MemoryRegion = region s z in
        let u : Tree = slot_tree t (entry_index (3 - depth) s) in
        let here = each c p u all.0.piece in
        let later = gathered_few rest (suc (slot_at depth c)) (p + (z - s)) all.1 under in
        omega (arith, occurs-append x (f c u) (gathered depth f cs t))

  abbrev pub Once : ℕ → Type 0
  Once depth =
      (q : ℕ) (m : Map) (t : Tree) → Area depth q m → m.region.start.0 ≤ m.region.end.0
      → Few x m.region (occurs x (table_numbers set clear depth m.region t))

  pub piece_some : {depth q : ℕ} {m : Map} → Piece depth q m → m.region.start.0 / 4096 < m.region.end.0 / 4096
  piece_some piece = omega (arith, piece.some, piece.inside.start_page, piece.inside.end_page)

  pub page_few : (c : MemoryRegion) (u : Tree) → c.start.0 / 4096 < c.end.0 / 4096 → Few x c (occurs x (own_numbers set clear 0 c u))
  page_few c u some = rw (← leaf_page set clear c u) (leaf_few c u some)

  pub nil_occurs : (xs : List ℕ) → occurs x (xs ++ []) ≡ occurs x xs
  nil_occurs xs = ap (occurs x) (append-nil xs)

  module _ (depth q p : ℕ) (m : Map) (c : MemoryRegion) (once : Once depth) (piece : Piece (suc depth) q (chunk_map m c p)) where
    abbrev rec : MemoryRegion → Tree → List ℕ
    rec d v = table_numbers set clear depth d v

    abbrev entry_numbers : Tree → List ℕ
    entry_numbers u = lower_numbers set clear rec depth c u ++ own_numbers set clear (suc depth) c u

    -- a chunk that goes down lists what the table below does
    goes_few : (u v : Tree) → lower_numbers set clear rec depth c u ≡ rec c v → own_numbers set clear (suc depth) c u ≡ []
        → Few x c (occurs x (entry_numbers u))
    goes_few u v a b =
        let same : occurs x (entry_numbers u) ≡ occurs x (rec c v) = ap₂ (λ (y z : List ℕ). occurs x (y ++ z)) a b ∙ nil_occurs (rec c v) in
        subst (Few x c) (sym same)
        (once q (chunk_map m c p) v (record { inside = piece.inside; room = piece.room }) (omega (arith, piece.some)))

    pub entry_few : (u : Tree) → Few x c (occurs x (entry_numbers u))
    entry_few u = by_bool (own_entry depth c u)
        (λ e.
        let same : occurs x (entry_numbers u) ≡ occurs x (leaf_numbers set clear c u) =
        ap₂ (λ (y z : List ℕ). occurs x (y ++ z)) (lower-own set clear rec depth c u e) (own_here set clear depth c u e) in
        subst (Few x c) (sym same) (leaf_few c u (piece_some piece)))
        (λ e. goes_few u (opened depth u) (lower_on set clear rec depth c u e) (own_on set clear depth c u e))

  pub table_few : (depth : ℕ) → depth ≤ 3 → Once depth
  unfolding table_numbers
  table_few zero low q m t area some =
      gathered_few 0 q m (own_numbers set clear 0) t (λ c p u piece. page_few c u (piece_some piece))
      (chunks_tile 3 m.region.start.0 m.region.end.0) 0 m.frame.0
      (pieces 0 q m low m.frame.0 m.region (record { inside = area.inside; room = area.room })) some
  table_few (suc depth) low q m t area some =
      let cs : List MemoryRegion = chunks (3 - suc depth) m.region.start.0 m.region.end.0 in
      let lower : MemoryRegion → Tree → List ℕ = lower_numbers set clear (λ d v. table_numbers set clear depth d v) depth in
      let own : MemoryRegion → Tree → List ℕ = own_numbers set clear (suc depth) in
      let few = gathered_few (suc depth) q m (λ c u. lower c u ++ own c u) t
      (λ c p u piece. entry_few depth (child q (slot_at (suc depth) c)) p m c (table_few depth (omega arith)) piece u)
      (chunks_tile (3 - suc depth) m.region.start.0 m.region.end.0) 0 m.frame.0
      (pieces (suc depth) q m low m.frame.0 m.region (record { inside = area.inside; room = area.room })) some in
      omega (
        arith,
        occurs_both x (suc depth) lower own cs t,
        occurs-append x (gathered (suc depth) lower cs t)
            (gathered (suc depth) own cs t),
      )

  -- EACH NUMBER ONCE
  pub numbers_once : (depth q : ℕ) (m : Map) (t : Tree) → depth ≤ 3 → Area depth q m → m.region.start.0 ≤ m.region.end.0
      → occurs x (table_numbers set clear depth m.region t) ≤ 1
  numbers_once depth q m t low area some =
      let few = table_few depth low q m t area some in
      let room = area.room in
      omega arith
