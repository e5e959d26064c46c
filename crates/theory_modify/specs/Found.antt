-- The survey's scan finds the lowest page whose entry breaks the house rule, on the tree that the words show (document 01, refusal 10).
use Rattle.std.specs.Prelude.{◌≡◌, Bool, true, false, List, ◌⊎◌, ◌≢◌, eqb, Option, None, Some}
use Rattle.std.proofs.Math.Path.{refl, subst}
use Rattle.std.proofs.Common.{sym, ap, ◌∙◌, inl, inr, arith}
use Prim.Native.Nat.{ℕ, zero, suc, ◌+◌, ◌*◌, ◌-◌, ◌/◌, ◌%◌, ◌≤◌, ◌<◌}
use Rattle.std.specs.Int.Bits.{xor_self}
use Rattle.std.proofs.Math.Dec.{eqb→eq}
use borrow.Author.Tests.{eq-eqb}
use Rattle.laws.specs.Size.{size_at}
use Rattle.laws.specs.Test.{by_bool, eq_or, le_or, both}
use Rattle.entry.specs.Word.{kind_of, only, kind_clear, valid, valid_no, edited}
use Rattle.address_slot.specs.Slot.{entry_index}
use Rattle.region.specs.Region.{region, whole}
use Rattle.region.specs.Chunks.{chunks, Tiles, none, more, chunks_tile}
use Rattle.region.specs.Each.{each_of, each_chunk}
use Rattle.region.specs.declared.MemoryRegion.{MemoryRegion}
use Rattle.pool.specs.State.{St}
use Rattle.pool.specs.declared.Handle.{Handle}
use Rattle.map_rules.specs.declared.Map.{Map}
use Rattle.map_rules.specs.Rules.{chunk_map}
use Rattle.modify_entry.specs.declared.Edit.{Edit}
use Rattle.modify_entry.specs.Word.{chunk_edit, of_kind, edit_word}
use Rattle.modify_survey.specs.declared.Survey.{Survey}
use Rattle.modify_survey.specs.House.{may_change}
use Rattle.modify_survey.specs.Survey.{splits_in, breach, breach_kept, breach-first, survey_part, survey_whole, survey_entry, survey_chunk}
use Rattle.modify_survey.specs.Survey.{survey_range, part_block, part_other, whole_same}
use Rattle.modify_survey.specs.Survey.{whole_allowed, whole-breach, entry_whole, entry_part}
use Rattle.theory_forest.specs.Tree.{Tree, leaf, node, tree_at_node}
use Rattle.theory_forest.specs.Walk.{Ends, walk_tree}
use Rattle.theory_sound.specs.Codec.{Placed, child_of, slot_word, tree_from}
use Rattle.theory_sound.specs.Step.{Ready}
use Rattle.theory_sound.specs.Slot.{slot_shows}
use Rattle.theory_tree.specs.Page.{pages_in, first, child, child_order, slot_of_page, slot_lt, end_rest, multiple_child, in_of, in_rest}
use Rattle.theory_tree.specs.Page.{entry_rest}
use Rattle.theory_tree.specs.Fine.{Fine}
use Rattle.theory_tree.specs.Chunks.{index_slot}
use Rattle.theory_map.specs.Stand.{Piece}
use Rattle.theory_map.specs.Pieces.{Area, slot_at, Pieces, pieces}
use Rattle.theory_modify.specs.Word.{hole_stays}
use Rattle.theory_modify.specs.Pass.{area_of}
use Rattle.theory_modify.specs.Entry.{survey_page, survey_slot}
use Rattle.theory_modify.specs.Counted.{valid_block, page_whole}
use Rattle.theory_modify.specs.Listed.{slot_in_lem}

-- ---- a page that breaks the house rule

-- the entry of 512^n pages that holds page y lies in the pages from lo up to hi
pub record WithinPages (lo hi n y : ℕ) : Type 0 where
  pub from : lo ≤ y - y % pages_in n
  pub upto : y - y % pages_in n + pages_in n ≤ hi

-- the word that an edit makes of w
abbrev pub new_word : ℕ → ℕ → ℕ → ℕ → ℕ
new_word set clear level w = of_kind (kind_of level w) (edited set clear w) w

-- an edit of the pages from lo up to hi breaks the house rule at page y, whose walk ends in x: the valid word w would be split, or a bit
-- that may not change does
pub record Broken (h : Handle) (set clear lo hi : ℕ) (x : Ends) (y w : ℕ) : Type 0 where
  pub word : x.word ≡ w
  pub valid : valid w ≡ true
  pub rule : (¬ (WithinPages lo hi x.depth y)) ⊎ (may_change h w (new_word set clear (3 - x.depth) w) ≡ false)

-- the lowest page from lo up to hi that breaks
pub record First (breaks : ℕ → ℕ → Type 0) (lo hi w : ℕ) : Type 0 where
  pub page : ℕ
  pub from : lo ≤ page
  pub below : page < hi
  pub here : breaks page w
  pub least : (y u : ℕ) → lo ≤ y → y < page → breaks y u → ⊥

-- a survey v becomes x over the pages from lo up to hi: what was broken stays; else it is broken exactly by the lowest page that breaks
pub record Finds (breaks : ℕ → ℕ → Type 0) (lo hi : ℕ) (v x : Survey) : Type 0 where
  pub stays : (w : ℕ) → v.broken ≡ Some w → x.broken ≡ Some w
  pub none : v.broken ≡ None → x.broken ≡ None → (y u : ℕ) → lo ≤ y → y < hi → breaks y u → ⊥
  pub some : v.broken ≡ None → (w : ℕ) → x.broken ≡ Some w → First breaks lo hi w

-- a split on the word that breaks the rule, if there is one
pub by_broken {ℓ} : {A : Type ℓ} (x : Option ℕ) → ((w : ℕ) → x ≡ Some w → A) → (x ≡ None → A) → A
by_broken (Some w) f g = f w refl
by_broken None f g = g refl

clash : {b : Bool} → b ≡ true → b ≡ false → ⊥
clash p q = let e = sym p ∙ q in cc

-- one part after the other
finds_join : {B : ℕ → ℕ → Type 0} {lo mid hi : ℕ} {v u x : Survey} → lo ≤ mid → mid ≤ hi → Finds B lo mid v u → Finds B mid hi u x
    → Finds B lo hi v x
finds_join {B} {lo} {mid} {hi} {v} {u} {x} l m F G = record {
  stays = λ w e. G.stays w (F.stays w e);
  none = λ e n y w k b at. by_broken u.broken
      (λ old broken. cc (G.stays old broken, n))
      (λ fine. side (le_or mid y) (λ q. F.none e fine y w k q at) (λ q. G.none fine n y w q b at));
  some = λ e w n. by_broken u.broken
      (λ old broken.
      let f = F.some e old broken in
      let both = sym (G.stays old broken) ∙ n in
      let same : old ≡ w = cc in
      record {
        page = f.page;
        from = f.from;
        below = omega (arith, f.below);
        here = subst (B f.page) same f.here;
        least = f.least;
      })
      (λ fine.
      let g = G.some fine w n in
      record {
        page = g.page;
        from = omega (arith, g.from);
        below = g.below;
        here = g.here;
        least = λ y v k b at. side (le_or mid y) (λ q. F.none e fine y v k q at) (λ q. g.least y v q b at);
      });
}
  where
    side : {y : ℕ} → (mid ≤ y) ⊎ (y < mid) → (y < mid → ⊥) → (mid ≤ y → ⊥) → ⊥
    side (inl q) f g = g q
    side (inr q) f g = f q

-- said otherwise
finds_as : {B C : ℕ → ℕ → Type 0} {lo hi : ℕ} {v x : Survey} → ((y w : ℕ) → lo ≤ y → y < hi → B y w → C y w)
    → ((y w : ℕ) → lo ≤ y → y < hi → C y w → B y w)
    → Finds B lo hi v x → Finds C lo hi v x
finds_as there back F = record {
  stays = F.stays;
  none = λ e n y w k b at. F.none e n y w k b (back y w k b at);
  some = λ e w n.
      let f = F.some e w n in
      record {
        page = f.page;
        from = f.from;
        below = f.below;
        here = there f.page _ f.from f.below f.here;
        least = λ y v k b at. f.least y v k b (back y v k (omega (arith, f.below)) at);
      };
}

-- nothing breaks
finds_none : {B : ℕ → ℕ → Type 0} {lo hi : ℕ} {v x : Survey} → x.broken ≡ v.broken
    → ((y w : ℕ) → lo ≤ y → y < hi → B y w → ⊥) → Finds B lo hi v x
finds_none a not = record { stays = λ w e. a ∙ e; none = λ e n. not; some = λ e w n. absurd (cc (n, a ∙ e)) }

-- the first page breaks
finds_breach : {B : ℕ → ℕ → Type 0} {lo hi : ℕ} {v : Survey} (w : ℕ) (x : Survey) → x.broken ≡ v.broken → lo < hi
    → B lo w → Finds B lo hi v (breach w x)
finds_breach {B} {lo} {hi} {v} w x a space at = record {
  stays = λ old e. ap (λ (z : Survey). z.broken) (sym (breach_kept w x old (a ∙ e))) ∙ a ∙ e;
  none = λ e n. absurd (cc (ap (λ (z : Survey). z.broken) (breach-first w x (a ∙ e)), n));
  some = λ e u n.
      let both = ap (λ (z : Survey). z.broken) (breach-first w x (a ∙ e)) ∙ n in
      let same : w ≡ u = cc in
      record { page = lo; from = omega arith; below = space; here = subst (B lo) same at; least = λ y u k l. absurd (omega arith) };
}

-- ---- entries, and the ends of larger ones

walk_low : (f : ℕ → ℕ) (depth : ℕ) (t : Tree) → (walk_tree f depth t).depth ≤ depth
unfolding walk_tree
walk_low f zero (leaf w) = omega arith
walk_low f (suc depth) (leaf w) = omega arith
walk_low f zero (node u) = omega arith
walk_low f (suc depth) (node u) = let r = walk_low f depth (u (f depth)) in omega arith

multiple_low : (n depth a : ℕ) → n ≤ depth → a % pages_in depth ≡ 0 → a % pages_in n ≡ 0
multiple_low n zero a l e = let same : n ≡ 0 = omega arith in rw same e
multiple_low n (suc depth) a l e = go (le_or n depth) (λ k d. multiple_low n depth a k d)
  where
    lower : a % pages_in depth ≡ 0
    lower = let z : a + 0 * pages_in depth ≡ a = omega arith in subst (λ (x : ℕ). x % pages_in depth ≡ 0) z (multiple_child depth a 0 e)

    go : (n ≤ depth) ⊎ (depth < n) → (n ≤ depth → a % pages_in depth ≡ 0 → a % pages_in n ≡ 0) → a % pages_in n ≡ 0
    go (inl k) rec = rec k lower
    go (inr k) rec = let same : n ≡ suc depth = omega arith in rw same e

-- the entry of a page before a multiple of its size ends there at the latest, that of a page from there on begins there at the earliest
entry_before : (n y a : ℕ) → n ≤ 3 → a % pages_in n ≡ 0 → y < a → y - y % pages_in n + pages_in n ≤ a
unfolding pages_in
entry_before zero y a low at l = omega arith
entry_before (suc zero) y a low at l = omega arith
entry_before (suc (suc zero)) y a low at l = omega arith
entry_before (suc (suc (suc zero))) y a low at l = omega arith
entry_before (suc (suc (suc (suc n)))) y a low at l = absurd (omega arith)

entry-from : (n y a : ℕ) → n ≤ 3 → a % pages_in n ≡ 0 → a ≤ y → a ≤ y - y % pages_in n
unfolding pages_in
entry-from zero y a low at l = omega arith
entry-from (suc zero) y a low at l = omega arith
entry-from (suc (suc zero)) y a low at l = omega arith
entry-from (suc (suc (suc zero))) y a low at l = omega arith
entry-from (suc (suc (suc (suc n)))) y a low at l = absurd (omega arith)

-- pages cut at `mid`, where the pages end or an entry with `depth` levels below does
module _ (depth n y lo mid hi : ℕ) (low : depth ≤ 3) (small : n ≤ depth) (ends : (mid ≡ hi) ⊎ (mid % pages_in depth ≡ 0)) where
  within_lower : y < mid → WithinPages lo hi n y → WithinPages lo mid n y
  within_lower l W = record { from = W.from; upto = go ends }
    where
      go : (mid ≡ hi) ⊎ (mid % pages_in depth ≡ 0) → y - y % pages_in n + pages_in n ≤ mid
      go (inl same) = omega (arith, W.upto)
      go (inr end) = entry_before n y mid (omega arith) (multiple_low n depth mid small end) l

  within_later : mid ≤ y → y < hi → WithinPages lo hi n y → WithinPages mid hi n y
  within_later l b W = record { from = go ends; upto = W.upto }
    where
      go : (mid ≡ hi) ⊎ (mid % pages_in depth ≡ 0) → mid ≤ y - y % pages_in n
      go (inl same) = absurd (omega arith)
      go (inr end) = entry-from n y mid (omega arith) (multiple_low n depth mid small end) l

within_wider : {lo lo' hi hi' n y : ℕ} → lo' ≤ lo → hi ≤ hi' → WithinPages lo hi n y → WithinPages lo' hi' n y
within_wider a b W = record { from = omega (arith, W.from); upto = omega (arith, W.upto) }

broken_as : {h : Handle} {set clear lo hi lo' hi' : ℕ} (x : Ends) {y w : ℕ}
    → (WithinPages lo' hi' x.depth y → WithinPages lo hi x.depth y) → Broken h set clear lo hi x y w
    → Broken h set clear lo' hi' x y w
broken_as {h} {set} {clear} {lo} {hi} {lo'} {hi'} x {y} {w} back B = record { word = B.word; valid = B.valid; rule = either B.rule }
  where
    either : (¬ (WithinPages lo hi x.depth y)) ⊎ (may_change h w (new_word set clear (3 - x.depth) w) ≡ false)
        → (¬ (WithinPages lo' hi' x.depth y)) ⊎ (may_change h w (new_word set clear (3 - x.depth) w) ≡ false)
    either (inl split) = inl (λ W. split (back W))
    either (inr bits) = inr bits

-- ---- the chunks of a table

module _ (h : Handle) (set clear depth q : ℕ) (m : Map) (low : depth ≤ 3) (f : MemoryRegion → Survey → Survey) (slots : ℕ → Tree) where
  abbrev ends_of : ℕ → Ends
  ends_of y = walk_tree (slot_of_page y) depth (slots (slot_of_page y depth))

  abbrev ends_in : MemoryRegion → ℕ → Ends
  ends_in c y = walk_tree (slot_of_page y) depth (slots (entry_index (3 - depth) c.start.0))

  abbrev EachFinds : Type 0
  EachFinds = (c : MemoryRegion) (p : ℕ) (x : Survey) → Piece depth (child q (slot_at depth c)) (chunk_map m c p)
      → Finds (λ y w. Broken h set clear (c.start.0 / 4096) (c.end.0 / 4096) (ends_in c y) y w) (c.start.0 / 4096) (c.end.0 / 4096) x
      (f c x)

  -- a chunk ends where the region does or its entry
  ends_at : {level e z : ℕ} {cs : List MemoryRegion} → Tiles level e z cs → (i p : ℕ) → Pieces depth q m (suc i) p cs → z ≤ e
      → z / 4096 ≤ first depth (child q i) + pages_in depth
      → (z / 4096 ≡ e / 4096) ⊎ (z / 4096 % pages_in depth ≡ 0)
  ends_at (none l) i p all under high = inl (omega arith)
  ends_at (more {s = z} {m = b} above fits inside rest) i p all under high =
      let o = child_order depth q i (slot_at depth (region z b)) (omega (arith, all.0.from)) in
      let end : z / 4096 ≡ first depth (child q i) + pages_in depth = omega (arith, all.0.piece.inside.low) in
      inr (ap (λ (n : ℕ). n % pages_in depth) end ∙ end_rest depth (child q i))

  -- a chunk's page stands in the chunk's slot
  ends_same : (c : MemoryRegion) (p y : ℕ) → Piece depth (child q (slot_at depth c)) (chunk_map m c p) → c.start.0 / 4096 ≤ y
      → y < c.end.0 / 4096 → ends_in c y ≡ ends_of y
  ends_same c p y piece l b =
      let at = in_of depth (child q (slot_at depth c)) y (omega (arith, piece.inside.low)) (omega (arith, piece.inside.high)) in
      ap (λ (i : ℕ). walk_tree (slot_of_page y) depth (slots i))
      (index_slot depth c.start.0 low ∙ sym (slot_in_lem depth q (slot_at depth c) y (slot_lt (c.start.0 / 4096) depth) at))

  fold_finds : EachFinds → {level e s : ℕ} {cs : List MemoryRegion} → Tiles level e s cs → (a p : ℕ) (x : Survey) → Pieces depth q m a p cs
      → s ≤ e
      → Finds (λ y w. Broken h set clear (s / 4096) (e / 4096) (ends_of y) y w) (s / 4096) (e / 4096) x (each_of f cs x)
  unfolding each_of
  fold_finds each (none l) a p x all some = finds_none refl (λ y w k b at. omega arith)
  fold_finds each {e = e} (more {s = s} {m = z} {l = cs} above under fits rest) a p x all some =
      let c : MemoryRegion = region s z in
      let piece : Piece depth (child q (slot_at depth c)) (chunk_map m c p) = all.0.piece in
      let ends : (z / 4096 ≡ e / 4096) ⊎ (z / 4096 % pages_in depth ≡ 0) =
      ends_at rest (slot_at depth c) (p + (z - s)) all.1 under piece.inside.high in
      let small : (y : ℕ) → (ends_of y).depth ≤ depth = λ y. walk_low (slot_of_page y) depth (slots (slot_of_page y depth)) in
      let here = each c p x piece in
      let later = fold_finds each rest (suc (slot_at depth c)) (p + (z - s)) (f c x) all.1 under in
      finds_join (omega arith) (omega arith)
      (finds_as
      (λ y w k b at. broken_as (ends_of y) (within_lower depth (ends_of y).depth y (s / 4096) (z / 4096) (e / 4096) low (small y) ends b)
      (subst (λ (i : Ends). Broken h set clear (s / 4096) (z / 4096) i y w) (ends_same c p y piece k b) at))
      (λ y w k b at. subst (λ (i : Ends). Broken h set clear (s / 4096) (z / 4096) i y w) (sym (ends_same c p y piece k b))
      (broken_as (ends_of y) (within_wider (omega arith) (omega arith)) at))
      here)
      (finds_as
      (λ y w k b at. broken_as (ends_of y)
      (within_later depth (ends_of y).depth y (s / 4096) (z / 4096) (e / 4096) low (small y) ends k b) at)
      (λ y w k b at. broken_as (ends_of y) (within_wider (omega arith) (omega arith)) at)
      later)

-- ---- an entry that is no table

pub new_is : (level : ℕ) (e : Edit) (w : ℕ) → new_word e.set e.clear level w ≡ edit_word level e w
unfolding edit_word
new_is level e w = refl

-- a word that stays may stay
may_stay : (h : Handle) (w : ℕ) → may_change h w w ≡ true
unfolding may_change only
may_stay h w = rw (xor_self w)

module _ (depth : ℕ) (c : MemoryRegion) (low : depth ≤ 3) (start : c.start.0 % 4096 ≡ 0) (end : c.end.0 % 4096 ≡ 0) where
  abbrev size : ℕ
  size = size_at (3 - depth)

  -- the region is made of whole entries
  whole-ends : whole (3 - depth) c ≡ true → (c.start.0 / 4096 % pages_in depth ≡ 0) × (c.end.0 / 4096 % pages_in depth ≡ 0)
  unfolding whole
  whole-ends all =
      let two = both (eqb (c.start.0 % size) 0) (eqb (c.end.0 % size) 0) all in
      let a = eqb→eq (c.start.0 % size) 0 (rw two.0 tt) in
      let b = eqb→eq (c.end.0 % size) 0 (rw two.1 tt) in
      (omega (arith, entry_rest depth c.start.0 low start), omega (arith, entry_rest depth c.end.0 low end))

  ends-whole : c.start.0 / 4096 % pages_in depth ≡ 0 → c.end.0 / 4096 % pages_in depth ≡ 0 → whole (3 - depth) c ≡ true
  unfolding whole
  ends-whole a b =
      rw (
        eq-eqb (c.start.0 % size) 0 (omega (arith, entry_rest depth c.start.0 low start)),
        eq-eqb (c.end.0 % size) 0 (omega (arith, entry_rest depth c.end.0 low end)),
      )

module _ (h : Handle) (e : Edit) (c : MemoryRegion) (w : ℕ) (v : Survey) where
  abbrev lo : ℕ
  lo = c.start.0 / 4096

  abbrev hi : ℕ
  hi = c.end.0 / 4096

  -- the walk of each of its pages ends in the word
  abbrev Breaks : ℕ → ℕ → ℕ → Type 0
  Breaks depth y u = Broken h e.set e.clear lo hi (record { word = w; depth = depth }) y u

  module _ (depth q p : ℕ) (low : depth ≤ 3) (fine : Fine depth w) (piece : Piece depth q (area_of (chunk_edit e c) p)) where
    abbrev level : ℕ
    level = 3 - depth

    abbrev new : ℕ
    new = edit_word level (chunk_edit e c) w

    same_new : new_word e.set e.clear level w ≡ new
    same_new = new_is level (chunk_edit e c) w

    -- covered as a whole: it is not split
    module _ (all : whole level c ≡ true) where
      within : (y : ℕ) → lo ≤ y → y < hi → WithinPages lo hi depth y
      within y k b =
          let ends = whole-ends depth c low piece.inside.start_page piece.inside.end_page all in
          record { from = entry-from depth y lo low ends.0 k; upto = entry_before depth y hi low ends.1 b }

      allowed : may_change h w new ≡ true → (y u : ℕ) → lo ≤ y → y < hi → Breaks depth y u → ⊥
      allowed may y u k b B = go B.rule
        where
          go : (¬ (WithinPages lo hi depth y)) ⊎ (may_change h u (new_word e.set e.clear level u) ≡ false) → ⊥
          go (inl split) = split (within y k b)
          go (inr bits) =
              clash may
              (ap (may_change h w) (sym same_new) ∙ ap (λ (x : ℕ). may_change h x (new_word e.set e.clear level x)) B.word ∙ bits)

      abbrev more_numbers : Survey
      more_numbers = record { splits = v.splits; numbers = v.numbers + 1; broken = v.broken }

      whole_finds : Finds (Breaks depth) lo hi v (survey_whole h level (chunk_edit e c) w v)
      whole_finds = go (eq_or new w)
        where
          go : (new ≡ w) ⊎ (new ≢ w) → Finds (Breaks depth) lo hi v (survey_whole h level (chunk_edit e c) w v)
          go (inl same) = subst (Finds (Breaks depth) lo hi v) (whole_same h level (chunk_edit e c) w v refl same)
              (finds_none refl (allowed (ap (may_change h w) same ∙ may_stay h w)))
          go (inr other) = by_bool (may_change h w new)
              (λ may. subst (Finds (Breaks depth) lo hi v) (whole_allowed h level (chunk_edit e c) w v refl other may)
              (finds_none {x = more_numbers} refl (allowed may)))
              (λ bits. subst (Finds (Breaks depth) lo hi v) (whole-breach h level (chunk_edit e c) w v refl other bits)
              (finds_breach w more_numbers refl (omega (arith, piece.some, piece.inside.start_page, piece.inside.end_page))
              (record {
                word = refl;
                valid = by_bool {A = valid w ≡ true} (valid w) (λ y. y) (λ n. absurd (other (hole_stays (chunk_edit e c) w level n)));
                rule = inr (ap (may_change h w) same_new ∙ bits);
              })))

  -- covered in part: a valid one is split
  module _ (depth q p : ℕ) (low : suc depth ≤ 3) (fine : Fine (suc depth) w) (piece : Piece (suc depth) q (area_of (chunk_edit e c) p))
      (part : whole (3 - suc depth) c ≡ false) where
    abbrev under : ℕ
    under = 3 - suc depth

    splits_it : ¬ (WithinPages lo hi (suc depth) lo)
    splits_it W =
        let mine = in_rest (suc depth) q lo
        (in_of (suc depth) q lo piece.inside.low
        (omega (arith, piece.inside.high, piece.some, piece.inside.start_page, piece.inside.end_page))) in
        let begins : lo % pages_in (suc depth) ≡ 0 = omega (arith, W.from) in
        let ends : hi ≡ first (suc depth) q + pages_in (suc depth) = omega (arith, W.upto, piece.inside.high) in
        clash
        (ends-whole (suc depth) c low piece.inside.start_page piece.inside.end_page begins
        (ap (λ (n : ℕ). n % pages_in (suc depth)) ends ∙ end_rest (suc depth) q)) part

    abbrev more-splits : Survey
    more-splits = record { splits = v.splits + splits_in (3 - under) c; numbers = v.numbers; broken = v.broken }

    part_finds : Finds (Breaks (suc depth)) lo hi v (survey_part under c w v)
    part_finds = by_bool (valid w)
        (λ y. subst (Finds (Breaks (suc depth)) lo hi v) (part_block under c w v refl refl (valid_block depth w low fine y))
        (finds_breach w more-splits refl (omega (arith, piece.some, piece.inside.start_page, piece.inside.end_page))
        (record { word = refl; valid = y; rule = inl splits_it })))
        (λ n. let o = valid_no w n in
        subst (Finds (Breaks (suc depth)) lo hi v)
        (part_other under c w v refl refl (inr (inr (kind_clear under w (λ a. omega arith) (λ a. omega arith)))))
        (finds_none {x = more-splits} refl (λ y u k b B. clash B.valid (ap valid (sym B.word) ∙ n))))

  -- either way
  leaf_finds : (depth q p : ℕ) → depth ≤ 3 → Fine depth w → Piece depth q (area_of (chunk_edit e c) p)
      → Finds (Breaks depth) lo hi v (survey_entry h (3 - depth) (chunk_edit e c) w v)
  leaf_finds zero q p low fine piece =
      let all = page_whole q (area_of (chunk_edit e c) p) piece in
      subst (Finds (Breaks 0) lo hi v) (entry_whole h 3 (chunk_edit e c) w v all) (whole_finds 0 q p low fine piece all)
  leaf_finds (suc depth) q p low fine piece = by_bool (whole (3 - suc depth) c)
      (λ all. subst (Finds (Breaks (suc depth)) lo hi v) (entry_whole h (3 - suc depth) (chunk_edit e c) w v all)
      (whole_finds (suc depth) q p low fine piece all))
      (λ part. subst (Finds (Breaks (suc depth)) lo hi v) (entry_part h (3 - suc depth) (chunk_edit e c) w v part)
      (part_finds depth q p low fine piece part))

-- ---- a table of a sound pool

walk_leaf : (f : ℕ → ℕ) (depth w : ℕ) → walk_tree f depth (leaf w) ≡ record { word = w; depth = depth }
unfolding walk_tree
walk_leaf f zero w = refl
walk_leaf f (suc depth) w = refl

walk_node : (f : ℕ → ℕ) (depth : ℕ) (u : ℕ → Tree) → walk_tree f (suc depth) (node u) ≡ walk_tree f depth (u (f depth))
unfolding walk_tree
walk_node f depth u = refl

module _ {h : Handle} (placed : Placed h) where
  -- the pages of an edit's region that break, in a tree with `depth` levels below
  abbrev pub BreaksIn : Edit → ℕ → Tree → ℕ → ℕ → Type 0
  BreaksIn e depth t y w =
      Broken h e.set e.clear (e.region.start.0 / 4096) (e.region.end.0 / 4096) (walk_tree (slot_of_page y) depth t) y w

  abbrev Scans : ℕ → Type 0
  Scans depth =
      (q k p : ℕ) (e : Edit) (s : St) (v : Survey) → Area depth q (area_of e p) → Ready h s depth k
      → e.region.start.0 ≤ e.region.end.0
      → Finds (BreaksIn e (suc depth) (tree_from h s depth k)) (e.region.start.0 / 4096) (e.region.end.0 / 4096) v
      (survey_range depth h s k e v)

  -- a chunk of a table: where its slot shows t
  abbrev ChunkFinds : (depth : ℕ) → Edit → MemoryRegion → Tree → Survey → Survey → Type 0
  ChunkFinds depth e c t v x = Finds (BreaksIn (chunk_edit e c) depth t) (c.start.0 / 4096) (c.end.0 / 4096) v x

  leaf_chunk : (depth q p : ℕ) (e : Edit) (c : MemoryRegion) (w : ℕ) (v : Survey) → depth ≤ 3 → Fine depth w
      → Piece depth q (area_of (chunk_edit e c) p)
      → ChunkFinds depth e c (leaf w) v (survey_entry h (3 - depth) (chunk_edit e c) w v)
  leaf_chunk depth q p e c w v low fine piece =
      finds_as
      (λ y u k b at. subst (λ (i : Ends). Broken h e.set e.clear (c.start.0 / 4096) (c.end.0 / 4096) i y u)
      (sym (walk_leaf (slot_of_page y) depth w)) at)
      (λ y u k b at. subst (λ (i : Ends). Broken h e.set e.clear (c.start.0 / 4096) (c.end.0 / 4096) i y u)
      (walk_leaf (slot_of_page y) depth w) at)
      (leaf_finds h e c w v depth q p low fine piece)

  chunk_finds : (depth q k : ℕ) (e : Edit) (s : St) → Ready h s (suc depth) k → Scans depth → (c : MemoryRegion) (p : ℕ) (v : Survey)
      → Piece (suc depth) q (area_of (chunk_edit e c) p)
      → ChunkFinds (suc depth) e c (slot_shows h s (suc depth) k (entry_index (3 - suc depth) c.start.0)) v
      (survey_chunk (λ j n y. survey_range depth h s j n y) h s k (3 - suc depth) e c v)
  chunk_finds depth q k e s R scans c p v piece =
      survey_slot placed (λ j n y. survey_range depth h s j n y) s k e c v
      (λ (x : Survey) (u : Tree). ChunkFinds (suc depth) e c u v x) depth R
      (λ w fine. leaf_chunk (suc depth) q p e c w v (omega (arith, R.low)) fine piece)
      (λ j f ready tree. subst (λ (u : Tree). ChunkFinds (suc depth) e c u v (survey_range depth h s j (chunk_edit e c) v)) tree
      (scans q j p (chunk_edit e c) s v (record { inside = piece.inside; room = piece.room }) ready (omega (arith, piece.some))))

  -- a table's chunks
  table_finds : (depth q k p : ℕ) (e : Edit) (s : St) (v : Survey) (f : MemoryRegion → Survey → Survey) → depth ≤ 3
      → Area depth q (area_of e p)
      → e.region.start.0 ≤ e.region.end.0
      → ((c : MemoryRegion) (y : ℕ) (x : Survey) → Piece depth (child q (slot_at depth c)) (area_of (chunk_edit e c) y)
      → ChunkFinds depth e c (slot_shows h s depth k (entry_index (3 - depth) c.start.0)) x (f c x))
      → Finds (BreaksIn e (suc depth) (tree_from h s depth k)) (e.region.start.0 / 4096) (e.region.end.0 / 4096) v
      (each_chunk (3 - depth) f e.region v)
  unfolding each_chunk
  table_finds depth q k p e s v f low area some each =
      let all = fold_finds h e.set e.clear depth q (area_of e p) low f (λ i. slot_shows h s depth k i)
      (λ c y x piece. each c y x (record { inside = piece.inside; some = piece.some; room = piece.room }))
      (chunks_tile (3 - depth) e.region.start.0 e.region.end.0) 0 p v (pieces depth q (area_of e p) low p e.region area) some in
      let tree = tree_at_node (child_of h.base.0) depth (slot_word s) k in
      subst (λ (u : Tree). Finds (BreaksIn e (suc depth) u) (e.region.start.0 / 4096) (e.region.end.0 / 4096) v
      (each_of f (chunks (3 - depth) e.region.start.0 e.region.end.0) v)) (sym tree)
      (finds_as
      (λ y u l b at. subst (λ (i : Ends). Broken h e.set e.clear (e.region.start.0 / 4096) (e.region.end.0 / 4096) i y u)
      (sym (walk_node (slot_of_page y) depth (λ i. slot_shows h s depth k i))) at)
      (λ y u l b at. subst (λ (i : Ends). Broken h e.set e.clear (e.region.start.0 / 4096) (e.region.end.0 / 4096) i y u)
      (walk_node (slot_of_page y) depth (λ i. slot_shows h s depth k i)) at)
      all)

  -- THE LOWEST PAGE
  pub survey_finds : (depth : ℕ) → depth ≤ 3 → Scans depth
  unfolding survey_range
  survey_finds zero low q k p e s v area R some =
      table_finds 0 q k p e s v (survey_chunk (λ j n x. x) h s k 3 e) low area some
      (λ c y x piece. survey_page placed (λ j n z. z) s k e c x (λ (z : Survey) (u : Tree). ChunkFinds 0 e c u x z) R
      (λ w fine. leaf_chunk 0 (child q (slot_at 0 c)) y e c w x (omega arith) fine piece))
  survey_finds (suc depth) low q k p e s v area R some =
      table_finds (suc depth) q k p e s v (survey_chunk (λ j n x. survey_range depth h s j n x) h s k (3 - suc depth) e) low area some
      (λ c y x piece. chunk_finds depth (child q (slot_at (suc depth) c)) k e s R (survey_finds depth (omega arith)) c y x piece)
