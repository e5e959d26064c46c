-- Theorems about the definitions of specs/Commute.
use Rattle.std.specs.Prelude.{◌≡◌, false}
use Rattle.std.proofs.Math.Path.{sym, ap}
use Rattle.std.proofs.Common.{ap₂, ◌∙◌}
use Rattle.std.proofs.Math.Bool.{true}
use Prim.Native.Nat.{ℕ, zero, suc, ◌+◌, ◌*◌, ◌-◌, ◌<◌, max}
use Rattle.std.proofs.Math.Nat.{add-zero}
use native.Mathlib.Omega.{arith}
use Rattle.laws.specs.Test.{by_bool}
use Rattle.entry.specs.Word.{flags_of, valid, flags_valid}
use Rattle.theory_forest.specs.Tree.{Tree, leaf, node, each_slot}
use Rattle.theory_tree.specs.Page.{pages_in, span_pos, first, child, child-first}
use Rattle.theory_tree.specs.Word.{frame_in, leaf_word_of, fill_word, page_bit, leaf_frame, leaf_flags}
use Rattle.theory_tree.specs.Fine.{Fine}
use Rattle.theory_tree.proofs.Fine.{fill_flags, fill_is, fill_below}
use Rattle.theory_tree.specs.Visit.{opened, visit, visit_table}
use Rattle.theory_tree.proofs.Visit.{visit_keep, visit_write, visit-down}
use Rattle.theory_tree.specs.Slots.{slot_after, each_node, each_same, each_both, fill_slot}
use Rattle.theory_tree.proofs.Slots.{fill_node, fill_slot_lem}
use Rattle.theory_tree.specs.Shown.{FineTree, FineTable}
use Rattle.theory_tree.proofs.Shown.{fine_fill_slots}
use Rattle.theory_tree.specs.Rules.{Map, meets, whole, frame_at, same, map_rule, meets_yes, whole_yes}
use Rattle.theory_tree.proofs.Rules.{drops_no, fits_no, same_yes}
use Rattle.theory_tree.specs.Rules.{page_in}
use Rattle.theory_tree.proofs.Rules.{yes_same, rule_off, rule_page, rule-same}
use Rattle.theory_tree.proofs.Rules.{rule-split, rule-down}
use Rattle.theory_tree.specs.Commute.{Apart, apart_flip}

-- where both meet an entry, neither is the whole of it
not-whole : (depth b : ℕ) (m n : Map) → Apart m n → meets depth b m ≡ true → meets depth b n ≡ true → whole depth b m ≡ false
not-whole depth b m n apart p q = by_bool (whole depth b m)
    (λ w. let x = whole_yes depth b m w in let y = meets_yes depth b n q in let z = span_pos depth in
    absurd (apart (max n.from b) (omega arith) (omega arith) (omega arith) (omega arith)))
    (λ w. w)

-- the map's work on an entry
abbrev work : Map → ℕ → ℕ → Tree → Tree
work m = visit (map_rule m)

module _ (m : Map) where
  work_off : (depth q : ℕ) (t : Tree) → meets depth (first depth q) m ≡ false → work m depth q t ≡ t
  work_off depth q t e = visit_keep (map_rule m) depth q t (rule_off m depth (first depth q) t e)

  -- a VALID map leaves the fill of a word alone which rule 2 lets it keep: this is why rule 2 does not spoil the order
  keeps_fill : (depth q w i : ℕ) → valid m.flags ≡ true → Fine (suc depth) w → same (first (suc depth) q) m w ≡ true → i < 512
      → work m depth (child q i) (leaf (fill_word depth w i)) ≡ leaf (fill_word depth w i)
  unfolding frame_at page_bit
  keeps_fill zero q w i v fine s l =
      let b : ℕ = first zero (child q i) in
      let old : Tree = leaf (fill_word zero w i) in
      by_bool (meets zero b m)
      (λ e. let x = same_yes (first 1 q) m w s in
      let y = page_in b m e in
      let z = child-first zero q i in
      let frames : m.frame + (b - m.from) ≡ frame_in w + i * pages_in zero = omega arith in
      visit_write (map_rule m) zero (child q i) old _ (rule_page m b (fill_word zero w i) e)
      ∙ ap leaf (ap₂ (leaf_word_of zero) frames (sym x.0) ∙ sym (fill_is zero w fine i)))
      (λ e. work_off zero (child q i) old e)
  keeps_fill (suc depth) q w i v fine s l =
      let b : ℕ = first (suc depth) (child q i) in
      let p : ℕ = frame_in w + i * pages_in (suc depth) in
      let x = same_yes (first (suc (suc depth)) q) m w s in
      let F = fill_flags (suc depth) w fine in
      let vw : valid (flags_of w) ≡ true = ap valid x.0 ∙ v in
      let below = fill_below (suc depth) w fine i l (sym (flags_valid w) ∙ vw) in
      let z = child-first (suc depth) q i in
      let word = fill_is (suc depth) w fine i in
      let flags = ap flags_of word ∙ leaf_flags (flags_of w) F (suc depth) p below vw in
      let frame = ap frame_in word ∙ leaf_frame (flags_of w) F (suc depth) p below vw in
      visit_keep (map_rule m) (suc depth) (child q i) (leaf (fill_word (suc depth) w i))
      (rule-same m depth b (fill_word (suc depth) w i)
      (yes_same b m (fill_word (suc depth) w i) (flags ∙ add-zero (flags_of w) ∙ x.0) (omega arith)))

  -- a table that the map goes down into
  module _ (depth q : ℕ) (met : meets (suc depth) (first (suc depth) q) m ≡ true)
      (part : whole (suc depth) (first (suc depth) q) m ≡ false) where
    work-down : (f : ℕ → Tree) → work m (suc depth) q (node f) ≡ each_slot (λ i u. work m depth (child q i) u) (node f)
    unfolding opened visit_table
    work-down f =
        visit-down (map_rule m) depth q (node f)
        (rule-down m depth (first (suc depth) q) f met (drops_no (suc depth) (first (suc depth) q) m part))

    work-each : (h : ℕ → Tree → Tree) (f : ℕ → Tree)
        → work m (suc depth) q (each_slot h (node f)) ≡ each_slot (λ i u. work m depth (child q i) (h i u)) (node f)
    work-each h f =
        ap (work m (suc depth) q) (each_node h f) ∙ work-down (slot_after h f)
        ∙ ap (each_slot (λ i u. work m depth (child q i) u)) (sym (each_node h f))
        ∙ each_both (λ i u. work m depth (child q i) u) h (node f)

    -- a word that it splits
    work-split : (w : ℕ) → same (first (suc depth) q) m w ≡ false
        → work m (suc depth) q (leaf w) ≡ each_slot (λ i u. work m depth (child q i) u) (node (fill_slot depth w))
    unfolding opened visit_table
    work-split w s =
        visit-down (map_rule m) depth q (leaf w)
        (rule-split m depth (first (suc depth) q) w met s (fits_no (suc depth) (first (suc depth) q) m part))
        ∙ ap (visit_table (map_rule m) depth q) (fill_node depth w)

  work-same : (depth q w : ℕ) → same (first (suc depth) q) m w ≡ true → work m (suc depth) q (leaf w) ≡ leaf w
  work-same depth q w s = visit_keep (map_rule m) (suc depth) q (leaf w) (rule-same m depth (first (suc depth) q) w s)

-- the order of the two does not matter for the entries one level down
abbrev Below : Map → Map → ℕ → Type 0
Below m n depth = (q : ℕ) (t : Tree) → FineTree depth t → work m depth q (work n depth q t) ≡ work n depth q (work m depth q t)

-- two maps that both meet the entry, and neither is the whole of it
record Meet (depth q : ℕ) (m n : Map) : Type 0 where
  below : Below m n depth
  one : meets (suc depth) (first (suc depth) q) m ≡ true
  two : meets (suc depth) (first (suc depth) q) n ≡ true
  part_one : whole (suc depth) (first (suc depth) q) m ≡ false
  part_two : whole (suc depth) (first (suc depth) q) n ≡ false

flip : {depth q : ℕ} {m n : Map} → Meet depth q m n → Meet depth q n m
flip c = record { below = λ q t fine. sym (c.below q t fine); one = c.two; two = c.one; part_one = c.part_two; part_two = c.part_one }

module _ (depth q : ℕ) (m n : Map) (c : Meet depth q m n) where
  -- two maps that both go down: slot by slot
  both_down : (f : ℕ → Tree) → ((i : ℕ) → i < 512 → FineTree depth (f i))
      → work m (suc depth) q (each_slot (λ i u. work n depth (child q i) u) (node f))
      ≡ work n (suc depth) q (each_slot (λ i u. work m depth (child q i) u) (node f))
  both_down f fine =
      work-each m depth q c.one c.part_one (λ i u. work n depth (child q i) u) f
      ∙ each_same (λ i u. work m depth (child q i) (work n depth (child q i) u))
      (λ i u. work n depth (child q i) (work m depth (child q i) u)) f
      (λ i l. c.below (child q i) (f i) (fine i l))
      ∙ sym (work-each n depth q c.two c.part_two (λ i u. work m depth (child q i) u) f)

  -- m keeps the word and n splits it: m keeps what n made
  one-splits : valid m.flags ≡ true → (w : ℕ) → Fine (suc depth) w → same (first (suc depth) q) m w ≡ true
      → same (first (suc depth) q) n w ≡ false
      → work m (suc depth) q (work n (suc depth) q (leaf w)) ≡ work n (suc depth) q (leaf w)
  one-splits v w fine sm sn =
      let g : ℕ → Tree = fill_slot depth w in
      let split = work-split n depth q c.two c.part_two w sn in
      ap (work m (suc depth) q) split
      ∙ work-each m depth q c.one c.part_one (λ i u. work n depth (child q i) u) g
      ∙ each_same (λ i u. work m depth (child q i) (work n depth (child q i) u)) (λ i u. work n depth (child q i) u) g
      (λ i l. c.below (child q i) (g i) (fine_fill_slots depth w fine i l)
      ∙ ap (work n depth (child q i))
      (ap (work m depth (child q i)) (fill_slot_lem depth w i l) ∙ keeps_fill m depth q w i v fine sm l ∙ sym (fill_slot_lem depth w i l)))
      ∙ sym split

-- two maps that both meet the entry
inside : (depth q : ℕ) (m n : Map) → Meet depth q m n → valid m.flags ≡ true → valid n.flags ≡ true → (t : Tree)
    → FineTree (suc depth) t
    → work m (suc depth) q (work n (suc depth) q t) ≡ work n (suc depth) q (work m (suc depth) q t)
inside depth q m n c vm vn (leaf w) fine =
    let b : ℕ = first (suc depth) q in
    by_bool (same b m w)
    (λ sm. let keeps = work-same m depth q w sm in by_bool (same b n w)
    (λ sn. let keeps' = work-same n depth q w sn in
    ap (work m (suc depth) q) keeps' ∙ keeps ∙ sym (ap (work n (suc depth) q) keeps ∙ keeps'))
    (λ sn. one-splits depth q m n c vm w fine sm sn ∙ ap (work n (suc depth) q) (sym keeps)))
    (λ sm. by_bool (same b n w)
    (λ sn. let keeps' = work-same n depth q w sn in
    ap (work m (suc depth) q) keeps' ∙ sym (one-splits depth q n m (flip c) vn w fine sn sm))
    (λ sn. ap (work m (suc depth) q) (work-split n depth q c.two c.part_two w sn)
    ∙ both_down depth q m n c (fill_slot depth w) (fine_fill_slots depth w fine)
    ∙ ap (work n (suc depth) q) (sym (work-split m depth q c.one c.part_one w sm))))
inside depth q m n c vm vn (node f) fine =
    ap (work m (suc depth) q) (work-down n depth q c.two c.part_two f)
    ∙ both_down depth q m n c f fine
    ∙ ap (work n (suc depth) q) (sym (work-down m depth q c.one c.part_one f))

module _ (m n : Map) (apart : Apart m n) (vm : valid m.flags ≡ true) (vn : valid n.flags ≡ true) where
  -- one of them does not meet the entry
  away : (depth q : ℕ) (t : Tree) → meets depth (first depth q) n ≡ false
      → work m depth q (work n depth q t) ≡ work n depth q (work m depth q t)
  away depth q t e = ap (work m depth q) (work_off n depth q t e) ∙ sym (work_off n depth q (work m depth q t) e)

  away' : (depth q : ℕ) (t : Tree) → meets depth (first depth q) m ≡ false
      → work m depth q (work n depth q t) ≡ work n depth q (work m depth q t)
  away' depth q t e = work_off m depth q (work n depth q t) e ∙ ap (work n depth q) (sym (work_off m depth q t e))

  -- THE ORDER OF TWO MAPS of an entry
  pub commute : (depth q : ℕ) (t : Tree) → FineTree depth t → work m depth q (work n depth q t) ≡ work n depth q (work m depth q t)
  commute zero q t fine =
      let b : ℕ = first zero q in
      by_bool (meets zero b m)
      (λ em. by_bool (meets zero b n)
      (λ en. let x = page_in b m em in let y = page_in b n en in absurd (apart b x.0 x.1 y.0 y.1))
      (away zero q t))
      (away' zero q t)
  commute (suc depth) q t fine =
      let b : ℕ = first (suc depth) q in
      by_bool (meets (suc depth) b m)
      (λ em. by_bool (meets (suc depth) b n)
      (λ en. inside depth q m n (record {
        below = λ p u fu. commute depth p u fu;
        one = em;
        two = en;
        part_one = not-whole (suc depth) b m n apart em en;
        part_two = not-whole (suc depth) b n m (apart_flip m n apart) en em;
      }) vm vn t fine)
      (away (suc depth) q t))
      (away' (suc depth) q t)

  -- THE ORDER OF TWO MAPS of a table
  pub commute_table : (depth q : ℕ) (t : Tree) → FineTable depth t
      → visit_table (map_rule m) depth q (visit_table (map_rule n) depth q t)
      ≡ visit_table (map_rule n) depth q (visit_table (map_rule m) depth q t)
  unfolding visit_table
  commute_table depth q (leaf w) fine = absurd fine
  commute_table depth q (node f) fine =
      each_both (λ i u. work m depth (child q i) u) (λ i u. work n depth (child q i) u) (node f)
      ∙ each_same (λ i u. work m depth (child q i) (work n depth (child q i) u))
      (λ i u. work n depth (child q i) (work m depth (child q i) u)) f
      (λ i l. commute depth (child q i) (f i) (fine i l))
      ∙ sym (each_both (λ i u. work n depth (child q i) u) (λ i u. work m depth (child q i) u) (node f))
