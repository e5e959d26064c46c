-- Theorems about the definitions of specs/After.
use Rattle.std.specs.Prelude.{◌≡◌, true, ℕ, zero, suc, ◌+◌, ◌-◌, ◌%◌, ◌^◌, ◌≤◌, ◌<◌}
use Rattle.std.proofs.Math.Path.{sym, ap}
use Rattle.std.proofs.Common.{◌∙◌, subst}
use Rattle.std.proofs.Math.Nat.{mod-one}
use native.Mathlib.Omega.{arith}
use Rattle.laws.specs.Test.{by_bool}
use Rattle.entry.specs.Word.{valid, plain_flags, flags_valid}
use Rattle.theory_forest.specs.Tree.{Tree, leaf, node}
use Rattle.theory_tree.specs.Page.{pages_in, span-zero, span_pos, first, In, in_from, in_rest}
use Rattle.theory_tree.specs.Word.{frame_in, leaf_word_of, leaf_hole, plain_flags_lem}
use Rattle.theory_tree.specs.Fine.{Fine, fine_flags, fine_leaf}
use Rattle.theory_tree.specs.Walk.{Seen, mapped, seen, seen_in, seen_leaf, seen_fine, seen_leaf_word, seen_flags}
use Rattle.theory_tree.specs.Shown.{FineTree, Good, Right, Shows}
use Rattle.theory_tree.specs.Rules.{Map, Given, meets, frame_at, same, fits, drops, map_rule, whole_yes}
use Rattle.theory_tree.proofs.Rules.{drops_yes}
use Rattle.theory_tree.specs.Rules.{page_in}
use Rattle.theory_tree.proofs.Rules.{fits_yes, same_yes, rule_off, rule_page}
use Rattle.theory_tree.proofs.Rules.{rule-same, rule_block, rule-drop, rule-split, rule-down}
use Rattle.theory_tree.specs.After.{covers, asked, after, yes_covers, covers_yes, after_in}
use Rattle.theory_tree.specs.After.{after-out, asked-valid, asked_hole, off_out, whole_in, frame_page_lem}

-- ---- what is written

module _ (m : Map) (G : Given m) where
  -- a frame of the region is below 2^48
  frame_at_lem : (b : ℕ) → m.from ≤ b → b < m.upto → frame_at b m < 2 ^ 36
  unfolding frame_at
  frame_at_lem b p q = let e = G.ends in omega arith

  page_aligned : (p : ℕ) → p % pages_in zero ≡ 0
  unfolding pages_in
  page_aligned p = mod-one p

  page_good : (b : ℕ) → meets zero b m ≡ true → Fine zero (leaf_word_of zero (frame_at b m) m.flags)
  page_good b e =
      let x = page_in b m e in
      fine_leaf zero (frame_at b m) m.flags G.plain (frame_at_lem b x.0 x.1) (page_aligned (frame_at b m)) (omega arith)

  block_good : (depth b : ℕ) → fits depth b m ≡ true → Fine depth (leaf_word_of depth (frame_at b m) m.flags)
  block_good depth b e =
      let x = fits_yes depth b m e in
      let y = whole_yes depth b m x.0 in
      let z = span_pos depth in
      fine_leaf depth (frame_at b m) m.flags G.plain (frame_at_lem b y.0 (omega arith)) x.1 x.2

  map_good : (depth q : ℕ) (t : Tree) → FineTree depth t → Good depth (map_rule m depth (first depth q) t)
  map_good depth q t fine =
      by_bool (meets depth (first depth q) m) (met depth t fine) (λ e. subst (Good depth) (sym (rule_off m depth (first depth q) t e)) tt)
    where
      met : (k : ℕ) (u : Tree) → FineTree k u → meets k (first k q) m ≡ true → Good k (map_rule m k (first k q) u)
      met zero (leaf w) fu e = subst (Good zero) (sym (rule_page m (first zero q) w e)) (page_good (first zero q) e)
      met zero (node g) fu e = absurd fu
      met (suc k) (leaf w) fu e = let b : ℕ = first (suc k) q in by_bool (same b m w)
          (λ s. subst (Good (suc k)) (sym (rule-same m k b w s)) tt)
          (λ s. by_bool (fits (suc k) b m)
          (λ f. subst (Good (suc k)) (sym (rule_block m k b w e s f)) (block_good (suc k) b f))
          (λ f. subst (Good (suc k)) (sym (rule-split m k b w e s f)) tt))
      met (suc k) (node g) fu e = let b : ℕ = first (suc k) q in by_bool (drops (suc k) b m)
          (λ d. subst (Good (suc k)) (sym (rule-drop m k b g e d)) (fine_flags (suc k) m.flags G.plain (drops_yes (suc k) b m d).1))
          (λ d. subst (Good (suc k)) (sym (rule-down m k b g e d)) tt)

  -- ---- what is seen

  -- rules 1 and 3: frame and flags
  written-seen : (depth q page : ℕ) → In depth q page → m.from ≤ first depth q → frame_at (first depth q) m < 2 ^ 36
      → frame_at (first depth q) m % pages_in depth ≡ 0 → depth < 3
      → seen_in depth (leaf_word_of depth (frame_at (first depth q) m) m.flags) page ≡ asked m page
  written-seen depth q page at h below aligned low =
      let p : ℕ = frame_at (first depth q) m in
      by_bool (valid m.flags)
      (λ v. seen_leaf_word depth p m.flags page G.plain below aligned low v
      ∙ ap (mapped m.flags) (frame_page_lem m depth q page at h) ∙ sym (asked-valid m page v))
      (λ v. ap (λ (x : ℕ). seen_in depth x page) (leaf_hole m.flags G.plain depth p v)
      ∙ seen_flags depth m.flags page G.plain v ∙ sym (asked_hole m page v))

  -- rule 2: what is there shows it already
  same_seen : (depth q w page : ℕ) → Fine (suc depth) w → In (suc depth) q page → same (first (suc depth) q) m w ≡ true
      → covers m page ≡ true
      → seen_in (suc depth) w page ≡ asked m page
  unfolding asked
  same_seen depth q w page fine at s c =
      let x = same_yes (first (suc depth) q) m w s in
      let y = covers_yes m page c in
      let r = in_rest (suc depth) q page at in
      let flags : plain_flags w ≡ m.flags = plain_flags_lem w (fine.clear (omega arith)) ∙ x.0 in
      let odd : valid w ≡ valid m.flags = sym (flags_valid w) ∙ ap valid x.0 in
      let frame : frame_in w + page % pages_in (suc depth) ≡ m.frame + (page - m.from) = omega arith in
      seen_fine (suc depth) w page fine ∙ rw (flags, odd, frame)

  map_right : (depth q : ℕ) (t : Tree) (page : ℕ) → FineTree depth t → In depth q page
      → Right (after m) depth t page (map_rule m depth (first depth q) t)
  map_right depth q t page fine at = by_bool (meets depth (first depth q) m) (met depth t fine at)
      (λ e. subst (Right (after m) depth t page) (sym (rule_off m depth (first depth q) t e))
      (sym (after-out m page (seen depth t page) (off_out m depth q page at e))))
    where
      met : (k : ℕ) (u : Tree) → FineTree k u → In k q page → meets k (first k q) m ≡ true
          → Right (after m) k u page (map_rule m k (first k q) u)
      met zero (node g) fu in0 e = absurd fu
      met zero (leaf w) fu in0 e =
          let b : ℕ = first zero q in
          let x = page_in b m e in
          let y = in_from zero q page in0 in
          let z = span-zero in
          subst (Right (after m) zero (leaf w) page) (sym (rule_page m b w e))
          (written-seen zero q page in0 x.0 (frame_at_lem b x.0 x.1) (page_aligned (frame_at b m)) (omega arith)
          ∙ sym (after_in m page (seen zero (leaf w) page) (yes_covers m page (omega arith) (omega arith))))
      met (suc k) (leaf w) fu inq e =
          let b : ℕ = first (suc k) q in
          let old : Seen = seen (suc k) (leaf w) page in
          by_bool (same b m w)
          (λ s. subst (Right (after m) (suc k) (leaf w) page) (sym (rule-same m k b w s)) (by_bool (covers m page)
          (λ c. seen_leaf (suc k) w page ∙ same_seen k q w page fu inq s c ∙ sym (after_in m page old c))
          (λ c. sym (after-out m page old c))))
          (λ s. by_bool (fits (suc k) b m)
          (λ f. let x = fits_yes (suc k) b m f in
          let y = whole_yes (suc k) b m x.0 in
          let z = span_pos (suc k) in
          subst (Right (after m) (suc k) (leaf w) page) (sym (rule_block m k b w e s f))
          (written-seen (suc k) q page inq y.0 (frame_at_lem b y.0 (omega arith)) x.1 x.2
          ∙ sym (after_in m page old (whole_in m (suc k) q page inq x.0))))
          (λ f. subst (Right (after m) (suc k) (leaf w) page) (sym (rule-split m k b w e s f)) tt))
      met (suc k) (node g) fu inq e =
          let b : ℕ = first (suc k) q in
          by_bool (drops (suc k) b m)
          (λ d. let x = drops_yes (suc k) b m d in
          subst (Right (after m) (suc k) (node g) page) (sym (rule-drop m k b g e d))
          (seen_flags (suc k) m.flags page G.plain x.1 ∙ sym (asked_hole m page x.1)
          ∙ sym (after_in m page (seen (suc k) (node g) page) (whole_in m (suc k) q page inq x.0))))
          (λ d. subst (Right (after m) (suc k) (node g) page) (sym (rule-down m k b g e d)) tt)

  -- A MAP BRINGS ABOUT `after`
  pub map_shows : Shows (map_rule m) (after m)
  map_shows = record { good = map_good; right = map_right }
