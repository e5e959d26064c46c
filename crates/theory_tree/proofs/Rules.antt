-- Theorems about the definitions of specs/Rules.
use Rattle.std.specs.Prelude.{◌≡◌, true, not, ◌&&◌, eqb}
use Rattle.std.proofs.Math.Path.{refl}
use Rattle.std.proofs.Math.Bool.{false, and-false}
use Prim.Native.Nat.{ℕ, zero, suc, ◌+◌, ◌%◌, ◌<◌}
use Rattle.std.proofs.Math.Dec.{ltb}
use borrow.Author.Tests.{ltb-true, eqb-true, eq-eqb, not-true}
use Rattle.laws.specs.Test.{by_bool, both}
use Rattle.entry.specs.Word.{flags_of, valid}
use Rattle.theory_forest.specs.Tree.{Tree, leaf, node}
use Rattle.theory_tree.specs.Page.{pages_in}
use Rattle.theory_tree.specs.Word.{frame_in, leaf_word_of}
use Rattle.theory_tree.specs.Visit.{keep, write, down, no_write}
use Rattle.theory_tree.specs.Rules.{Map, meets, whole, frame_at, same, fits, drops, map_rule}

-- ---- what the tests say

module _ (depth b : ℕ) (m : Map) where
  pub drops_yes : drops depth b m ≡ true → (whole depth b m ≡ true) × (valid m.flags ≡ false)
  unfolding drops
  drops_yes e = let h = both (whole depth b m) (not (valid m.flags)) e in (h.0, not-true (valid m.flags) h.1)

  pub drops_no : whole depth b m ≡ false → drops depth b m ≡ false
  unfolding drops
  drops_no e = rw e

  pub drops-valid : valid m.flags ≡ true → drops depth b m ≡ false
  unfolding drops
  drops-valid v = rw v (and-false (whole depth b m))

  pub fits_no : whole depth b m ≡ false → fits depth b m ≡ false
  unfolding fits
  fits_no e = rw e

  pub fits_yes : fits depth b m ≡ true → (whole depth b m ≡ true) × (frame_at b m % pages_in depth ≡ 0) × (depth < 3)
  unfolding fits
  fits_yes e =
      let h = both (whole depth b m) (eqb (frame_at b m % pages_in depth) 0 && (m.blocks && ltb depth 3)) e in
      let k = both (eqb (frame_at b m % pages_in depth) 0) (m.blocks && ltb depth 3) h.1 in
      let l = both m.blocks (ltb depth 3) k.1 in
      (h.0, eqb-true (frame_at b m % pages_in depth) 0 k.0, ltb-true depth 3 l.1)

module _ (b : ℕ) (m : Map) where
  pub same_yes : (w : ℕ) → same b m w ≡ true → (flags_of w ≡ m.flags) × (m.frame + b ≡ frame_in w + m.from)
  unfolding same
  same_yes w e =
      let h = both (eqb (flags_of w) m.flags) (eqb (m.frame + b) (frame_in w + m.from)) e in
      (eqb-true (flags_of w) m.flags h.0, eqb-true (m.frame + b) (frame_in w + m.from) h.1)

  pub yes_same : (w : ℕ) → flags_of w ≡ m.flags → m.frame + b ≡ frame_in w + m.from → same b m w ≡ true
  unfolding same
  yes_same w p q = rw (eq-eqb (flags_of w) m.flags p, eq-eqb (m.frame + b) (frame_in w + m.from) q)

-- ---- the rules, one law each

module _ (m : Map) where
  pub rule_off : (depth b : ℕ) (t : Tree) → meets depth b m ≡ false → map_rule m depth b t ≡ keep
  unfolding map_rule
  rule_off zero b (leaf w) e = rw e
  rule_off zero b (node f) e = refl
  rule_off (suc depth) b (leaf w) e = rw e
  rule_off (suc depth) b (node f) e = rw e

  pub rule_page : (b w : ℕ) → meets zero b m ≡ true → map_rule m zero b (leaf w) ≡ write (leaf_word_of zero (frame_at b m) m.flags)
  unfolding map_rule
  rule_page b w e = rw e

  module _ (depth b : ℕ) where
    pub rule-same : (w : ℕ) → same b m w ≡ true → map_rule m (suc depth) b (leaf w) ≡ keep
    unfolding map_rule
    rule-same w s = by_bool (meets (suc depth) b m) (λ e. rw (e, s)) (λ e. rw e)

    pub rule_block : (w : ℕ) → meets (suc depth) b m ≡ true → same b m w ≡ false → fits (suc depth) b m ≡ true
        → map_rule m (suc depth) b (leaf w) ≡ write (leaf_word_of (suc depth) (frame_at b m) m.flags)
    unfolding map_rule
    rule_block w e s k = rw (e, s, k)

    pub rule-drop : (f : ℕ → Tree) → meets (suc depth) b m ≡ true → drops (suc depth) b m ≡ true
        → map_rule m (suc depth) b (node f) ≡ write m.flags
    unfolding map_rule
    rule-drop f e d = rw (e, d)

    pub rule-split : (w : ℕ) → meets (suc depth) b m ≡ true → same b m w ≡ false → fits (suc depth) b m ≡ false
        → map_rule m (suc depth) b (leaf w) ≡ down
    unfolding map_rule
    rule-split w e s k = rw (e, s, k)

    pub rule-down : (f : ℕ → Tree) → meets (suc depth) b m ≡ true → drops (suc depth) b m ≡ false → map_rule m (suc depth) b (node f) ≡ down
    unfolding map_rule
    rule-down f e d = rw (e, d)

  -- a VALID map never writes over a table
  pub rule_keeps_table : valid m.flags ≡ true → (depth b : ℕ) (f : ℕ → Tree) (x : ℕ) → map_rule m depth b (node f) ≡ write x → ⊥
  unfolding map_rule
  rule_keeps_table v zero b f x e = no_write false x e
  rule_keeps_table v (suc depth) b f x e = no_write (meets (suc depth) b m) x (rw (drops-valid (suc depth) b m v) at e)
