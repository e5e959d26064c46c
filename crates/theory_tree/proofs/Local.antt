-- Theorems about the definitions of specs/Local.
use Rattle.std.specs.Prelude.{◌≡◌, refl, Bool, false, eqb, leb}
use Rattle.std.proofs.Common.{sym, ◌∙◌, arith, leb-true, leb-false, le-leb}
use Rattle.std.proofs.Math.Path.{ap, ap₂}
use Rattle.std.proofs.Math.Bool.{not, ◌&&◌}
use Prim.Native.Nat.{ℕ, zero, suc, ◌+◌, ◌≤◌}
use Rattle.std.proofs.Math.Dec.{eqb→eq}
use Rattle.std.proofs.lemmas.Bool.{lt-leb}
use Rattle.laws.specs.Test.{by_bool, same_test, eq→eqb}
use Rattle.entry.specs.Word.{flags_of, valid}
use Rattle.theory_forest.specs.Tree.{Tree, leaf, node, each_slot}
use Rattle.theory_tree.specs.Page.{pages_in, first, child}
use Rattle.theory_tree.specs.Word.{frame_in, leaf_word_of}
use Rattle.theory_tree.specs.Visit.{Rule, opened, obey, visit}
use Rattle.theory_tree.proofs.Visit.{visit_keep}
use Rattle.theory_tree.specs.Slots.{each_same, fill_slot}
use Rattle.theory_tree.proofs.Slots.{fill_node}
use Rattle.theory_tree.specs.Rules.{Map, meets, whole, frame_at, same, fits, drops, map_rule, whole_yes, page_in}
use Rattle.theory_tree.proofs.Rules.{fits_yes, rule_off}
use Rattle.theory_tree.specs.Local.{Agree, Local, agree_child, agree_meets}

module _ {rule : Map → ℕ → ℕ → Tree → Rule} (L : Local rule) where
  pub visit_off : (m : Map) (depth q : ℕ) (t : Tree) → meets depth (first depth q) m ≡ false → visit (rule m) depth q t ≡ t
  visit_off m depth q t e = visit_keep (rule m) depth q t (L.off m depth (first depth q) t e)

  -- one tree from two calls that agree on its entry
  pub visit_agree : (m n : Map) (depth q : ℕ) (t : Tree) → Agree depth (first depth q) m n
      → visit (rule m) depth q t ≡ visit (rule n) depth q t
  unfolding visit opened
  visit_agree m n zero q t a = ap (λ (x : Rule). obey x t t) (L.agree m n zero (first zero q) t a)
  visit_agree m n (suc depth) q (leaf w) a =
      ap₂ (λ (x : Rule) (u : Tree). obey x (leaf w) u) (L.agree m n (suc depth) (first (suc depth) q) (leaf w) a)
      (ap (each_slot (λ i u. visit (rule m) depth (child q i) u)) (fill_node depth w)
      ∙ each_same (λ i u. visit (rule m) depth (child q i) u) (λ i u. visit (rule n) depth (child q i) u) (fill_slot depth w)
      (λ i l. visit_agree m n depth (child q i) (fill_slot depth w i) (agree_child depth q i m n l a))
      ∙ ap (each_slot (λ i u. visit (rule n) depth (child q i) u)) (sym (fill_node depth w)))
  visit_agree m n (suc depth) q (node f) a =
      ap₂ (λ (x : Rule) (u : Tree). obey x (node f) u) (L.agree m n (suc depth) (first (suc depth) q) (node f) a)
      (each_same (λ i u. visit (rule m) depth (child q i) u) (λ i u. visit (rule n) depth (child q i) u) f
      (λ i l. visit_agree m n depth (child q i) (f i) (agree_child depth q i m n l a)))

-- ---- the rules of a map are such

module _ (depth b : ℕ) (m n : Map) (a : Agree depth b m n) where
  agree_from : leb m.from b ≡ leb n.from b
  agree_from = by_bool (leb m.from b)
      (λ e. e ∙ sym (le-leb n.from b (omega (arith, leb-true m.from b e, a.starts))))
      (λ e. e ∙ sym (lt-leb n.from b (omega (arith, leb-false m.from b e, a.starts))))

  agree_upto : leb (b + pages_in depth) m.upto ≡ leb (b + pages_in depth) n.upto
  agree_upto = by_bool (leb (b + pages_in depth) m.upto)
      (λ e. e ∙ sym (le-leb (b + pages_in depth) n.upto (omega (arith, leb-true (b + pages_in depth) m.upto e, a.stops))))
      (λ e. e ∙ sym (lt-leb (b + pages_in depth) n.upto (omega (arith, leb-false (b + pages_in depth) m.upto e, a.stops))))

  pub agree_whole : whole depth b m ≡ whole depth b n
  unfolding whole
  agree_whole = ap₂ ◌&&◌ agree_from agree_upto

  agree_drops : drops depth b m ≡ drops depth b n
  unfolding drops
  agree_drops = ap₂ (λ (x : Bool) (f : ℕ). x && not (valid f)) agree_whole a.same_flags

  agree_frame : m.from ≤ b → frame_at b m ≡ frame_at b n
  unfolding frame_at
  agree_frame h = omega (arith, a.starts, a.frames)

  agree_fits : fits depth b m ≡ fits depth b n
  unfolding fits
  agree_fits = by_bool (whole depth b m)
      (λ w. rw (← agree_whole, w, agree_frame (whole_yes depth b m w).0, a.same_blocks))
      (λ w. rw (← agree_whole, w))

  agree_same : (w : ℕ) → same b m w ≡ same b n w
  unfolding same
  agree_same w =
      ap₂ ◌&&◌ (ap (eqb (flags_of w)) a.same_flags)
      (same_test (eqb (m.frame + b) (frame_in w + m.from)) (eqb (n.frame + b) (frame_in w + n.from))
      (λ t. eq→eqb (n.frame + b) (frame_in w + n.from) (let e = eqb→eq (m.frame + b) (frame_in w + m.from) t in omega (arith, a.frames)))
      (λ t. eq→eqb (m.frame + b) (frame_in w + m.from)
      (let e = eqb→eq (n.frame + b) (frame_in w + n.from) t in omega (arith, a.frames))))

  -- what rules 1 and 3 write
  agree_word : m.from ≤ b → leaf_word_of depth (frame_at b m) m.flags ≡ leaf_word_of depth (frame_at b n) n.flags
  agree_word h = ap₂ (leaf_word_of depth) (agree_frame h) a.same_flags

map_agree : (m n : Map) (depth b : ℕ) (t : Tree) → Agree depth b m n → map_rule m depth b t ≡ map_rule n depth b t
unfolding map_rule
map_agree m n zero b (leaf w) a = by_bool (meets zero b m)
    (λ e. rw (← agree_meets zero b m n a, e, agree_word zero b m n a (page_in b m e).0))
    (λ e. rw (← agree_meets zero b m n a, e))
map_agree m n zero b (node f) a = refl
map_agree m n (suc depth) b (leaf w) a = by_bool (fits (suc depth) b m)
    (λ k. rw (
      ← agree_fits (suc depth) b m n a,
      k,
      agree_meets (suc depth) b m n a,
      agree_same (suc depth) b m n a w,
      agree_word (suc depth) b m n a (whole_yes (suc depth) b m (fits_yes (suc depth) b m k).0).0,
    ))
    (λ k. rw (← agree_fits (suc depth) b m n a, k, agree_meets (suc depth) b m n a, agree_same (suc depth) b m n a w))
map_agree m n (suc depth) b (node f) a =
    rw (agree_meets (suc depth) b m n a, agree_drops (suc depth) b m n a, a.same_flags)

pub map_local : Local map_rule
map_local = record { off = λ m depth b t e. rule_off m depth b t e; agree = map_agree }
