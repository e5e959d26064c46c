-- Theorems about the definitions of specs/Alike.
use Rattle.std.specs.Prelude.{◌≡◌, refl, true, ℕ, ◌-◌, ◌/◌}
use Rattle.std.proofs.Math.Path.{sym, ap}
use Rattle.std.proofs.Common.{◌∙◌, arith}
use Rattle.laws.specs.Size.{size_at}
use Rattle.entry.specs.Word.{kind_of, Says, kind_says}
use Rattle.entry.specs.declared.Kind.{Kind}
use Rattle.entry.specs.declared.Kind.TheVariants.{Table as table', Block as block', Page as page', Hole as hole'}
use Rattle.pool.specs.State.{St, tables}
use Rattle.pool.specs.Refuse.{shaped}
use Rattle.pool.specs.declared.Handle.{Handle}
use Rattle.arm.specs.Arm.{at, says, reach, walk}
use Rattle.arm.specs.Walk.{says_hole, says_block, says_page}
use Rattle.arm.specs.Page.{reach-same, frame_moves}
use Rattle.look_up.specs.Call.{answer, spanned, look_up_call, look_walks}
use Rattle.theory_walk.specs.Alike.{Alike, holes, blocks, pages}

pub says_alike : (level w a b : ℕ) → a / size_at level ≡ b / size_at level
    → Alike a b (answer (says a (at level w))) (answer (says b (at level w)))
unfolding answer
says_alike level w a b e = go (kind_of level w) refl (kind_says level w)
  where
    go : (k : Kind) → kind_of level w ≡ k → Says k level w → Alike a b (answer (says a (at level w))) (answer (says b (at level w)))
    go hole' q s = rw (says_hole level w a q, says_hole level w b q) holes
    go block' q s = rw (says_block level w a q, says_block level w b q) (blocks (frame_moves level w a b e))
    go page' q s = rw (says_page level w a s.1, says_page level w b s.1) (pages (frame_moves level w a b e))
    go table' q s = rw (says_page level w a s.1, says_page level w b s.1) (pages (frame_moves level w a b e))

module _ (h : Handle) (s : St) (shape : shaped h s ≡ true) {level w : ℕ} where
  -- look up's answer at an address is what the word says that the walk ends in
  pub looks_up : (a : ℕ) → spanned h.range h.level a ≡ true → reach h.base.0 (tables s) s.words a h.level ≡ at level w
      → look_up_call h s a ≡ answer (says a (at level w))
  unfolding walk
  looks_up a span ends = sym (look_walks h s a shape span) ∙ ap (λ r. answer (says a r)) ends

  -- two addresses of the entry that the walk of one ends in
  pub entry_alike : (a b : ℕ) → spanned h.range h.level a ≡ true → spanned h.range h.level b ≡ true
      → reach h.base.0 (tables s) s.words a h.level ≡ at level w → a / size_at level ≡ b / size_at level
      → Alike a b (look_up_call h s a) (look_up_call h s b)
  unfolding reach
  entry_alike a b spanA span_b ends same =
      rw (
        looks_up a spanA ends,
        looks_up b span_b
            (reach-same h.base.0 (tables s) s.words a b (3 - h.level) 0 (omega arith) same ends),
      )
      (says_alike level w a b same)
