-- Theorems about the definitions of specs/Walk.
use Rattle.std.specs.Prelude.{◌≡◌, ℕ, suc, ◌+◌, ◌*◌, ◌%◌}
use Rattle.std.proofs.Common.{sym, ap, ◌∙◌, arith}
use Rattle.laws.specs.Test.{by_bool}
use Rattle.entry.specs.Word.{flags_of, valid, flags_valid}
use Rattle.theory_tree.specs.Page.{pages_in, slot_of_page, slot_lt, rest_child}
use Rattle.theory_tree.specs.Word.{frame_in, fill_word, plain_flags_lem, leaf_hole}
use Rattle.theory_tree.specs.Fine.{Fine}
use Rattle.theory_tree.proofs.Fine.{fine_low, fill_flags, fill_is, fill_below, fill_aligned}
use Rattle.theory_tree.specs.Walk.{seen_in, seen_fine, seen_leaf_word, seen_flags, mapped}

-- a split is not seen
pub fill_seen : (depth w page : ℕ) → Fine (suc depth) w
    → seen_in depth (fill_word depth w (slot_of_page page depth)) page ≡ seen_in (suc depth) w page
fill_seen depth w page fine =
    let i : ℕ = slot_of_page page depth in
    let F = fill_flags depth w fine in
    let sum : frame_in w + i * pages_in depth + page % pages_in depth ≡ frame_in w + page % pages_in (suc depth) =
    omega (arith, rest_child page depth) in
    let clear = plain_flags_lem w (fine.clear (omega arith)) in
    ap (λ (x : ℕ). seen_in depth x page) (fill_is depth w fine i)
    ∙ by_bool (valid w)
    (λ v. seen_leaf_word depth (frame_in w + i * pages_in depth) (flags_of w) page F (fill_below depth w fine i (slot_lt page depth) v)
    (fill_aligned depth w fine i) (let l = fine_low depth w fine v in omega arith) (flags_valid w ∙ v)
    ∙ ap (mapped (flags_of w)) sum
    ∙ sym (seen_fine (suc depth) w page fine ∙ rw (v, clear)))
    (λ v. let o = flags_valid w ∙ v in
    ap (λ (x : ℕ). seen_in depth x page) (leaf_hole (flags_of w) F depth (frame_in w + i * pages_in depth) o)
    ∙ seen_flags depth (flags_of w) page F o
    ∙ sym (seen_fine (suc depth) w page fine ∙ rw (v, clear)))
