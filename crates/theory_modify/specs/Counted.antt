-- Where the house rule is kept, a survey's count of numbers is the length of what the modify lists: no valid entry is split, and a split of
-- a hole lists nothing.
use Rattle.std.specs.Prelude.{◌≡◌, refl, true, None}
use Rattle.std.proofs.Math.Path.{ap}
use Rattle.std.proofs.Common.{◌∙◌, inl, inr, eq-eqb}
use Prim.Native.Nat.{ℕ, zero, suc, ◌+◌, ◌-◌, ◌%◌, ◌≤◌}
use native.Mathlib.Omega.{arith}
use Rattle.laws.specs.Size.{size_at, size_page}
use Rattle.entry.specs.Word.{kind_of, kind_block, valid, valid_yes}
use Rattle.entry.specs.declared.Kind.TheVariants.{Block}
use Rattle.region.specs.Region.{whole}
use Rattle.map_rules.specs.declared.Map.{Map}
use Rattle.modify_survey.specs.declared.Survey.{Survey}
use Rattle.theory_tree.specs.Fine.{Fine}
use Rattle.theory_map.specs.Stand.{Piece}

-- ---- what a survey adds, where the house rule is kept

pub record AddsNumbers (v x : Survey) (n : ℕ) : Type 0 where
  pub kept : v.broken ≡ None
  pub numbers : x.numbers ≡ v.numbers + n

-- a valid entry that may be covered in part is a block
pub valid_block : (depth w : ℕ) → suc depth ≤ 3 → Fine (suc depth) w → valid w ≡ true → kind_of (3 - suc depth) w ≡ Block
valid_block zero w low fine v = let o = valid_yes w v in let b = fine.clear (omega arith) in kind_block 2 w (inr refl) (omega arith)
valid_block (suc zero) w low fine v = let o = valid_yes w v in let b = fine.clear (omega arith) in kind_block 1 w (inl refl) (omega arith)
valid_block (suc (suc depth)) w low fine v = absurd (omega (arith, valid_yes w v, (fine.top (omega arith)).0))

-- ---- a table of a sound pool

-- a chunk of whole pages is a whole entry of level 3
pub page_whole : (q : ℕ) (m : Map) → Piece 0 q m → whole 3 m.region ≡ true
unfolding whole
page_whole q m piece =
    let s = size_page 3 (omega arith) in
    let a : m.region.start.0 % size_at 3 ≡ 0 = ap (λ (n : ℕ). m.region.start.0 % n) s ∙ piece.inside.start_page in
    let b : m.region.end.0 % size_at 3 ≡ 0 = ap (λ (n : ℕ). m.region.end.0 % n) s ∙ piece.inside.end_page in
    rw (eq-eqb (m.region.start.0 % size_at 3) 0 a, eq-eqb (m.region.end.0 % size_at 3) 0 b)
