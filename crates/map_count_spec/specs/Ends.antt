-- The closed form from a chunk's two ends: one law for each way through the code of `map_count_leaf` and `map_count`.
use Rattle.std.specs.Prelude.{◌≡◌, refl, Bool, true, false, cond, ◌&&◌, ℕ, suc, ◌+◌, ◌*◌, ◌-◌, ◌/◌, ◌%◌, ◌^◌, ◌≤◌, ◌<◌}
use Rattle.std.proofs.Math.Path.{sym, ap}
use Rattle.std.proofs.Common.{◌∙◌, mul-le-mul_right, le-div_iff_mul-le, div-add-mod', eq-eqb, ne_eqb}
use Rattle.std.proofs.Math.Logic.{⊎_elim}
use native.Mathlib.Omega.{arith}
use Rattle.laws.specs.Size.{size_at, size_pos, size_step, size_low, size_room, next_multiple, down}
use Rattle.laws.specs.Test.{le_or}
use Rattle.entry.specs.Word.{address_of, flags_of, address_below}
use Rattle.region.specs.Chunks.{met}
use Rattle.map_rules.specs.declared.Map.{Map}
use Rattle.map_rules.specs.declared.Rule.{Rule}
use Rattle.map_rules.specs.declared.Rule.TheVariants.{Write, Keep, Drop, Down}
use Rattle.map_rules.specs.Rules.{rule_of}
use Rattle.map_rules.specs.Fit.{Fit, chunk_fit}
use Rattle.map_count_spec.specs.Needed.{if_down, child_word, first_chunk, after_first}
use Rattle.map_count_spec.specs.Closed.{start_of, end_of, first_frame, last_part, rest_at, rests, closed_leaf, mets, leaf_most, rests_most}
use Rattle.map_count_spec.specs.Closed.{mets_most}

-- ---- entries_met

-- the number of the last entry is no less than that of the first
pub met_order : (level s e : ℕ) → s < e → s / size_at level ≤ (e - 1) / size_at level
met_order level s e h = let d = div-add-mod' s (size_at level) in (le-div_iff_mul-le (size_pos level)).1 (omega arith)

-- ---- count_at

pub rest_all : (level : ℕ) (m : Map) → m.blocks ≡ false → met level (start_of m) (end_of m) ≡ rest_at level m
unfolding rest_at
rest_all level m b = rw b

pub rest_off : (level : ℕ) (m : Map) → (first_frame m % size_at level ≡ 0 → ⊥) → met level (start_of m) (end_of m) ≡ rest_at level m
unfolding rest_at
rest_off level m n = rw (ne_eqb (first_frame m % size_at level) 0 n) (both m.blocks)
  where
    both : (b : Bool)
        → met level (start_of m) (end_of m)
        ≡ cond (b && false) (last_part level (start_of m) (end_of m)) (met level (start_of m) (end_of m))
    both true = refl
    both false = refl

pub rest_on : (level : ℕ) (m : Map) → m.blocks ≡ true → first_frame m % size_at level ≡ 0
    → last_part level (start_of m) (end_of m) ≡ rest_at level m
unfolding rest_at
rest_on level m b z = rw (b, eq-eqb (first_frame m % size_at level) 0 z)

-- ---- count_rest

pub rests_done : (level : ℕ) (m : Map) → 3 ≤ level → rests (3 - level) m ≡ 0
unfolding rests
rests_done level m h = let e : 3 - level ≡ 0 = omega arith in ap (λ (l : ℕ). rests l m) e

pub rests_open : (level : ℕ) (m : Map) → level < 3 → rests (3 - level) m ≡ rest_at level m + rests (3 - (level + 1)) m
unfolding rests
rests_open level m h =
    let e : 3 - level ≡ suc (3 - (level + 1)) = omega arith in
    let q : 3 - suc (3 - (level + 1)) ≡ level = omega arith in
    ap (λ (l : ℕ). rests l m) e ∙ ap (λ (l : ℕ). rest_at l m + rests (3 - (level + 1)) m) q

-- ---- count_most

pub mets_done : (level s e : ℕ) → 3 ≤ level → mets (3 - level) s e ≡ 0
unfolding mets
mets_done level s e h = let q : 3 - level ≡ 0 = omega arith in ap (λ (l : ℕ). mets l s e) q

pub mets_open : (level s e : ℕ) → level < 3 → mets (3 - level) s e ≡ met level s e + mets (3 - (level + 1)) s e
unfolding mets
mets_open level s e h =
    let x : 3 - level ≡ suc (3 - (level + 1)) = omega arith in
    let q : 3 - suc (3 - (level + 1)) ≡ level = omega arith in
    ap (λ (l : ℕ). mets l s e) x ∙ ap (λ (l : ℕ). met l s e + mets (3 - (level + 1)) s e) q

pub mets_fit : (level s e : ℕ) → mets (3 - level) s e ≤ 3 * (e - s)
mets_fit level s e =
    let r = mets_most (3 - level) s e in
    let t : (3 - level) * (e - s) ≤ 3 * (e - s) = mul-le-mul_right (e - s) (omega arith) in
    omega arith

-- three levels at most
pub rests_fit : (level : ℕ) (m : Map) → rests (3 - level) m ≤ 3 * (end_of m - start_of m)
rests_fit level m =
    let r = rests_most (3 - level) m in
    let t : (3 - level) * (end_of m - start_of m) ≤ 3 * (end_of m - start_of m) = mul-le-mul_right (end_of m - start_of m) (omega arith) in
    omega arith

-- ---- count_leaf

pub leaf_fit : (level : ℕ) (m : Map) (w : ℕ) → start_of m < end_of m → closed_leaf (3 - level) m w ≤ 3 * (end_of m - start_of m)
leaf_fit level m w h =
    let r = leaf_most (3 - level) m w (omega arith) h in
    let t : (3 - level) * (end_of m - start_of m) ≤ 3 * (end_of m - start_of m) = mul-le-mul_right (end_of m - start_of m) (omega arith) in
    omega arith

-- the level below a leaf, as the code has it
pub leaf_open : (level : ℕ) (m : Map) (w : ℕ) → level < 3
    → closed_leaf (3 - level) m w
    ≡ if_down (rule_of level m w)
    (1 + closed_leaf (3 - (level + 1)) (first_chunk (level + 1) m) (child_word level w (start_of m))
    + rests (3 - (level + 1)) (after_first (level + 1) m))
unfolding closed_leaf
leaf_open level m w h =
    let e : 3 - level ≡ suc (3 - (level + 1)) = omega arith in
    let q : 3 - suc (3 - (level + 1)) ≡ level = omega arith in
    let n : 3 - (3 - (level + 1)) ≡ level + 1 = omega arith in
    ap (λ (l : ℕ). closed_leaf l m w) e
    ∙ ap
    (λ (l : ℕ). if_down (rule_of l m w)
    (1 + closed_leaf (3 - (level + 1)) (first_chunk (3 - (3 - (level + 1))) m) (child_word l w (start_of m))
    + rests (3 - (level + 1)) (after_first (3 - (3 - (level + 1))) m))) q
    ∙ ap
    (λ (l : ℕ). if_down (rule_of level m w)
    (1 + closed_leaf (3 - (level + 1)) (first_chunk l m) (child_word level w (start_of m))
    + rests (3 - (level + 1)) (after_first l m))) n

-- no rule but the last makes tables
pub record Other (r : Rule) : Type 0 where
  pub none : (n : ℕ) → if_down r n ≡ 0

pub other_write : {r : Rule} (x : ℕ) → r ≡ Write x → Other r
unfolding if_down
other_write x e = record { none = (λ n. ap (λ (r : Rule). if_down r n) e) }

pub other_keep : {r : Rule} → r ≡ Keep → Other r
unfolding if_down
other_keep e = record { none = (λ n. ap (λ (r : Rule). if_down r n) e) }

pub other_drop : {r : Rule} (x : ℕ) → r ≡ Drop x → Other r
unfolding if_down
other_drop x e = record { none = (λ n. ap (λ (r : Rule). if_down r n) e) }

pub is_down : (r : Rule) (n : ℕ) → r ≡ Down → if_down r n ≡ n
unfolding if_down
is_down r n e = ap (λ (q : Rule). if_down q n) e

module _ (level : ℕ) (m : Map) (w : ℕ) {r : Rule} (is : r ≡ rule_of level m w) where
  pub leaf_none : Other r → 0 ≡ closed_leaf (3 - level) m w
  unfolding closed_leaf
  leaf_none o = ⊎_elim
      (λ h. let e : 0 ≡ 3 - level = omega arith in ap (λ (l : ℕ). closed_leaf l m w) e)
      (λ h. sym (leaf_open level m w h ∙ none (sym is) _)) (le_or 3 level)
    where
      none : {q : Rule} → q ≡ r → (n : ℕ) → if_down q n ≡ 0
      none e n = ap (λ (q : Rule). if_down q n) e ∙ o.none n

  pub leaf_down : r ≡ Down → level < 3
      → 1 + closed_leaf (3 - (level + 1)) (first_chunk (level + 1) m) (child_word level w (start_of m))
      + rests (3 - (level + 1)) (after_first (level + 1) m)
      ≡ closed_leaf (3 - level) m w
  leaf_down e h = sym (leaf_open level m w h ∙ is_down (rule_of level m w) _ (sym is ∙ e))

  pub leaf_low : r ≡ Down → level < 3 → 2 ≤ level → 1 ≡ closed_leaf (3 - level) m w
  unfolding closed_leaf
  leaf_low e h l =
      let q : 0 ≡ 3 - (level + 1) = omega arith in
      let a : 0 ≡ closed_leaf (3 - (level + 1)) (first_chunk (level + 1) m) (child_word level w (start_of m)) =
      ap (λ (l : ℕ). closed_leaf l (first_chunk (level + 1) m) (child_word level w (start_of m))) q in
      let b = rests_done (level + 1) (after_first (level + 1) m) (omega arith) in
      let d = leaf_down e h in
      omega arith

-- ---- part_of

-- a part of an entry lies below 2^48, and its flags past that
pub record PartFits (level w i : ℕ) : Type 0 where
  pub step : i * size_at (level + 1) < 2 ^ 64
  pub place : down (address_of w) (size_at level) + i * size_at (level + 1) < 2 ^ 64
  pub word : down (address_of w) (size_at level) + i * size_at (level + 1) + flags_of w < 2 ^ 64

pub part_fits : (level w i : ℕ) → level < 3 → i < 512 → w < 2 ^ 64 → PartFits level w i
unfolding flags_of
part_fits level w i h slot fits =
    let room = size_room level (address_of w) (address_below w) in
    let whole : (i + 1) * size_at (level + 1) ≤ 512 * size_at (level + 1) = mul-le-mul_right (size_at (level + 1)) (omega arith) in
    let n = next_multiple i (size_at (level + 1)) in
    let s = size_step level h in
    let l = size_low (level + 1) in
    record { step = omega arith; place = omega arith; word = omega arith }

-- the first chunk below a leaf fits as the leaf does, and what remains is no longer
module _ (level : ℕ) (m : Map) (fit : Fit m) (some : start_of m < end_of m) where
  pub first_fit : Fit (first_chunk level m)
  first_fit = chunk_fit level (start_of m) (end_of m) (first_frame m) m fit some fit.from fit.to fit.frame fit.room

  pub length-fits : end_of m - start_of m ≤ 2 ^ 48
  length-fits = omega (arith, fit.room)
