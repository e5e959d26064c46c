-- Theorems about the definitions of specs/Change.
use Rattle.std.specs.Prelude.{◌≡◌, refl, Bool, true, false, cond, ◌⊎◌, ◌↔◌, eqb}
use Rattle.std.proofs.Common.{sym, ◌∙◌, inl, inr, arith, shr-shr, le-leb, ne_eqb}
use Rattle.std.proofs.Math.Path.{ap}
use Prim.Native.Nat.{ℕ, ◌+◌, ◌-◌, ◌/◌, ◌%◌, ◌^◌, ◌≤◌, ◌<◌}
use Rattle.std.proofs.lemmas.Nat.{shr_le}
use Rattle.std.proofs.Math.Dec.{eqb→eq}
use Rattle.std.proofs.lemmas.Bool.{lt-leb}
use Rattle.laws.specs.Test.{by_bool, all_below, all_to, le_or}
use Rattle.pool.specs.declared.Handle.{Handle}
use Rattle.modify_survey.specs.House.{house_rule, may_change}
use Rattle.theory_modify.specs.Change.{bit, house_bit, may_same, not_differs}

-- ---- the mask

-- the mask has exactly the bits that the document names
mask_low : (i : ℕ) → i < 59 → bit i 0x07E8_0000_0000_0C81 ≡ cond (house_bit i) 1 0
unfolding all_below house_bit
mask_low i l =
    eqb→eq (bit i 0x07E8_0000_0000_0C81) (cond (house_bit i) 1 0)
    (all_to 59 (λ j. eqb (bit j 0x07E8_0000_0000_0C81) (cond (house_bit j) 1 0)) tt i l)

mask_high : (i : ℕ) → 59 ≤ i → bit i 0x07E8_0000_0000_0C81 ≡ 0
mask_high i l =
    let e : 59 + (i - 59) ≡ i = omega arith in
    let s = shr-shr 0x07E8_0000_0000_0C81 59 (i - 59) in
    let z : 0 / 2 ^ (i - 59) ≡ 0 = omega (arith, shr_le 0 (i - 59)) in
    ap (λ (j : ℕ). bit j 0x07E8_0000_0000_0C81) (sym e) ∙ ap (λ (x : ℕ). x % 2) (sym s ∙ z)

none_high : (i : ℕ) → 59 ≤ i → house_bit i ≡ false
unfolding house_bit
none_high i l =
    rw (
      ne_eqb i 0 (λ e. omega arith),
      ne_eqb i 7 (λ e. omega arith),
      ne_eqb i 10 (λ e. omega arith),
      ne_eqb i 11 (λ e. omega arith),
      ne_eqb i 51 (λ e. omega arith),
      ne_eqb i 53 (λ e. omega arith),
      ne_eqb i 54 (λ e. omega arith),
      le-leb 55 i (omega arith),
      lt-leb i 58 (omega arith),
    )

pub mask_bits : (h : Handle) (i : ℕ) → bit i (house_rule h) ≡ cond (house_bit i) 1 0
unfolding house_rule
mask_bits h i = go (le_or 59 i)
  where
    go : (59 ≤ i) ⊎ (i < 59) → bit i 0x07E8_0000_0000_0C81 ≡ cond (house_bit i) 1 0
    go (inl l) = mask_high i l ∙ ap (λ (b : Bool). cond b 1 0) (sym (none_high i l))
    go (inr l) = mask_low i l

bit-out : (b : Bool) → ◌≡◌ {A = ℕ} (cond b 1 0) 0 → b ≡ false
bit-out true e = absurd (omega arith)
bit-out false e = refl

-- THE HOUSE RULE'S BITS
pub house_rule_bits : (h : Handle) (old new : ℕ) → (may_change h old new ≡ true) ↔ ((i : ℕ) → house_bit i ≡ false → bit i old ≡ bit i new)
house_rule_bits h old new = (
  λ may i out. may_same h old new may i (mask_bits h i ∙ ap (λ (b : Bool). cond b 1 0) out),
  λ same. by_bool {A = may_change h old new ≡ true} (may_change h old new) (λ may. may)
      (λ bits. let d = not_differs h old new bits in
      absurd (d.2 (same d.0 (bit-out (house_bit d.0) (sym (mask_bits h d.0) ∙ d.1))))),
)
