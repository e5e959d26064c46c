-- An edit of a word by bits to set and bits to clear, both flags that a call may give: the frame and bit 1 stay, the flags are edited.
use Rattle.std.specs.Prelude.{◌≡◌, true, ℕ, ◌*◌, ◌-◌, ◌/◌, ◌%◌, ◌^◌, ◌<◌}
use Rattle.std.proofs.Math.Path.{sym, ap, ap₂}
use Rattle.std.proofs.Common.{◌∙◌}
use native.Mathlib.Omega.{arith}
use Rattle.std.specs.Int.Bits.{bit_and, bit_or, and_le_r, and_zero_r, or_zero_r}
use Rattle.std.proofs.lemmas.Nat.{and_comm}
use Rattle.std.proofs.lemmas.Nat.Bits.{and_high}
use Rattle.laws.specs.Bit.{and_assoc, and-or, and_swap, sub-not}
use Rattle.entry.specs.Word.{mask_address, valid, plain_flags, Plain, valid_same, valid_yes, edited, mask_plain}
use Rattle.theory_tree.specs.Page.{pages_in}
use Rattle.theory_tree.specs.Word.{frame_in, address_frame, flags_frame, flags_shown}
use Rattle.theory_tree.specs.Fine.{Fine}

bit_mask : (w : ℕ) → bit_and w 2 ≡ w / 2 % 2 * 2
bit_mask w = and_high w 1 1

module _ (set clear : ℕ) (S : Plain set) (C : Plain clear) where
  -- bits that neither touches
  edited_keeps : (w mask : ℕ) → w < 2 ^ 64 → mask < 2 ^ 64 → bit_and set mask ≡ 0 → bit_and clear mask ≡ 0
      → bit_and (edited set clear w) mask ≡ bit_and w mask
  unfolding edited
  edited_keeps w mask wide small noSet noClear =
      let none : bit_and (bit_and w mask) clear
      ≡ 0 = and_assoc w mask clear ∙ ap (bit_and w) (and_comm mask clear ∙ noClear) ∙ and_zero_r w in
      and_swap (bit_or w set) (2 ^ 64 - 1 - clear) mask
      ∙ ap (λ (x : ℕ). bit_and x (2 ^ 64 - 1 - clear)) (and-or w set mask ∙ ap (bit_or (bit_and w mask)) noSet ∙ or_zero_r (bit_and w mask))
      ∙ sub-not 64 (bit_and w mask) clear (omega (arith, and_le_r w mask)) C.wide none

  pub edited_wide : (w : ℕ) → edited set clear w < 2 ^ 64
  unfolding edited
  edited_wide w = omega (arith, and_le_r (bit_or w set) (2 ^ 64 - 1 - clear))

  flags_address : (f : ℕ) → Plain f → bit_and f 0xFFFF_FFFF_F000 ≡ 0
  flags_address f F = mask_address f ∙ address_frame f ∙ (let z = flags_frame f F in let e : frame_in f * 4096 ≡ 0 = omega arith in e)

  flags_bit : (f : ℕ) → Plain f → bit_and f 2 ≡ 0
  flags_bit f F = bit_mask f ∙ (let z = F.clear in let e : f / 2 % 2 * 2 ≡ 0 = omega arith in e)

  pub edited_frame : (w : ℕ) → w < 2 ^ 64 → frame_in (edited set clear w) ≡ frame_in w
  edited_frame w wide =
      let x : ℕ = edited set clear w in
      let same = edited_keeps w 0xFFFF_FFFF_F000 wide (omega arith) (flags_address set S) (flags_address clear C) in
      omega (arith, mask_address x, mask_address w, address_frame x, address_frame w)

  pub edited-bit : (w : ℕ) → w < 2 ^ 64 → edited set clear w / 2 % 2 ≡ w / 2 % 2
  edited-bit w wide =
      let same = edited_keeps w 2 wide (omega arith) (flags_bit set S) (flags_bit clear C) in
      omega (arith, bit_mask (edited set clear w), bit_mask w)

  -- the flags of the edited word are the word's flags, edited
  pub edited_plain : (w : ℕ) → w < 2 ^ 64 → plain_flags (edited set clear w) ≡ edited set clear (plain_flags w)
  unfolding edited
  edited_plain w wide =
      sym (mask_plain (bit_and (bit_or w set) (2 ^ 64 - 1 - clear)) (edited_wide w))
      ∙ and_swap (bit_or w set) (2 ^ 64 - 1 - clear) 0xFFFF_0000_0000_0FFD
      ∙ ap (λ (x : ℕ). bit_and x (2 ^ 64 - 1 - clear))
      (and-or w set 0xFFFF_0000_0000_0FFD ∙ ap₂ bit_or (mask_plain w wide) (mask_plain set S.wide ∙ flags_shown set S))

  plain_odd : (w : ℕ) → plain_flags w % 2 ≡ w % 2
  unfolding plain_flags
  plain_odd w = omega arith

  pub edited-valid : (w : ℕ) → w < 2 ^ 64 → valid (edited set clear (plain_flags w)) ≡ valid (edited set clear w)
  edited-valid w wide =
      valid_same (edited set clear (plain_flags w)) (edited set clear w)
      (ap (λ (x : ℕ). x % 2) (sym (edited_plain w wide)) ∙ plain_odd (edited set clear w))

  -- an edited word is fine where the word was
  pub fine_edited : (depth w : ℕ) → Fine depth w → valid w ≡ true → Fine depth (edited set clear w)
  fine_edited depth w fine v =
      let o = valid_yes w v in
      let frame = edited_frame w fine.wide in
      let bit = edited-bit w fine.wide in
      record {
        wide = edited_wide w;
        clear = λ h. bit ∙ fine.clear h;
        aligned = ap (λ (x : ℕ). x % pages_in depth) frame ∙ fine.aligned;
        top = λ h. absurd (omega (arith, (fine.top h).0));
        page = λ h k. bit ∙ fine.page h o;
      }
