-- A leaf of a sound pool after an edit: a valid word is edited, any other stays, and an edited word may stand where the word stood.
use Rattle.std.specs.Prelude.{◌≡◌, true, false}
use Rattle.std.proofs.Math.Path.{refl, sym}
use Rattle.std.proofs.Common.{subst, inl, inr, arith}
use Prim.Native.Nat.{ℕ, zero, suc, ◌+◌, ◌-◌, ◌%◌, ◌^◌, ◌≤◌}
use Rattle.std.specs.Int.Bits.{bit_or}
use Rattle.laws.specs.Bit.{SubBits, sub-or, sub-and}
use Rattle.entry.specs.Word.{kind_table, kind_page, kind_block, kind_clear, valid, plain_flags, valid_yes, valid_no, edited}
use Rattle.pool.specs.Sound.{flag_set}
use Rattle.pool.specs.declared.Handle.{Handle}
use Rattle.modify_entry.specs.declared.Edit.{Edit}
use Rattle.modify_entry.specs.Word.{edit_word, edit_table_lem, edit_block, edit_page, edit_hole}
use Rattle.theory_sound.specs.Step.{Stands}
use Rattle.theory_tree.specs.Fine.{Fine}
use Rattle.theory_tree.specs.Edit.{edited_plain, fine_edited}
use Rattle.theory_map.specs.Leaf.{fine_stands}
use Rattle.theory_map.specs.Stand.{Allowed}

-- what refusals 3 and 4 leave of an edit's bits
pub record Bits (h : Handle) (e : Edit) : Type 0 where
  pub set : Allowed h e.set
  pub clear : Allowed h e.clear

-- a table's word stays
pub table_stays : (level : ℕ) (e : Edit) (w : ℕ) → level + 1 ≤ 3 → w % 4 ≡ 3 → edit_word level e w ≡ w
table_stays level e w high both = sym (edit_table_lem level e w refl (kind_table level w (omega arith) both))

module _ (e : Edit) (w : ℕ) where
  abbrev new : ℕ
  new = edited e.set e.clear w

  -- a hole stays
  pub hole_stays : (level : ℕ) → valid w ≡ false → edit_word level e w ≡ w
  hole_stays level v = let o = valid_no w v in sym (edit_hole level e w refl (kind_clear level w (λ a. omega arith) (λ a. omega arith)))

  -- a valid block or page is edited
  pub valid-edited : (depth : ℕ) → depth ≤ 3 → Fine depth w → valid w ≡ true → edit_word (3 - depth) e w ≡ new
  unfolding edited
  valid-edited zero low fine v =
      let o = valid_yes w v in let b = fine.page refl o in sym (edit_page 3 e w refl (kind_page 3 w (omega arith) (omega arith)))
  valid-edited (suc zero) low fine v =
      let o = valid_yes w v in let b = fine.clear (omega arith) in sym (edit_block 2 e w refl (kind_block 2 w (inr refl) (omega arith)))
  valid-edited (suc (suc zero)) low fine v =
      let o = valid_yes w v in let b = fine.clear (omega arith) in sym (edit_block 1 e w refl (kind_block 1 w (inl refl) (omega arith)))
  valid-edited (suc (suc (suc depth))) low fine v = absurd (omega (arith, valid_yes w v, (fine.top (omega arith)).0))

  inset : (h : Handle) → Bits h e → SubBits (plain_flags w) (flag_set h) → SubBits (edited e.set e.clear (plain_flags w)) (flag_set h)
  unfolding edited
  inset h bits from =
      sub-and (bit_or (plain_flags w) e.set) (2 ^ 64 - 1 - e.clear) (flag_set h)
      (sub-or (plain_flags w) e.set (flag_set h) from bits.set.from)

  pub edited_stands : (h : Handle) (depth level : ℕ) → Bits h e → level + depth ≡ 3 → Fine depth w → SubBits (plain_flags w) (flag_set h)
      → valid w ≡ true → Stands h level new
  edited_stands h depth level bits low fine from v =
      fine_stands h depth level new low (fine_edited e.set e.clear bits.set.plain bits.clear.plain depth w fine v)
      (subst (λ (x : ℕ). SubBits x (flag_set h))
      (sym (edited_plain e.set e.clear bits.set.plain bits.clear.plain w fine.wide)) (inset h bits from))
