-- The call look up: refusals 1, 6, 8 in this order, else what the Arm walk answers. Leans on `Arm`.
use Rattle.std.specs.Prelude.{◌≡◌, Bool, true, false, cond, List, [], ◌∷◌, leb, ltb}
use Rattle.std.proofs.Math.Path.{sym, ap, ap₂}
use Rattle.std.proofs.Common.{◌∙◌}
use Prim.Native.Nat.{ℕ, suc, ◌*◌, ◌-◌, ◌%◌, ◌^◌}
use native.Mathlib.Omega.{arith}
use Rattle.laws.specs.Size.{size_at, span, span_is, span_high}
use Rattle.address.specs.declared.PhysicalAddress.{PhysicalAddress}
use Rattle.entry.specs.Word.{kind_of}
use Rattle.entry.specs.declared.Kind.TheVariants.{Block as block', Hole as hole'}
use Rattle.pool.specs.State.{St, tables}
use Rattle.pool.specs.Refuse.{shaped, number, carried}
use Rattle.pool.specs.declared.Handle.{Handle}
use Rattle.pool.specs.declared.VaRange.{VaRange}
use Rattle.pool.specs.declared.VaRange.TheVariants.{Lower, Upper}
use Rattle.pool.specs.declared.Refusal.TheVariants.{Shape, AddressRange, Unsound}
use Rattle.arm.specs.Arm.{frame_of, flags_in, Walked, hole, block, page, outside, at, says, walk}
use Rattle.arm.specs.Walk.{says_hole, says_block, says_page}
use Rattle.look_up.specs.declared.Looked.{Looked}
use Rattle.look_up.specs.declared.Looked.TheVariants.{Hole, Block, Page}
use Rattle.std.specs.Prelude.{Result, Err, Ok}
use Rattle.pool.specs.declared.Refusal.{Refusal}

-- what look up answers
abbrev pub LookUpAnswer : Type 0
LookUpAnswer = Result Looked Refusal

-- the number that an answer returns: 0, or the refusal's (document 01, "The refusal slip": No.)
abbrev pub returned : LookUpAnswer → ℕ
returned (Ok found) = 0
returned (Err r) = number r

-- the values of what a walk finds: kind (0 hole, 1 block, 2 page), level, flags, frame (0 for a hole)
abbrev pub found_values : Looked → List ℕ
found_values (Hole level flags) = 0 ∷ level ∷ flags ∷ 0 ∷ []
found_values (Block level flags frame) = 1 ∷ level ∷ flags ∷ frame.0 ∷ []
found_values (Page level flags frame) = 2 ∷ level ∷ flags ∷ frame.0 ∷ []

-- the values of an answer: of what was found; of a refusal, what it carries
abbrev pub values : LookUpAnswer → List ℕ
values (Ok found) = found_values found
values (Err r) = carried r

-- the walk as an answer: refusal 8 where a table word on its path points outside the pool
unfoldable pub answer : Walked → LookUpAnswer
answer (hole level flags) = Ok (Hole level flags)
answer (block level flags frame) = Ok (Block level flags (record { 0 = frame }))
answer (page level flags frame) = Ok (Page level flags (record { 0 = frame }))
answer outside = Err Unsound

-- the address lies in the root's span: from 0 up, or up to 2^64 (document 01, "The refusal slip", 6)
unfoldable pub spanned : VaRange → ℕ → ℕ → Bool
spanned Lower level va = ltb va (span level)
spanned Upper level va = leb (2 ^ 64 - span level) va

unfoldable pub look_up_call : Handle → St → ℕ → LookUpAnswer
look_up_call h s va =
    cond (shaped h s)
    (cond (spanned h.range h.level va)
    (answer (walk h.base.0 (tables s) s.words va h.level))
    (Err (AddressRange (record { 0 = va }))))
    (Err Shape)

-- ---- laws: one for each way through the code

module _ (h : Handle) (s : St) (va : ℕ) where
  pub look_misshaped : shaped h s ≡ false → Err Shape ≡ look_up_call h s va
  unfolding look_up_call
  look_misshaped e = rw e

  pub look_beyond : shaped h s ≡ true → spanned h.range h.level va ≡ false
      → Err (AddressRange (record { 0 = va })) ≡ look_up_call h s va
  unfolding look_up_call
  look_beyond e f = rw (e, f)

  pub look_walks : shaped h s ≡ true → spanned h.range h.level va ≡ true
      → answer (walk h.base.0 (tables s) s.words va h.level) ≡ look_up_call h s va
  unfolding look_up_call
  look_walks e f = rw (e, f)

-- the span, by the size of an entry
module _ (range : VaRange) (level va g : ℕ) where
  pub span-lower : range ≡ Lower → g ≡ size_at level → ltb va (512 * g) ≡ spanned range level va
  unfolding spanned
  span-lower e q = rw (e, span_is level q)

  pub span-upper : range ≡ Upper → g ≡ size_at level → ltb (18446744073709551615 - 512 * g) va ≡ spanned range level va
  unfolding spanned
  span-upper e q =
      let h = span_high level in
      let p = span_is level q in
      let o : suc (18446744073709551615 - 512 * g) ≡ 2 ^ 64 - span level = omega arith in
      rw (e, o)

-- the three answers of an accepted look up
abbrev hole_answer : ℕ → ℕ → LookUpAnswer
hole_answer level flags = Ok (Hole level flags)

abbrev block_answer : ℕ → ℕ → ℕ → LookUpAnswer
block_answer level flags frame = Ok (Block level flags (record { 0 = frame }))

abbrev page_answer : ℕ → ℕ → ℕ → LookUpAnswer
page_answer level flags frame = Ok (Page level flags (record { 0 = frame }))

-- what a word says that ends the walk
module _ (level w va : ℕ) {flags : ℕ} (flag : flags ≡ flags_in w) where
  pub leaf_hole : kind_of level w ≡ hole' → Ok (Hole level flags) ≡ answer (says va (at level w))
  unfolding answer
  leaf_hole e = ap (hole_answer level) flag ∙ sym (ap answer (says_hole level w va e))

  pub leaf_block : {frame : PhysicalAddress} → frame.0 ≡ frame_of level w va → kind_of level w ≡ block'
      → Ok (Block level flags frame) ≡ answer (says va (at level w))
  unfolding answer
  leaf_block f e = ap₂ (λ (x y : ℕ). block_answer level x y) flag f ∙ sym (ap answer (says_block level w va e))

  pub leaf_page : {frame : PhysicalAddress} → frame.0 ≡ frame_of level w va → w % 4 ≡ 3
      → Ok (Page level flags frame) ≡ answer (says va (at level w))
  unfolding answer
  leaf_page f e = ap₂ (λ (x y : ℕ). page_answer level x y) flag f ∙ sym (ap answer (says_page level w va e))
