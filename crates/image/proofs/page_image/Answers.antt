-- `page_image`: each way through the code by its law.
use Rattle.std.proofs.Common.{◌≡◌, ℕ, ◌+◌, ◌*◌, ◌-◌, true, sym, ap, ◌∙◌, arith}
use Rattle.laws.specs.Part.{part_of}
use Rattle.pool.specs.State.{st}
use Rattle.pool.specs.Refuse.{shaped, Shaped, shaped-says}
use Rattle.image_bytes.specs.Image.{image_of}
use Rattle.image.specs.Call.{imaged, image_misshaped, image_no_table, image_short, image_written}
use Rattle.image.proofs.page_image.Goals as goal
use Rattle.image.proofs.page_image.Goals.{Else-not-is_shaped}
use Rattle.std.specs.Prelude.{Ok}

-- past the first test the shape is known
good : (c : Else-not-is_shaped) → let a = c.args in shaped a.handle (st a.words.now a.ledger.now) ≡ true
good c = sym c.is_shaped.ensures ∙ c.if-not-is_shaped.false

shape : (c : Else-not-is_shaped) → let a = c.args in Shaped a.handle (st a.words.now a.ledger.now)
shape c = let a = c.args in shaped-says a.handle (st a.words.now a.ledger.now) (rw (good c) tt)

pub returns-then-not-is_shaped : goal.returns-then-not-is_shaped
returns-then-not-is_shaped c =
    let a = c.args in
    image_misshaped a.handle (st a.words.now a.ledger.now) a.k a.page.now (sym c.is_shaped.ensures ∙ c.if-not-is_shaped.true)

pub returns-then-ledger-k : goal.returns-then-ledger-k
returns-then-ledger-k c =
    let a = c.args in
    let w = (goal.at.returns-then-ledger-k c).Else-not-is_shaped in
    image_no_table a.handle (st a.words.now a.ledger.now) a.k a.page.now (good w) c.if-ledger-k.true

pub returns-then-page-ne4096 : goal.returns-then-page-ne4096
returns-then-page-ne4096 c =
    let a = c.args in
    let w = (goal.at.returns-then-page-ne4096 c).Else-not-is_shaped in
    image_short a.handle (st a.words.now a.ledger.now) a.k a.page.now (good w) c.if-ledger-k.false c.if-page-ne4096.true

pub overflow_mul-a : goal.overflow_mul-a
overflow_mul-a c = let p = shape (goal.at.overflow_mul-a c).Else-not-is_shaped in omega (arith, p.sized)

pub overflow_add-e : goal.overflow_add-e
overflow_add-e c = let p = shape (goal.at.overflow_add-e c).Else-not-is_shaped in omega (arith, p.sized)

pub offset_bounds-words-a : goal.offset_bounds-words-a
offset_bounds-words-a c = let p = shape (goal.at.offset_bounds-words-a c).Else-not-is_shaped in omega (arith, p.sized)

pub slice_bounds-write_to-end : goal.slice_bounds-write_to-end
slice_bounds-write_to-end c = let p = shape (goal.at.slice_bounds-write_to-end c).Else-not-is_shaped in omega (arith, p.sized)

pub returns : goal.returns
returns c =
    let a = c.args in
    let w = (goal.at.returns c).Else-not-is_shaped in
    let whole : 512 * a.k + 512 - 512 * a.k ≡ 512 = omega arith in
    ap (imaged (Ok tt)) (c.write_to.ensures ∙ ap (λ (n : ℕ). image_of (part_of (512 * a.k) n a.words.now)) whole)
    ∙ image_written a.handle (st a.words.now a.ledger.now) a.k a.page.now (good w) c.if-ledger-k.false c.if-page-ne4096.false
