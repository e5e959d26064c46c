-- `is_shaped`: each way through the code by its law.
use mathlib.Core.Bool.{false}
use mathlib.Core.Path.{◌≡◌, sym}
use native.Mathlib.Omega.{arith}
use lib.Dec.{leb, leb→le, le→leb}
use Rattle.laws.specs.Test.{is_false, same_test}
use Rattle.pool.specs.State.{St, st}
use Rattle.pool.specs.declared.Handle.{Handle}
use Rattle.pool.specs.Refuse.{max_tables, shaped, Shaped, shaped-says, says-shaped}
use Rattle.pool_handle.proofs.is_shaped.Goals as goal

-- one part that fails
misshaped : (h : Handle) (s : St) → (Shaped h s → ⊥) → false ≡ shaped h s
misshaped h s n = sym (is_false (shaped h s) (λ t. n (shaped-says h s t)))

pub returns-then-n-lt1 : goal.returns-then-n-lt1
returns-then-n-lt1 c =
    let a = c.args in
    misshaped a.handle (st a.words.now a.ledger.now) (λ p. omega (arith, p.some))

pub returns-then-n-gt-MAX_TABLES : goal.returns-then-n-gt-MAX_TABLES
unfolding max_tables
returns-then-n-gt-MAX_TABLES c =
    let a = c.args in
    misshaped a.handle (st a.words.now a.ledger.now) (λ p. omega (arith, p.limit))

pub returns-then-words-n : goal.returns-then-words-n
returns-then-words-n c =
    let a = c.args in
    misshaped a.handle (st a.words.now a.ledger.now) (λ p. c.if-words-n.true p.sized)

pub returns-then-handle-ne0 : goal.returns-then-handle-ne0
returns-then-handle-ne0 c =
    let a = c.args in
    misshaped a.handle (st a.words.now a.ledger.now) (λ p. c.if-handle-ne0.true p.paged)

pub returns-then-handle-gt281474976710656 : goal.returns-then-handle-gt281474976710656
returns-then-handle-gt281474976710656 c =
    let a = c.args in
    misshaped a.handle (st a.words.now a.ledger.now) (λ p. omega (arith, p.ended))

pub returns-then-handle-n : goal.returns-then-handle-n
returns-then-handle-n c =
    let a = c.args in
    misshaped a.handle (st a.words.now a.ledger.now) (λ p. omega (arith, p.ended))

pub returns : goal.returns
unfolding max_tables
returns c =
    let a = c.args in
    let s = st a.words.now a.ledger.now in
    same_test (leb a.handle.level 3) (shaped a.handle s)
    (λ t. says-shaped a.handle s (record {
      some = omega arith;
      limit = omega arith;
      sized = c.if-words-n.false;
      paged = c.if-handle-ne0.false;
      ended = omega arith;
      level = leb→le a.handle.level 3 t;
    }))
    (λ t. le→leb a.handle.level 3 (shaped-says a.handle s t).level)
