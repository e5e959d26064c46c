-- `hangs`: each way through the code by its law.
use mathlib.Core.Bool.{false}
use mathlib.Core.Path.{◌≡◌, sym, ap, ◌∙◌}
use Prim.Native.Nat.{ℕ, ◌+◌, ◌*◌, ◌/◌, ◌-◌, ◌<◌}
use native.Mathlib.Numerals.{add-one}
use native.Mathlib.Omega.{arith}
use lib.Dec.{eqb, eqb→eq}
use lib.ListN.{get_or}
use Rattle.laws.specs.Test.{is_false, same_test, eq→eqb}
use Rattle.entry.specs.Word.{link_of, link_fits}
use Rattle.pool.specs.State.{St, number_at, word_at, used_in}
use Rattle.pool.specs.Lent.{read_state}
use Rattle.pool.specs.Number.{parent_of, slot_of}
use Rattle.pool.specs.Sound.{hangsb, names_says, says_names}
use Rattle.checker_ledger.specs.Hang.{Hangs, hangs_to, hangs_of}
use Rattle.checker_ledger.proofs.hangs.Goals as goal

-- one part that fails
no_hang : (base : ℕ) (s : St) (k : ℕ) → (Hangs base s k → ⊥) → false ≡ hangsb base s k
no_hang base s k n = sym (is_false (hangsb base s k) (λ t. n (hangs_to base s k t)))

-- all parts but the last hold
last-part : (base : ℕ) (s : St) (k : ℕ) (word link : ℕ) → (word ≡ link → Hangs base s k)
    → word_at s (parent_of (number_at s k)) (slot_of (number_at s k)) ≡ word → link_of base k ≡ link
    → eqb word link ≡ hangsb base s k
last-part base s k word link rest w l =
    same_test (eqb word link) (hangsb base s k) (λ t. hangs_of base s k (rest (eqb→eq word link t)))
    (λ t. eq→eqb word link (sym w ∙ (hangs_to base s k t).says ∙ l))

pos : {y : ℕ} → (y ≡ 0 → ⊥) → 0 < y
pos n = omega arith

pub returns-then-number-lt4 : goal.returns-then-number-lt4
returns-then-number-lt4 c =
    let a = c.args in
    no_hang a.pool.now.handle.base.0 (read_state a.pool.now) a.k (λ p. omega (arith, (names_says _ p.named).kind))

pub returns-then-number-lt8 : goal.returns-then-number-lt8
returns-then-number-lt8 c =
    let a = c.args in
    no_hang a.pool.now.handle.base.0 (read_state a.pool.now) a.k (λ p. omega (arith, (names_says _ p.named).some))

pub returns-then-pool-parent : goal.returns-then-pool-parent
returns-then-pool-parent c =
    let a = c.args in
    no_hang a.pool.now.handle.base.0 (read_state a.pool.now) a.k
    (λ p. omega (arith, used_in (read_state a.pool.now) _ p.parent))

pub returns-then-above-eq0 : goal.returns-then-above-eq0
returns-then-above-eq0 c =
    let a = c.args in
    no_hang a.pool.now.handle.base.0 (read_state a.pool.now) a.k (λ p. omega (arith, p.parent, c.if-above-eq0.true))

pub returns-then-number-above : goal.returns-then-number-above
returns-then-number-above c =
    let a = c.args in
    no_hang a.pool.now.handle.base.0 (read_state a.pool.now) a.k (λ p. c.if-number-above.true (p.deeper ∙ sym (add-one _)))

pub returns : goal.returns
returns c =
    let a = c.args in
    let s = read_state a.pool.now in
    let x = number_at s a.k in
    -- the link of a table of the pool is its address + 3
    let linked : c.link.result ≡ link_of a.pool.now.handle.base.0 a.k =
    c.link.ensures ∙ link_fits a.pool.now.handle.base.0 a.k c.requires.0.paged (omega (arith, c.requires.0.ended, c.requires.1)) in
    let at : 512 * parent_of x + slot_of x ≡ x / 8 - 1 = omega arith in
    last-part a.pool.now.handle.base.0 s a.k (get_or a.pool.now.words.now (x / 8 - 1) 0) c.link.result
    (λ e. record {
      named = says_names x (record { kind = omega arith; some = omega arith });
      deeper = c.if-number-above.false ∙ add-one _;
      parent = pos c.if-above-eq0.false;
      says = ap (λ (j : ℕ). get_or a.pool.now.words.now j 0) at ∙ e ∙ linked;
    })
    (ap (λ (j : ℕ). get_or a.pool.now.words.now j 0) at) (sym linked)
