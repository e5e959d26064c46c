-- `kind_of`: each way through the code by its law.
use Rattle.std.proofs.Common.{◌≡◌, ℕ, ◌%◌, ◌<◌, ◌≢◌, ◌⊎◌, sym, inl, inr, arith}
use Rattle.laws.specs.Test.{eq_or}
use Rattle.entry.specs.declared.Kind.TheVariants.{Hole}
use Rattle.entry.specs.Word.{Says, kind_table, kind_page, kind_block, kind_clear, kind_once}
use Rattle.entry.proofs.kind_of.Goals as goal

one-or-two : (level : ℕ) → level < 3 → (level ≡ 0 → ⊥) → (level ≡ 1) ⊎ (level ≡ 2)
one-or-two level h n = go (eq_or level 1)
  where
    go : (level ≡ 1) ⊎ (level ≢ 1) → (level ≡ 1) ⊎ (level ≡ 2)
    go (inl e) = inl e
    go (inr m) = inr (omega arith)

-- at level 0, and from level 3 on, what is no table or page is a hole
holes : (level w : ℕ) → (level ≢ 1) → (level ≢ 2) → (w % 4 ≢ 3) → Says Hole level w
holes level w one two low = go (eq_or (w % 4) 1)
  where
    go : (w % 4 ≡ 1) ⊎ (w % 4 ≢ 1) → Says Hole level w
    go (inl e) = inr (e, one, two)
    go (inr n) = inl (omega arith)

pub returns-in-3 : goal.returns-in-3
returns-in-3 c =
    let a = c.args in sym (kind_table a.level a.word (omega (arith, c.in-0.is)) c.in-3.is)

pub returns-in_default-low : goal.returns-in_default-low
returns-in_default-low c =
    let a = c.args in
    sym (kind_once Hole a.level a.word
    (holes a.level a.word (λ e. omega (arith, c.in-0.is)) (λ e. omega (arith, c.in-0.is)) (λ e. omega arith)))

pub returns-in-3-low : goal.returns-in-3-low
returns-in-3-low c = let a = c.args in sym (kind_table a.level a.word (omega arith) c.in-3-low.is)

pub returns-in-1-low : goal.returns-in-1-low
returns-in-1-low c =
    let a = c.args in
    sym (kind_block a.level a.word (one-or-two a.level (omega arith) (λ e. omega arith)) c.in-1-low.is)

pub returns-in_default-low-2 : goal.returns-in_default-low-2
returns-in_default-low-2 c = let a = c.args in sym (kind_clear a.level a.word (λ e. omega arith) (λ e. omega arith))

pub returns-in-3-low-2 : goal.returns-in-3-low-2
returns-in-3-low-2 c = let a = c.args in sym (kind_page a.level a.word (omega arith) c.in-3-low-2.is)

pub returns-in_default-low-3 : goal.returns-in_default-low-3
returns-in_default-low-3 c =
    let a = c.args in
    sym (kind_once Hole a.level a.word (holes a.level a.word (λ e. omega arith) (λ e. omega arith) (λ e. omega arith)))
