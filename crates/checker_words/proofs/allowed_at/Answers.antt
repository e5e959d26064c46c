-- `allowed_at`: each way through the code by its law.
use mathlib.Core.Path.{◌≡◌, refl, sym, ap}
use Prim.Native.Nat.{ℕ, zero, suc, ◌+◌, ◌-◌, ◌^◌}
use Rattle.laws.specs.Size.{size_at}
use Rattle.checker_words.specs.Words.{allowed_at}
use borrow.Author.Rules.{rules}
use Rattle.checker_words.proofs.allowed_at.Goals as goal

-- from level 3 on
high : (set level : ℕ) → (level ≡ 0 → ⊥) → (level ≡ 1 → ⊥) → (level ≡ 2 → ⊥) → set + (2 ^ 48 - 2 ^ 12) + 2 ≡ allowed_at set level
unfolding allowed_at
high set zero a b c = absurd (a refl)
high set (suc zero) a b c = absurd (b refl)
high set (suc (suc zero)) a b c = absurd (c refl)
high set (suc (suc (suc l))) a b c = refl

pub returns-in-0 : goal.returns-in-0
unfolding allowed_at
returns-in-0 c = sym (ap (allowed_at c.args.set) c.in-0.is)

pub returns-in-1 : goal.returns-in-1
unfolding allowed_at size_at
returns-in-1 c = sym (ap (allowed_at c.args.set) c.in-1.is)

pub returns-in-2 : goal.returns-in-2
unfolding allowed_at size_at
returns-in-2 c = sym (ap (allowed_at c.args.set) c.in-2.is)

pub returns-in_default : goal.returns-in_default
returns-in_default c = high c.args.set c.args.level (search rules) (search rules) (search rules)
