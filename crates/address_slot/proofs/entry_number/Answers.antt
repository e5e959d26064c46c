-- `entry_number`: each way through the code by its law.
use mathlib.Core.Path.{sym, ap}
use Prim.Native.Nat.{ℕ, ◌/◌}
use native.Mathlib.Omega.{arith}
use Rattle.laws.specs.Size.{size_at, size_page}
use Rattle.address_slot.proofs.entry_number.Goals as goal

pub returns-in-0 : goal.returns-in-0
unfolding size_at
returns-in-0 c = sym (ap (λ (l : ℕ). c.args.va / size_at l) c.in-0.is)

pub returns-in-1 : goal.returns-in-1
unfolding size_at
returns-in-1 c = sym (ap (λ (l : ℕ). c.args.va / size_at l) c.in-1.is)

pub returns-in-2 : goal.returns-in-2
unfolding size_at
returns-in-2 c = sym (ap (λ (l : ℕ). c.args.va / size_at l) c.in-2.is)

pub returns-in_default : goal.returns-in_default
returns-in_default c =
    ap (λ (g : ℕ). c.args.va / g) (sym (size_page c.args.level (omega arith)))
