-- Make, the whole call: answer and state for every input, the refusal first.
use Rattle.std.specs.Prelude.{◌≡◌, true, false, cond, length, set, replicate}
use Rattle.pool.specs.State.{St, st}
use Rattle.pool.specs.Number.{root_number}
use Rattle.pool.specs.Refuse.{shaped, Out, out, refuse, granted, Outcome}
use Rattle.pool.specs.declared.Handle.{Handle}
use Rattle.pool.specs.declared.Refusal.TheVariants.{Shape}

-- ---- make: "zeroes all words and the ledger, then enters the root". Refusal 1.

unfoldable pub fresh : Handle → St → St
fresh h s = st (replicate (length s.words) 0) (set (replicate (length s.ledger) 0) 0 (root_number h.level))

unfoldable pub make_call : Handle → St → Out Outcome
make_call h s = cond (shaped h s) (out granted (fresh h s)) (refuse Shape s)

-- ---- laws: one for each way through the code

pub make_refused : (h : Handle) (s : St) → shaped h s ≡ false → refuse Shape s ≡ make_call h s
unfolding make_call
make_refused h s e = rw e

pub make_accepted : (h : Handle) (s : St) → shaped h s ≡ true → out granted (fresh h s) ≡ make_call h s
unfolding make_call
make_accepted h s e = rw e
