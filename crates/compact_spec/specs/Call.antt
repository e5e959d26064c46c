-- The whole call (document 01, "The refusal slip"): answer and state for every input. Refusals 1 and 8 in their order; a refusal leaves the
-- state as it was.
use Rattle.std.specs.Prelude.{◌≡◌, true, false, cond, ℕ, ◌-◌}
use Rattle.std.proofs.Common.{ap}
use Rattle.pool.specs.State.{St}
use Rattle.pool.specs.Number.{used}
use Rattle.pool.specs.Refuse.{shaped, Out, out}
use Rattle.pool.specs.Sound.{soundb}
use Rattle.pool.specs.declared.Handle.{Handle}
use Rattle.pool.specs.declared.Refusal.TheVariants.{Shape, Unsound}
use Rattle.compact_spec.specs.Compact.{compact_table}
use Rattle.std.specs.Prelude.{Err, Ok}
use Rattle.pool.specs.Refuse.{Counted}

-- from the root down
unfoldable pub compacted : Handle → St → St
compacted h s = compact_table (3 - h.level) h 0 s

-- "the tables in use afterwards, counted off the ledger"
unfoldable pub compact_sound : Handle → St → Out Counted
compact_sound h s = let t = compacted h s in out (Ok (used t.ledger)) t

-- refusals 1 and 8
unfoldable pub compact_call : Handle → St → Out Counted
compact_call h s = cond (shaped h s) (cond (soundb h s) (compact_sound h s) (out (Err Unsound) s)) (out (Err Shape) s)

-- ---- laws: one for each way through the code

module _ (h : Handle) (s : St) where
  pub call_misshaped : shaped h s ≡ false → out (Err Shape) s ≡ compact_call h s
  unfolding compact_call
  call_misshaped e = rw e

  module _ (shape : shaped h s ≡ true) where
    pub call_unsound : soundb h s ≡ false → out (Err Unsound) s ≡ compact_call h s
    unfolding compact_call
    call_unsound e = rw (shape, e)

    pub call-compacted : soundb h s ≡ true → {t : St} {count : ℕ} → t ≡ compact_table (3 - h.level) h 0 s → count ≡ used t.ledger
        → out (Ok count) t ≡ compact_call h s
    unfolding compact_call compact_sound compacted
    call-compacted sound e q = rw (shape, sound, q) (ap (λ (x : St). out (Ok (used x.ledger)) x) e)
