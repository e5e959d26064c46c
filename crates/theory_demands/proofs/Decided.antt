-- Theorems about the definitions of specs/Decided.
use Rattle.std.specs.Prelude.{◌≡◌, ◌⊎◌, ℕ, ◌+◌, ◌-◌, ◌%◌, ◌^◌, Err}
use Rattle.std.proofs.Common.{sym, inl, inr, ⊎_elim, arith}
use Rattle.laws.specs.Test.{eq_or, le_or}
use Rattle.region.specs.declared.MemoryRegion.{MemoryRegion}
use Rattle.pool.specs.declared.Refusal.TheVariants.{Frame}
use Rattle.map_verify.specs.Verify.{frame_asked, frame_part, frame_past, frame_fits}
use Rattle.theory_demands.specs.Slip.{BadFrame}
use Rattle.pool.specs.Refuse.{granted}

-- 7
pub frame_told : (frame : ℕ) (r : MemoryRegion) → let length = r.end.0 - r.start.0 in
    ((frame_asked frame length ≡ Err (Frame (record { 0 = frame }))) × BadFrame frame r)
    ⊎ ((frame_asked frame length ≡ granted) × (¬ (BadFrame frame r)))
frame_told frame r =
    let length = r.end.0 - r.start.0 in
    ⊎_elim
    (λ e. ⊎_elim
    (λ l. inr (sym (frame_fits frame length e l), λ x. ⊎_elim (λ n. n e) (λ m. omega arith) x))
    (λ l. inl (sym (frame_past frame length e l), inr l))
    (le_or (frame + length) (2 ^ 48)))
    (λ n. inl (sym (frame_part frame length n), inl n))
    (eq_or (frame % 4096) 0)
