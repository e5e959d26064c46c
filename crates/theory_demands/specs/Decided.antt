-- The lines that slips share, decided: a line is on the slip and the definitions' test says so, or neither. Leans on `Slip`.
use Rattle.std.specs.Prelude.{◌≡◌, refl, true, false, ◌⊎◌, ◌≢◌, ℕ, ◌+◌, ◌*◌, ◌-◌, ◌%◌, ◌^◌, ◌≤◌, ◌<◌, T, length, Err}
use Rattle.std.proofs.Common.{sym, ◌∙◌, inl, inr, ⊎_elim, arith, le-leb, le-ltb, lt-ltb}
use Rattle.std.specs.Int.Bits.{bit_and}
use Rattle.std.proofs.lemmas.Bool.{lt-leb}
use Rattle.laws.specs.Size.{span, span_high}
use Rattle.laws.specs.Test.{eqb_cases, eq_or, le_or}
use Rattle.address.specs.declared.VirtualAddress.{VirtualAddress}
use Rattle.entry.specs.Word.{only}
use Rattle.region.specs.declared.MemoryRegion.{MemoryRegion}
use Rattle.pool.specs.State.{St, tables}
use Rattle.pool.specs.Refuse.{max_tables, shaped, Shaped, shaped-says, says-shaped, granted}
use Rattle.pool.specs.Sound.{soundb, flag_set}
use Rattle.pool.specs.declared.Handle.{Handle}
use Rattle.pool.specs.declared.VaRange.{VaRange}
use Rattle.pool.specs.declared.VaRange.TheVariants.{Lower, Upper}
use Rattle.pool.specs.declared.Refusal.{Refusal}
use Rattle.pool.specs.declared.Refusal.TheVariants.{RegionBackwards, AddressRange}
use Rattle.theory_sound.specs.Clauses.{SoundPool}
use Rattle.theory_sound.proofs.Decide.{sound_exactly}
use Rattle.region_verify.specs.Verify.{end_fits, in_range, verify, refused_never, lower_start, lower_end, lower_in, upper_start, upper_in}
use Rattle.region_verify.specs.Verify.{verify_backwards, verify_forwards}
use Rattle.look_up.specs.Call.{spanned}
use Rattle.theory_demands.specs.Slip.{Misshaped, BadEnd, OutsideSet, Backwards, BeyondRange, BeyondSpan}

-- 1
pub misshaped : (h : Handle) (s : St) → shaped h s ≡ false → Misshaped h s
misshaped h s fails =
    ⊎_elim (λ l. inl (omega arith))
    (λ some. inr (⊎_elim (λ limit. inr (⊎_elim (λ sized. inr (⊎_elim (λ paged. inr (⊎_elim (λ ended. inr (⊎_elim
    (λ low. absurd
    (let t : T (shaped h s) = says-shaped h s
    (record { some = some; limit = limit; sized = sized; paged = paged; ended = ended; level = low }) in
    rw fails at t))
    (λ l. l) (le_or h.level 3)))
    (λ l. inl l)
    (le_or (h.base.0 + 4096 * tables s) (2 ^ 48)))) (λ n. inl n) (eq_or (h.base.0 %
    4096) 0))) (λ n. inl n) (eq_or (length s.words) (512 * tables s))))
    (λ l. inl l) (le_or (tables s) max_tables))) (le_or (tables s) 0)

pub well_shaped : (h : Handle) (s : St) → shaped h s ≡ true → Shaped h s
well_shaped h s fits = shaped-says h s (rw fits tt)

pub not_misshaped : (h : Handle) (s : St) → shaped h s ≡ true → ¬ (Misshaped h s)
not_misshaped h s fits = go (well_shaped h s fits)
  where
    go : Shaped h s → Misshaped h s → ⊥
    go p (inl e) = omega (arith, p.some)
    go p (inr (inl l)) = omega (arith, p.limit)
    go p (inr (inr (inl n))) = n p.sized
    go p (inr (inr (inr (inl n)))) = n p.paged
    go p (inr (inr (inr (inr (inl l))))) = omega (arith, p.ended)
    go p (inr (inr (inr (inr (inr l))))) = omega (arith, p.level)

-- 8
module _ (h : Handle) (s : St) (fits : shaped h s ≡ true) where
  pub unsound : soundb h s ≡ false → ¬ (SoundPool h s)
  unsound fails P = let t : T (soundb h s) = (sound_exactly (well_shaped h s fits)).1 P in rw fails at t

  pub sound : soundb h s ≡ true → SoundPool h s
  sound is = (sound_exactly (well_shaped h s fits)).0 (rw is tt)

-- 5, 6
pub range_told : (range : VaRange) (level : ℕ) (r : MemoryRegion)
    → ((a : VirtualAddress) × (in_range range level r ≡ Err (AddressRange a)) × BeyondRange range level r a)
    ⊎ ((in_range range level r ≡ granted) × ((a : VirtualAddress) → ¬ (BeyondRange range level r a)))
unfolding span
range_told Lower level r = go (le_or (2 ^ 63) r.start.0) (le_or r.end.0 (span level))
  where
    go : (2 ^ 63 ≤ r.start.0) ⊎ (r.start.0 < 2 ^ 63) → (r.end.0 ≤ span level) ⊎ (span level < r.end.0)
        → ((a : VirtualAddress) × (in_range Lower level r ≡ Err (AddressRange a)) × BeyondRange Lower level r a)
        ⊎ ((in_range Lower level r ≡ granted) × ((a : VirtualAddress) → ¬ (BeyondRange Lower level r a)))
    go (inl l) m = inl (r.start, sym (lower_start Lower level r refl refl l), inl (l, refl))
    go (inr l) (inr m) = inl (r.end, sym (lower_end Lower level r refl refl l m), inr (l, m, refl))
    go (inr l) (inl m) =
        inr (sym (lower_in Lower level r refl refl l m), λ a x. ⊎_elim (λ p. omega (arith, p.0)) (λ p. omega (arith, p.1)) x)
range_told Upper level r = go (le_or (2 ^ 64 - span level) r.start.0)
  where
    go : (2 ^ 64 - span level ≤ r.start.0) ⊎ (r.start.0 < 2 ^ 64 - span level)
        → ((a : VirtualAddress) × (in_range Upper level r ≡ Err (AddressRange a)) × BeyondRange Upper level r a)
        ⊎ ((in_range Upper level r ≡ granted) × ((a : VirtualAddress) → ¬ (BeyondRange Upper level r a)))
    go (inl l) =
        let z = span_high level in
        inr (sym (upper_in Upper level r refl refl (omega arith)), λ a x. ⊎_elim (λ p. omega arith) (λ p. omega arith) x.0)
    go (inr l) = let z = span_high level in inl (r.start, sym (upper_start Upper level r refl refl (omega arith)), (inr l, refl))

pub record RegionStands (h : Handle) (r : MemoryRegion) : Type 0 where
  pub forwards : ¬ (Backwards r)
  pub within : (a : VirtualAddress) → ¬ (BeyondRange h.range h.level r a)

-- `verify_region` is refused by 5, by 6, or by neither
abbrev pub RegionTold : Handle → MemoryRegion → Type 0
RegionTold h r =
    ((verify h r ≡ Err (RegionBackwards r)) × Backwards r)
    ⊎ (((a : VirtualAddress) × (verify h r ≡ Err (AddressRange a)) × (¬ (Backwards r)) × BeyondRange h.range h.level r a)
    ⊎ ((verify h r ≡ granted) × RegionStands h r))

pub region-told : (h : Handle) (r : MemoryRegion) → RegionTold h r
region-told h r = ⊎_elim ahead (λ l. inl (sym (verify_backwards h r l), l)) (le_or r.start.0 r.end.0)
  where
    ahead : r.start.0 ≤ r.end.0 → RegionTold h r
    ahead l = inr (⊎_elim
        (λ x. inl (x.0, sym (verify_forwards h r l) ∙ x.1, (λ b. omega arith), x.2))
        (λ x. inr (sym (verify_forwards h r l) ∙ x.0, record { forwards = λ b. omega arith; within = x.1 }))
        (range_told h.range h.level r))

-- no refusal is an acceptance
pub accepted-not : (r : Refusal) → granted ≢ Err r
accepted-not r e = refused_never (sym e)

-- 2
pub end_told : (end : ℕ) → ((end_fits end ≡ false) × BadEnd end) ⊎ ((end_fits end ≡ true) × (¬ (BadEnd end)))
unfolding end_fits
end_told end = go (le_or 1 end) (le_or end (2 ^ 64 - 4096))
  where
    go : (1 ≤ end) ⊎ (end < 1) → (end ≤ 2 ^ 64 - 4096) ⊎ (2 ^ 64 - 4096 < end)
        → ((end_fits end ≡ false) × BadEnd end) ⊎ ((end_fits end ≡ true) × (¬ (BadEnd end)))
    go (inr l) m = inl (rw (lt-leb 1 end l), inl (omega arith))
    go (inl l) (inr m) = inl (rw (le-leb 1 end l, lt-leb end (2 ^ 64 - 4096) m), inr m)
    go (inl l) (inl m) = inr (rw (le-leb 1 end l, le-leb end (2 ^ 64 - 4096) m), λ x. ⊎_elim (λ e. omega arith) (λ e. omega arith) x)

-- 4
pub set_told : (h : Handle) (flags : ℕ)
    → ((only (flag_set h) flags ≡ false) × OutsideSet h flags) ⊎ ((only (flag_set h) flags ≡ true) × (¬ (OutsideSet h flags)))
unfolding only
set_told h flags = ⊎_elim (λ x. inr (x.1, λ n. n x.0)) (λ x. inl (x.1, x.0)) (eqb_cases (bit_and flags (flag_set h)) flags)

-- 6, look up
pub span-told : (range : VaRange) (level va : ℕ)
    → ((spanned range level va ≡ false) × BeyondSpan range level va) ⊎ ((spanned range level va ≡ true) × (¬ (BeyondSpan range level va)))
unfolding spanned
span-told Lower level va =
    ⊎_elim (λ l. inl (le-ltb va (span level) l, l)) (λ l. inr (lt-ltb va (span level) l, λ m. omega arith)) (le_or (span level) va)
span-told Upper level va = ⊎_elim
    (λ l. inr (le-leb (2 ^ 64 - span level) va l, λ m. omega arith))
    (λ l. inl (lt-leb (2 ^ 64 - span level) va l, l))
    (le_or (2 ^ 64 - span level) va)
