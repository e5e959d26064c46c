-- The whole call (document 01, "Putting down a map" and "The refusal slip"): answer and state for every input. Refusals 1 to 9 in their
-- order; a refusal leaves the state as it was.
use Rattle.std.specs.Prelude.{◌≡◌, true, false, cond, ℕ, ◌-◌, ◌≤◌, ◌<◌, ltb}
use Rattle.std.proofs.Math.Path.{sym}
use Rattle.std.proofs.Common.{ap, ◌∙◌}
use borrow.Author.Tests.{lt-ltb, le-ltb}
use Rattle.pool.specs.State.{St}
use Rattle.pool.specs.Number.{used, free}
use Rattle.pool.specs.Refuse.{shaped, Out, out, first_refused, accepted_next, refused-first, granted}
use Rattle.pool.specs.Sound.{soundb}
use Rattle.pool.specs.declared.Handle.{Handle}
use Rattle.pool.specs.declared.Refusal.{Refusal}
use Rattle.pool.specs.declared.Refusal.TheVariants.{Shape, Unsound, WantOfRoom}
use Rattle.map_rules.specs.declared.Map.{Map}
use Rattle.map_put.specs.Put.{map_range}
use Rattle.map_count_spec.specs.Needed.{needed}
use Rattle.map_verify.specs.Verify.{asked_map, verify_map}
use Rattle.std.specs.Prelude.{Err, Ok}
use Rattle.pool.specs.Refuse.{Counted}
use Rattle.pool.specs.Refuse.{Outcome}

-- a refusal leaves the state as it was
abbrev pub refused : Refusal → St → Out Counted
refused r s = out (Err r) s

-- the map is put down in the root; "tables in use afterwards, counted off the ledger"
unfoldable pub put_down : Handle → Map → St → Out Counted
put_down h m s = let t = map_range (3 - h.level) h 0 m s in out (Ok (used t.ledger)) t

-- refusals 8, 9
unfoldable pub map_sound : Handle → Map → St → Out Counted
map_sound h m s =
    let need = needed (3 - h.level) h s 0 m in
    let room = free s.ledger in
    cond (soundb h s) (cond (ltb room need) (refused (WantOfRoom need room) s) (put_down h m s)) (refused Unsound s)

-- refusal 1, refusals 2 to 7, then the rest
unfoldable pub map_call : Handle → ℕ → ℕ → ℕ → ℕ → ℕ → St → Out Counted
map_call h start end frame flags constraints s =
    let m = asked_map start end frame flags constraints in
    cond (shaped h s) (first_refused (λ r. refused r s) (verify_map h end m) (map_sound h m s)) (refused Shape s)

-- ---- laws: one for each way through the code

module _ (h : Handle) (m : Map) (s : St) where
  pub sound_not : soundb h s ≡ false → refused Unsound s ≡ map_sound h m s
  unfolding map_sound
  sound_not e = rw e

  module _ (sound : soundb h s ≡ true) {need room : ℕ} (counts : need ≡ needed (3 - h.level) h s 0 m)
      (spare : room ≡ free s.ledger) where
    pub sound_full : room < need → refused (WantOfRoom need room) s ≡ map_sound h m s
    unfolding map_sound
    sound_full l = rw (sound, sym counts, sym spare, lt-ltb room need l)

    pub sound_mapped : need ≤ room → put_down h m s ≡ map_sound h m s
    unfolding map_sound
    sound_mapped l = rw (sound, sym counts, sym spare, le-ltb room need l)

  pub put_down_lem : {t : St} {count : ℕ} → t ≡ map_range (3 - h.level) h 0 m s → count ≡ used t.ledger
      → out (Ok count) t ≡ put_down h m s
  unfolding put_down
  put_down_lem {t} e q = rw q (ap (λ (x : St). out (Ok (used x.ledger)) x) e)

module _ (h : Handle) (start end frame flags constraints : ℕ) (s : St) where
  abbrev m : Map
  m = asked_map start end frame flags constraints

  pub call_misshaped : shaped h s ≡ false → refused Shape s ≡ map_call h start end frame flags constraints s
  unfolding map_call
  call_misshaped e = rw e

  module _ (shape : shaped h s ≡ true) {x : Outcome} (is : x ≡ verify_map h end m) where
    by_asked : first_refused (λ r. refused r s) x (map_sound h m s) ≡ map_call h start end frame flags constraints s
    unfolding map_call
    by_asked = rw (shape, is)

    pub call-refused : (r : Refusal) → x ≡ Err r → refused r s ≡ map_call h start end frame flags constraints s
    call-refused r e = refused-first (λ r. refused r s) x _ r e ∙ by_asked

    pub call-asked : x ≡ granted → map_sound h m s ≡ map_call h start end frame flags constraints s
    call-asked e = accepted_next (λ r. refused r s) x _ e ∙ by_asked
