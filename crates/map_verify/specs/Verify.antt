-- What map asks of its arguments (document 01, "The refusal slip"): refusals 2 to 7 in their order, a law for each way through the code,
-- and what they leave. Leans on `Fit`.
use Rattle.std.specs.Prelude.{◌≡◌, refl, Bool, true, false, cond, ◌&&◌, ℕ, ◌+◌, ◌-◌, ◌/◌, ◌%◌, ◌^◌, ◌≤◌, ◌<◌, eqb, leb, ltb}
use Rattle.std.proofs.Common.{sym, ap, ◌∙◌, ⊎_elim, arith, eqb→eq}
use Rattle.std.specs.Int.Bits.{bit_and}
use borrow.Author.Tests.{eq-eqb, ne_eqb, le-leb, lt-leb}
use Rattle.laws.specs.Bit.{sub_none}
use Rattle.entry.specs.Word.{only, el1_flags, address_of, flags_of, mask_address, address_and_flags}
use Rattle.laws.specs.Size.{size_at, up, down_paged}
use Rattle.laws.specs.Test.{by_bool, eq_or, le_or}
use Rattle.address.specs.Address.{align_up}
use Rattle.region.specs.Region.{rounded}
use Rattle.region.specs.declared.MemoryRegion.{MemoryRegion}
use Rattle.pool.specs.Refuse.{first_refused, accepted_next, refused-first, granted}
use Rattle.pool.specs.Sound.{flag_set}
use Rattle.pool.specs.declared.Handle.{Handle}
use Rattle.pool.specs.declared.Refusal.{Refusal}
use Rattle.pool.specs.declared.Refusal.TheVariants.{End, InvalidFlags, FlagSet, Frame}
use Rattle.region_verify.specs.Verify.{end_fits, verify, refused_never, verified_forwards}
use Rattle.map_rules.specs.declared.Map.{Map}
use Rattle.map_rules.specs.Fit.{Fit}
use Rattle.std.specs.Prelude.{Err}
use Rattle.pool.specs.Refuse.{Outcome}
use Rattle.std.specs.Prelude.{Ok}

-- the map that a call asks for: "start is rounded down and end up to 4096"; "blocks allowed" is NO_BLOCK_MAPPINGS unset, the constraints'
-- bit 0
unfoldable pub asked_map : ℕ → ℕ → ℕ → ℕ → ℕ → Map
asked_map start end frame flags constraints =
    record { region = rounded start end; frame = record { 0 = frame }; flags = flags; blocks = eqb (constraints % 2) 0 }

-- with the region that was rounded for it
pub asked_is : (start end frame flags constraints : ℕ) {r : MemoryRegion} → r ≡ rounded start end
    → ◌≡◌ {A = Map} (record { region = r; frame = record { 0 = frame }; flags = flags; blocks = eqb (constraints % 2) 0 })
    (asked_map start end frame flags constraints)
unfolding asked_map
asked_is start end frame flags constraints e =
    ap (λ (x : MemoryRegion). record { region = x; frame = record { 0 = frame }; flags = flags; blocks = eqb (constraints % 2) 0 }) e

-- refusal 7: frame not a multiple of 4096, or frame + length above 2^48
abbrev pub frames_fit : ℕ → ℕ → Bool
frames_fit frame length = eqb (frame % 4096) 0 && leb (frame + length) (2 ^ 48)

unfoldable pub frame_asked : ℕ → ℕ → Outcome
frame_asked frame length = cond (frames_fit frame length) granted (Err (Frame (record { 0 = frame })))

-- 2: the end; 3: bit 1 of the flags; 4: flags from the set; 5, 6: the region; 7: the frame
unfoldable pub verify_map : Handle → ℕ → Map → Outcome
verify_map h end m =
    cond (end_fits end)
    (cond (eqb (m.flags / 2 % 2) 1) (Err (InvalidFlags m.flags))
    (cond (only (flag_set h) m.flags)
    (first_refused Err (verify h m.region) (frame_asked m.frame.0 (m.region.end.0 - m.region.start.0)))
    (Err (FlagSet m.flags))))
    (Err (End end))

-- ---- laws: one for each way through the code

module _ (frame length : ℕ) where
  pub fit_part : (frame % 4096 ≡ 0 → ⊥) → false ≡ frames_fit frame length
  fit_part n = rw (ne_eqb (frame % 4096) 0 n)

  pub fit_past : 2 ^ 48 < length → false ≡ frames_fit frame length
  fit_past l = rw (lt-leb (frame + length) (2 ^ 48) (omega arith)) (neither (eqb (frame % 4096) 0))
    where
      neither : (b : Bool) → false ≡ b && false
      neither true = refl
      neither false = refl

  pub fit_rest : frame % 4096 ≡ 0 → length ≤ 2 ^ 48 → leb frame (2 ^ 48 - length) ≡ frames_fit frame length
  fit_rest e l = rw (eq-eqb (frame % 4096) 0 e) (⊎_elim
      (λ h. le-leb frame (2 ^ 48 - length) (omega arith) ∙ sym (le-leb (frame + length) (2 ^ 48) h))
      (λ h. lt-leb frame (2 ^ 48 - length) (omega arith) ∙ sym (lt-leb (frame + length) (2 ^ 48) h))
      (le_or (frame + length) (2 ^ 48)))

  pub frame_not : frames_fit frame length ≡ false → Err (Frame (record { 0 = frame })) ≡ frame_asked frame length
  unfolding frame_asked
  frame_not e = rw e

  pub frame_may : frames_fit frame length ≡ true → granted ≡ frame_asked frame length
  unfolding frame_asked
  frame_may e = rw e

  pub frame_part : (frame % 4096 ≡ 0 → ⊥) → Err (Frame (record { 0 = frame })) ≡ frame_asked frame length
  unfolding frame_asked
  frame_part n = rw (ne_eqb (frame % 4096) 0 n)

  pub frame_past : frame % 4096 ≡ 0 → 2 ^ 48 < frame + length → Err (Frame (record { 0 = frame })) ≡ frame_asked frame length
  unfolding frame_asked
  frame_past e l = rw (eq-eqb (frame % 4096) 0 e, lt-leb (frame + length) (2 ^ 48) l)

  pub frame_fits : frame % 4096 ≡ 0 → frame + length ≤ 2 ^ 48 → granted ≡ frame_asked frame length
  unfolding frame_asked
  frame_fits e l = rw (eq-eqb (frame % 4096) 0 e, le-leb (frame + length) (2 ^ 48) l)

module _ (h : Handle) (end : ℕ) (m : Map) where
  pub ask_end : end_fits end ≡ false → Err (End end) ≡ verify_map h end m
  unfolding verify_map
  ask_end e = rw e

  module _ (ends : end_fits end ≡ true) where
    pub ask_invalid : m.flags / 2 % 2 ≡ 1 → Err (InvalidFlags m.flags) ≡ verify_map h end m
    unfolding verify_map
    ask_invalid e = rw (ends, eq-eqb (m.flags / 2 % 2) 1 e)

    module _ (plain : m.flags / 2 % 2 ≡ 1 → ⊥) where
      pub ask_set : only (flag_set h) m.flags ≡ false → Err (FlagSet m.flags) ≡ verify_map h end m
      unfolding verify_map
      ask_set e = rw (ends, ne_eqb (m.flags / 2 % 2) 1 plain, e)

      module _ (from : only (flag_set h) m.flags ≡ true) where
        by_region : first_refused Err (verify h m.region) (frame_asked m.frame.0 (m.region.end.0 - m.region.start.0))
            ≡ verify_map h end m
        unfolding verify_map
        by_region = rw (ends, ne_eqb (m.flags / 2 % 2) 1 plain, from)

        pub ask_region : {x : Outcome} → x ≡ verify h m.region → (r : Refusal) → x ≡ Err r → x ≡ verify_map h end m
        ask_region e r q = q ∙ refused-first Err _ _ r (sym e ∙ q) ∙ by_region

        pub ask_frame : {x : Outcome} → x ≡ verify h m.region → x ≡ granted
            → frame_asked m.frame.0 (m.region.end.0 - m.region.start.0) ≡ verify_map h end m
        ask_frame e q = accepted_next Err _ _ (sym e ∙ q) ∙ by_region

-- ---- what they leave

pub only_plain : (h : Handle) (f : ℕ) → only (flag_set h) f ≡ true → flags_of f ≡ f
unfolding only flag_set el1_flags
only_plain h f e =
    let sub : bit_and f el1_flags ≡ f = eqb→eq (bit_and f el1_flags) f (rw e tt) in
    let none : bit_and f 0xFFFF_FFFF_F000 ≡ 0 = sub_none f el1_flags 0xFFFF_FFFF_F000 sub refl in
    let z : address_of f ≡ 0 = sym (mask_address f) ∙ none in
    let both = address_and_flags f in
    omega arith

pub record Passes (h : Handle) (end : ℕ) (m : Map) : Type 0 where
  pub ends : end_fits end ≡ true
  pub plain : m.flags / 2 % 2 ≡ 0
  pub from : only (flag_set h) m.flags ≡ true
  pub region : verify h m.region ≡ granted
  pub frame : frame_asked m.frame.0 (m.region.end.0 - m.region.start.0) ≡ granted

-- an accepted map passes each of them
pub passes : (h : Handle) (end : ℕ) (m : Map) → verify_map h end m ≡ granted → Passes h end m
passes h end m ok = by_bool (end_fits end) ended (λ e. absurd (refused_never (ask_end h end m e ∙ ok)))
  where
    framed : (ends : end_fits end ≡ true) (plain : m.flags / 2 % 2 ≡ 1 → ⊥) (from : only (flag_set h) m.flags ≡ true) (x : Outcome)
        → verify h m.region ≡ x → Passes h end m
    framed ends plain from (Ok tt) e =
        record { ends = ends; plain = omega arith; from = from; region = e; frame = ask_frame h end m ends plain from (sym e) refl ∙ ok }
    framed ends plain from (Err r) e = absurd (refused_never (ask_region h end m ends plain from (sym e) r refl ∙ ok))

    ended : end_fits end ≡ true → Passes h end m
    ended ends = ⊎_elim
        (λ e. absurd (refused_never (ask_invalid h end m ends e ∙ ok)))
        (λ plain. by_bool (only (flag_set h) m.flags) (λ from. framed ends plain from (verify h m.region) refl)
        (λ e. absurd (refused_never (ask_set h end m ends plain e ∙ ok))))
        (eq_or (m.flags / 2 % 2) 1)

frame_says : (frame length : ℕ) → frame_asked frame length ≡ granted → (frame % 4096 ≡ 0) × (frame + length ≤ 2 ^ 48)
frame_says frame length ok = ⊎_elim
    (λ e. ⊎_elim (λ l. (e, l)) (λ l. absurd (refused_never (frame_past frame length e l ∙ ok))) (le_or (frame + length) (2 ^ 48)))
    (λ n. absurd (refused_never (frame_part frame length n ∙ ok)))
    (eq_or (frame % 4096) 0)

-- both ends of a rounded region are multiples of 4096
pub up_pages : (a : ℕ) → align_up a 4096 % 4096 ≡ 0
unfolding align_up up size_at
up_pages a = by_bool (ltb (up a 4096) (2 ^ 64)) (λ e. rw e (down_paged 3 (a + 4095))) (λ e. rw e refl)

-- what is put down is whole pages, with frames below 2^48 and flags that share no bit with them
pub asked_fit : (h : Handle) (start end frame flags constraints : ℕ) → flags < 2 ^ 64
    → let m = asked_map start end frame flags constraints in verify_map h end m ≡ granted → Fit m
unfolding asked_map rounded size_at
asked_fit h start end frame flags constraints low ok =
    let m = asked_map start end frame flags constraints in
    let p = passes h end m ok in
    let f = frame_says frame (m.region.end.0 - m.region.start.0) p.frame in
    record {
      from = down_paged 3 start;
      to = up_pages end;
      some = verified_forwards h m.region p.region;
      frame = f.0;
      room = f.1;
      flags = record { wide = low; bits = only_plain h flags p.from; clear = p.plain };
    }
