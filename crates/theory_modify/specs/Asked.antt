-- What refusals 2 to 6 leave of a modify: bits from the set, whole pages inside the root's span.
use Rattle.std.specs.Prelude.{◌≡◌, refl, Bool, true, false, cond, ℕ, ◌-◌, ◌/◌, ◌%◌, ◌≤◌, eqb, Err, Ok}
use Rattle.std.proofs.Common.{arith, lit<}
use Rattle.std.proofs.lemmas.Bool.{eqb-false}
use Rattle.entry.specs.Word.{only}
use Rattle.pool.specs.Refuse.{first_refused, granted, Outcome}
use Rattle.pool.specs.Sound.{flag_set}
use Rattle.pool.specs.declared.Handle.{Handle}
use Rattle.pool.specs.declared.Refusal.{Refusal}
use Rattle.pool.specs.declared.Refusal.TheVariants.{End, InvalidFlags, FlagSet}
use Rattle.region_verify.specs.Verify.{end_fits, verify, verified_forwards}
use Rattle.modify_entry.specs.declared.Edit.{Edit}
use Rattle.modify_verify.specs.Verify.{asked_edit, settable, settable-says, verify_bits, verify_edit, asked-span}
use Rattle.theory_map.specs.Terms.{root_of}
use Rattle.theory_map.specs.Stand.{Allowed}
use Rattle.theory_map.specs.Pieces.{Area}
use Rattle.theory_map.specs.Asked.{pages_inside, flags_allowed, Early, cond_early, first_early, verify_early}
use Rattle.theory_modify.specs.Word.{Bits}
use Rattle.theory_modify.specs.Pass.{area_of}

-- ---- the tests that are passed

passes_not : (b : Bool) (r : Refusal) (x : Outcome) → cond b (Err r) x ≡ granted → (b ≡ false) × (x ≡ granted)
passes_not true r x e = cc
passes_not false r x e = (refl, e)

passes_if : (b : Bool) (r : Refusal) (x : Outcome) → cond b x (Err r) ≡ granted → (b ≡ true) × (x ≡ granted)
passes_if true r x e = (refl, e)
passes_if false r x e = cc

passes_both : (x y : Outcome) → first_refused Err x y ≡ granted → (x ≡ granted) × (y ≡ granted)
unfolding first_refused
passes_both (Ok tt) y e = (refl, e)
passes_both (Err r) y e = cc

not-one : (n : ℕ) → eqb (n % 2) 1 ≡ false → n % 2 ≡ 0
not-one n e = let k = eqb-false (n % 2) 1 e in omega arith

bits_pass : (h : Handle) (set clear : ℕ) → verify_bits h set clear ≡ granted → (Allowed h set) × (Allowed h clear) × (set % 2 ≡ 0)
unfolding verify_bits
bits_pass h set clear ok =
    let a = passes_not (eqb (set / 2 % 2) 1) (InvalidFlags set) _ ok in
    let b = passes_not (eqb (clear / 2 % 2) 1) (InvalidFlags clear) _ a.1 in
    let c = passes_if (settable (flag_set h) set clear) (FlagSet set) _ b.1 in
    let d = settable-says (flag_set h) set clear c.0 in
    let f = passes_if (only (flag_set h) clear) (FlagSet clear) granted c.1 in
    (flags_allowed h set d.0 (not-one (set / 2) a.0), flags_allowed h clear f.0 (not-one (clear / 2) b.0), not-one set d.1)

-- ---- what is left of a call

module _ (h : Handle) (start end set clear : ℕ) (live : Bool) (ok : verify_edit h end (asked_edit start end set clear live)
    ≡ granted) where
  abbrev e : Edit
  e = asked_edit start end set clear live

  asked_passes : (verify_bits h e.set e.clear ≡ granted) × (verify h e.region ≡ granted)
  unfolding verify_edit
  asked_passes = passes_both (verify_bits h e.set e.clear) (verify h e.region) (passes_if (end_fits end) (End end) _ ok).1

  pub asked-bits : Bits h e
  asked-bits = let b = bits_pass h e.set e.clear asked_passes.0 in record { set = b.0; clear = b.1 }

  pub asked_area : h.level ≤ 3 → Area (3 - h.level) (root_of h.range (3 - h.level)) (area_of e 0)
  unfolding asked_edit
  asked_area low = record {
    inside = pages_inside h start end 0 low asked_passes.1 (omega arith);
    room = omega (arith, asked-span h start end set clear live ok);
  }

  pub asked_forwards : e.region.start.0 ≤ e.region.end.0
  asked_forwards = verified_forwards h e.region asked_passes.1

-- ---- refusals 2 to 6 are none of the later ones

bits_early : (h : Handle) (set clear : ℕ) → Early (verify_bits h set clear)
unfolding verify_bits
bits_early h set clear =
    let last : Outcome = cond (only (flag_set h) clear) granted (Err (FlagSet clear)) in
    let from : Outcome = cond (settable (flag_set h) set clear) last (Err (FlagSet set)) in
    let second : Outcome = cond (eqb (clear / 2 % 2) 1) (Err (InvalidFlags clear)) from in
    cond_early (eqb (set / 2 % 2) 1) (Err (InvalidFlags set)) second (lit< tt)
    (cond_early (eqb (clear / 2 % 2) 1) (Err (InvalidFlags clear)) from (lit< tt)
    (cond_early (settable (flag_set h) set clear) last (Err (FlagSet set))
    (cond_early (only (flag_set h) clear) granted (Err (FlagSet clear)) tt (lit< tt)) (lit< tt)))

pub asked_early : (h : Handle) (end : ℕ) (e : Edit) → Early (verify_edit h end e)
unfolding verify_edit
asked_early h end e =
    let bits : Outcome = verify_bits h e.set e.clear in
    cond_early (end_fits end) (first_refused Err bits (verify h e.region)) (Err (End end))
    (first_early bits (verify h e.region) (bits_early h e.set e.clear) (verify_early h e.region)) (lit< tt)
