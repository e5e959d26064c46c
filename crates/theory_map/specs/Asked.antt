-- What refusals 2 to 7 leave of a map: flags from the set, whole pages inside the root's span, frames below 2^48. What refusals 1 to 8
-- leave of any call that asks for the pool's shape, its own arguments and soundness (`left_by`).
use Rattle.std.specs.Prelude.{◌≡◌, refl, Bool, true, false, cond, ◌&&◌, ◌||◌, ℕ, suc, ◌+◌, ◌-◌, ◌/◌, ◌%◌, ◌^◌, ◌≤◌, ◌<◌, eqb, leb, ltb}
use Rattle.std.proofs.Common.{subst, arith, eqb→eq, lit<, ltb-true}
use Rattle.std.specs.Int.Bits.{bit_and}
use Rattle.std.proofs.lemmas.Nat.{and_le_r}
use Rattle.laws.specs.Bit.{SubBits}
use Rattle.laws.specs.Size.{size_at, span, up, down_paged}
use Rattle.laws.specs.Test.{by_bool}
use Rattle.address.specs.Address.{align_up}
use Rattle.entry.specs.Word.{only}
use Rattle.region.specs.Region.{rounded}
use Rattle.region.specs.declared.MemoryRegion.{MemoryRegion}
use Rattle.pool.specs.Sound.{flag_set, soundb}
use Rattle.pool.specs.declared.Handle.{Handle}
use Rattle.pool.specs.declared.VaRange.{VaRange}
use Rattle.pool.specs.declared.VaRange.TheVariants.{Lower, Upper}
use Rattle.pool.specs.State.{St}
use Rattle.pool.specs.Refuse.{number, first_refused, shaped, Shaped, shaped-says, granted, Outcome}
use Rattle.pool.specs.declared.Refusal.{Refusal}
use Rattle.pool.specs.declared.Refusal.TheVariants.{Shape, Unsound, End, InvalidFlags, FlagSet, RegionBackwards, AddressRange, Frame}
use Rattle.region_verify.specs.Verify.{end_fits, in_range, verify, verified_forwards, RegionInSpan, verified_span}
use Rattle.map_rules.specs.declared.Map.{Map}
use Rattle.map_rules.specs.Fit.{Fit}
use Rattle.map_verify.specs.Verify.{asked_map, frame_asked, verify_map, passes, only_plain, asked_fit, up_pages}
use Rattle.theory_sound.specs.Clauses.{SoundPool}
use Rattle.theory_sound.proofs.Decide.{decide_sound}
use Rattle.theory_tree.specs.Page.{pages_in, span-size, span_suc, first, in_from}
use Rattle.theory_tree.specs.Root.{upper_root, upper-span}
use Rattle.theory_tree.specs.Chunks.{Inside}
use Rattle.theory_map.specs.Terms.{root_of}
use Rattle.theory_map.specs.Leaf.{set_below}
use Rattle.theory_map.specs.Stand.{Allowed}
use Rattle.theory_map.specs.Pieces.{Area}
use Rattle.std.specs.Prelude.{Err, Ok}

-- ---- a region that refusal 6 leaves lies in the root's span

-- the pages of a region in the span, in the root's table
root_pages : (range : VaRange) (depth : ℕ) (r : MemoryRegion) → depth ≤ 3 → RegionInSpan range (3 - depth) r
    → r.start.0 ≤ r.end.0 → r.end.0 < 2 ^ 64 → r.end.0 % 4096 ≡ 0
    → (first (suc depth) (root_of range depth) ≤ r.start.0 / 4096)
    × (r.end.0 / 4096 ≤ first (suc depth) (root_of range depth) + pages_in (suc depth))
unfolding root_of first span
root_pages Lower depth r low within some small paged =
    let s = span-size depth low in
    let n = span_suc depth in
    (omega arith, omega arith)
root_pages Upper depth r low within some small paged =
    let s = in_from (suc depth) (upper_root depth) (r.start.0 / 4096) (upper-span depth r.start.0 low within (omega arith)) in
    let e = in_from (suc depth) (upper_root depth) (r.end.0 / 4096) (upper-span depth r.end.0 low (omega arith) small) in
    (s.0, omega (arith, e.1))

aligned_below : (a : ℕ) → align_up a 4096 < 2 ^ 64
unfolding align_up
aligned_below a = by_bool (ltb (up a 4096) (2 ^ 64)) (λ e. rw e (ltb-true (up a 4096) (2 ^ 64) e)) (λ e. rw e (omega arith))

-- a region that is rounded and verified, with its frame, in the root's table
pub pages_inside : (h : Handle) (start end frame : ℕ) → h.level ≤ 3 → verify h (rounded start end) ≡ granted → frame % 4096 ≡ 0
    → let depth = 3 - h.level in let r = rounded start end in
    Inside (first (suc depth) (root_of h.range depth)) (pages_in (suc depth)) r.start.0 r.end.0 frame
unfolding rounded size_at
pages_inside h start end frame low ok paged =
    let r : MemoryRegion = rounded start end in
    let some = verified_forwards h r ok in
    let e : h.level ≡ 3 - (3 - h.level) = omega arith in
    let within : RegionInSpan h.range (3 - (3 - h.level)) r = subst (λ (l : ℕ). RegionInSpan h.range l r) e (verified_span h r ok) in
    let pages = root_pages h.range (3 - h.level) r (omega arith) within some (aligned_below end) (up_pages end) in
    record { start_page = down_paged 3 start; end_page = up_pages end; frame_page = paged; low = pages.0; high = pages.1 }

-- flags that refusals 3 and 4 leave
pub flags_allowed : (h : Handle) (f : ℕ) → only (flag_set h) f ≡ true → f / 2 % 2 ≡ 0 → Allowed h f
unfolding only
flags_allowed h f from clear =
    let sub : SubBits f (flag_set h) = eqb→eq (bit_and f (flag_set h)) f (rw from tt) in
    record {
      plain = record { bits = only_plain h f from; clear = clear; wide = omega (arith, and_le_r f (flag_set h), set_below h) };
      from = sub;
    }

-- ---- what is left of a call

module _ (h : Handle) (start end frame flags constraints : ℕ) where
  abbrev m : Map
  m = asked_map start end frame flags constraints

  module _ (ok : verify_map h end m ≡ granted) where
    pub asked_allowed : Allowed h m.flags
    asked_allowed = let p = passes h end m ok in flags_allowed h m.flags p.from p.plain

    small : flags < 2 ^ 64
    unfolding asked_map
    small = asked_allowed.plain.wide

    fit : Fit m
    fit = asked_fit h start end frame flags constraints small ok

    pub asked_area : h.level ≤ 3 → Area (3 - h.level) (root_of h.range (3 - h.level)) m
    unfolding asked_map
    asked_area low = record { inside = pages_inside h start end frame low (passes h end m ok).region fit.frame; room = fit.room }

-- ---- refusals 2 to 7 are none of the later ones

abbrev pub Early : Outcome → Type 0
Early (Ok tt) = Unit {0}
Early (Err r) = number r < 8

pub cond_early : (b : Bool) (x y : Outcome) → Early x → Early y → Early (cond b x y)
cond_early true x y a e = a
cond_early false x y a e = e

pub first_early : (x y : Outcome) → Early x → Early y → Early (first_refused Err x y)
unfolding first_refused
first_early (Ok tt) y a e = e
first_early (Err r) y a e = a

range_early : (range : VaRange) (level : ℕ) (r : MemoryRegion) → Early (in_range range level r)
unfolding in_range
range_early Lower level r =
    let ends : Bool = ltb (span level) r.end.0 in
    cond_early (leb (2 ^ 63) r.start.0) (Err (AddressRange r.start)) (cond ends (Err (AddressRange r.end)) granted)
    (lit< tt)
    (cond_early ends (Err (AddressRange r.end)) granted (lit< tt) tt)
range_early Upper level r =
    cond_early (ltb r.start.0 (2 ^ 63) || ltb r.start.0 (2 ^ 64 - span level)) (Err (AddressRange r.start)) granted
    (lit< tt) tt

pub verify_early : (h : Handle) (r : MemoryRegion) → Early (verify h r)
unfolding verify
verify_early h r =
    cond_early (ltb r.end.0 r.start.0) (Err (RegionBackwards r)) (in_range h.range h.level r) (lit< tt)
    (range_early h.range h.level r)

frame_early : (frame length : ℕ) → Early (frame_asked frame length)
unfolding frame_asked
frame_early frame length =
    cond_early (eqb (frame % 4096) 0 && leb (frame + length) (2 ^ 48)) granted (Err (Frame (record { 0 = frame }))) tt (lit< tt)

pub asked_early : (h : Handle) (end : ℕ) (m : Map) → Early (verify_map h end m)
unfolding verify_map
asked_early h end m =
    let last : Outcome = first_refused Err (verify h m.region) (frame_asked m.frame.0 (m.region.end.0 - m.region.start.0)) in
    let flags : Outcome = cond (only (flag_set h) m.flags) last (Err (FlagSet m.flags)) in
    cond_early (end_fits end) (cond (eqb (m.flags / 2 % 2) 1) (Err (InvalidFlags m.flags)) flags) (Err (End end))
    (cond_early (eqb (m.flags / 2 % 2) 1) (Err (InvalidFlags m.flags)) flags (lit< tt)
    (cond_early (only (flag_set h) m.flags) last (Err (FlagSet m.flags))
    (first_early (verify h m.region) (frame_asked m.frame.0 (m.region.end.0 - m.region.start.0)) (verify_early h m.region)
    (frame_early m.frame.0 (m.region.end.0 - m.region.start.0)))
    (lit< tt)))
    (lit< tt)

-- ---- what refusals 1 to 8 leave, whatever the call

-- `refused` is the call's answer for a refusal, `verdict` what refusals 2 to 7 say
pub record Answers (h : Handle) (s : St) {X : Type 0} (refused : Refusal → X) (verdict : Outcome) (answer : X) : Type 0 where
  pub misshaped : shaped h s ≡ false → refused Shape ≡ answer
  pub stopped : shaped h s ≡ true → (r : Refusal) → verdict ≡ Err r → refused r ≡ answer
  pub unsound : shaped h s ≡ true → verdict ≡ granted → soundb h s ≡ false → refused Unsound ≡ answer
  pub early : Early verdict

-- what is answered otherwise than by refusals 1 to 8 was left by them
pub left_by : {h : Handle} {s : St} {X : Type 0} {refused : Refusal → X} {verdict : Outcome} {answer : X}
    → Answers h s refused verdict answer → ((r : Refusal) → number r < 9 → refused r ≡ answer → ⊥)
    → Shaped h s × (verdict ≡ granted) × SoundPool h s
left_by {h} {s} {refused = refused} {verdict = verdict} {answer = answer} answers later =
    by_bool (shaped h s) (λ e. asks e verdict refl answers.early) (λ e. absurd (later Shape (lit< tt) (answers.misshaped e)))
  where
    asks : shaped h s ≡ true → (y : Outcome) → verdict ≡ y → Early y → Shaped h s × (verdict ≡ granted) × SoundPool h s
    asks e (Ok tt) ok early =
        let shape = shaped-says h s (rw e tt) in
        by_bool (soundb h s)
        (λ sound. (shape, ok, decide_sound shape (rw sound tt)))
        (λ unsound. absurd (later Unsound (lit< tt) (answers.unsound e ok unsound)))
    asks e (Err r) q early = absurd (later r (omega arith) (answers.stopped e r q))
