-- What document 01 says of make, look up, list, compact and modify, gathered: each call's theorems as one. Map has `Demands`.
use Rattle.std.specs.Prelude.{◌≡◌, true, false, List, ◌++◌, ◌≢◌, ℕ, ◌+◌, ◌%◌, ◌≤◌, ◌<◌, length, drop, Ok}
use Rattle.std.proofs.Common.{sym, ap, subst}
use Rattle.pool.specs.State.{St, word_at}
use Rattle.pool.specs.Number.{used}
use Rattle.pool.specs.Refuse.{shaped, Out, out, Outcome}
use Rattle.make.specs.Call.{make_call, make_accepted}
use Rattle.pool.specs.declared.Handle.{Handle}
use Rattle.theory_sound.specs.Clauses.{InUse, SoundPool}
use Rattle.theory_sound.proofs.Made.{made_sound}
use Rattle.look_up.specs.Call.{answer, spanned, look_up_call, look_walks}
use Rattle.theory_walk.specs.AsBefore.{walk_of, mapped, hole, shown}
use Rattle.compact_spec.specs.Call.{compacted, compact_call}
use Rattle.theory_compact.specs.Compacted.{compact_answers, compact_keeps_sound, compact_walks_as_before, compact_leaves_no_empty_table}
use Rattle.theory_compact.specs.Compacted.{compact_again_answers, compact_never_more_tables}
use Rattle.theory_map.specs.Terms.{ShapedSound, InSpan}
use Rattle.theory_modify.specs.Terms.{ModifyArguments, Modifies, InModifyRegion, flags_after, made_by_modify, numbers_of}
use Rattle.theory_modify.proofs.Modified.{modify_keeps_sound, modify_valid_pages, modify_cleared_pages, modify_holes_stay}
use Rattle.theory_modify.proofs.Modified.{modify_elsewhere_as_before, modify_tables_in_use, modify_list_untouched, modify_list_exactly}
use Rattle.theory_demands.specs.Decided.{well_shaped}

-- ---- make: "zeroes all words and the ledger, then enters the root"; the pool is sound

pub make_leaves_sound : (h : Handle) (s : St) → shaped h s ≡ true → SoundPool h (make_call h s).state
make_leaves_sound h s fits =
    subst (SoundPool h) (ap (λ (x : Out Outcome). x.state) (make_accepted h s fits)) (made_sound h s (well_shaped h s fits))

-- ---- look up: the Arm walk's answer, in any pool (list's lines against the walk: `list_walks` and `line_alike` in theory_walk's `Listed`)

pub look_up_is_the_walk : (h : Handle) (s : St) (va : ℕ) → shaped h s ≡ true → spanned h.range h.level va ≡ true
    → look_up_call h s va ≡ answer (walk_of h s va)
look_up_is_the_walk h s va fits spans = sym (look_walks h s va fits spans)

-- ---- compact, in a pool that refusals 1 and 8 leave

pub record Compacts (h : Handle) (s : St) : Type 0 where
  -- accepted, and it answers the tables in use afterwards;
  pub answers : compact_call h s ≡ out (Ok (used (compacted h s).ledger)) (compacted h s)
  pub sound : SoundPool h (compacted h s)
  -- every address walks to the same frame and flags;
  pub walks : (va : ℕ) → shown (walk_of h (compacted h s) va) ≡ shown (walk_of h s va)
  -- no table but the root is all zero afterwards;
  pub none_empty : (k : ℕ) → k ≢ 0 → InUse (compacted h s) k → ¬ ((i : ℕ) → i < 512 → word_at (compacted h s) k i ≡ 0)
  -- compacting again changes nothing;
  pub again : compact_call h (compact_call h s).state ≡ compact_call h s
  -- the count never rises
  pub fewer : used (compacted h s).ledger ≤ used s.ledger

pub compact_promises : (h : Handle) (s : St) → ShapedSound h s → Compacts h s
compact_promises h s law = record {
  answers = compact_answers law.shape law.pool;
  sound = compact_keeps_sound law.shape law.pool;
  walks = compact_walks_as_before law.shape law.pool;
  none_empty = compact_leaves_no_empty_table law.shape law.pool;
  again = compact_again_answers law.shape law.pool;
  fewer = compact_never_more_tables law.shape law.pool;
}

-- ---- an accepted modify

pub record Modified (h : Handle) (c : ModifyArguments) (s : St) (list : List ℕ) (n k : ℕ) (s' : St) (list' : List ℕ) : Type 0 where
  pub sound : SoundPool h s'
  -- a page of the region that was mapped: the same frame, with flags (flags or set) without clear; a hole with these where that clears
  -- VALID;
  pub valid : (va f p : ℕ) → InModifyRegion c va → shown (walk_of h s va) ≡ mapped f p → flags_after c f % 2 ≡ 1
      → shown (walk_of h s' va) ≡ mapped (flags_after c f) p
  pub cleared : (va f p : ℕ) → InModifyRegion c va → shown (walk_of h s va) ≡ mapped f p → flags_after c f % 2 ≡ 0
      → shown (walk_of h s' va) ≡ hole (flags_after c f)
  -- holes and every other address as before;
  pub holes : (va f : ℕ) → InModifyRegion c va → shown (walk_of h s va) ≡ hole f → shown (walk_of h s' va) ≡ hole f
  pub elsewhere : (va : ℕ) → InSpan h va → ¬ (InModifyRegion c va) → shown (walk_of h s' va) ≡ shown (walk_of h s va)
  -- the answer: the tables in use afterwards, those before and those made;
  pub tables : (n ≡ used s'.ledger) × (used s'.ledger ≡ used s.ledger + made_by_modify h c s)
  -- the list: untouched, or, live, the numbers of the entries that changed, then what it held
  pub untouched : c.live ≡ false → list' ≡ list
  pub listed : c.live ≡ true → (k ≡ length (numbers_of h c s)) × (k ≤ length list) × (list' ≡ numbers_of h c s ++ drop k list)

pub modify_promises : {h : Handle} {c : ModifyArguments} {s s' : St} {list list' : List ℕ} {n k : ℕ} → Modifies h c s list n k s' list'
    → Modified h c s list n k s' list'
modify_promises call = record {
  sound = modify_keeps_sound call;
  valid = λ va f p at was v. modify_valid_pages call va at was v;
  cleared = λ va f p at was v. modify_cleared_pages call va at was v;
  holes = λ va f at was. modify_holes_stay call va at was;
  elsewhere = λ va at other. modify_elsewhere_as_before call va at other;
  tables = modify_tables_in_use call;
  untouched = modify_list_untouched call;
  listed = modify_list_exactly call;
}
