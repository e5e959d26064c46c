-- THE DEMANDS, each sentence a theorem about the definitions that the public contracts cite. Demand 1's tables are in `Slip`; demands 2 and
-- 3 are said in the words of theory_map's `Terms` and proved in theory_map's `Mapped`: what stands here beside them is what follows.
use Rattle.std.specs.Prelude.{◌≡◌, List, [], ◌∷◌, ◌≢◌, ◌↔◌, ℕ, ◌<◌, Err}
use Rattle.std.proofs.Common.{◌∙◌}
use Rattle.pool.specs.State.{St, tables, word_at, number_at}
use Rattle.pool.specs.Refuse.{number}
use Rattle.make.specs.Call.{make_call}
use Rattle.image.specs.Call.{image_call}
use Rattle.pool.specs.declared.Handle.{Handle}
use Rattle.pool.specs.declared.Refusal.{Refusal}
use Rattle.theory_sound.specs.Clauses.{InUse}
use Rattle.theory_sound.specs.Hanging.{Follows, OneSlot, Leads}
use Rattle.theory_sound.proofs.Hanging.{reach, one-path, refer_once, root_unreferred, free_unreferred}
use Rattle.checker.specs.Call.{check_call}
use Rattle.compact_spec.specs.Call.{compact_call}
use Rattle.look_up.specs.Call.{look_up_call}
use Rattle.theory_walk.specs.AsBefore.{walk_of, mapped, shown}
use Rattle.list.specs.Call.{list_call}
use Rattle.theory_map.specs.Terms.{MapArguments, Maps, Valid, InMapRegion, frame_for, RegionsApart, InTurn, none, next, InSpan}
use Rattle.theory_map.specs.Call.{call-leaves}
use Rattle.theory_map.specs.Mapped.{map_keeps_sound}
use Rattle.theory_map.proofs.Mapped.{map_region_walks, map_elsewhere_as_before}
use Rattle.theory_demands.specs.Slip.{MakeSlip, CheckSlip, LookUpSlip, ImageSlip, ListSlip}
use Rattle.theory_demands.specs.Told.{LowestGiven, exactly}
use Rattle.theory_demands.specs.Refused.{make_told, check_told, compact_told, look_up_told, image_told, list_told}

-- ---- DEMAND 1: "it refuses by number, in a fixed order": refused n exactly when n is the lowest number on the call's slip

-- (`map-told` and its like say more: what is carried, and that nothing on the slip means no refusal.)

pub make_refused_exactly : (h : Handle) (s : St) (n : ℕ)
    → ((r : Refusal) × ((make_call h s).answer ≡ Err r) × (number r ≡ n))
    ↔ ((r : Refusal) × LowestGiven (MakeSlip h s) r × (number r ≡ n))
make_refused_exactly h s n = exactly (make_told h s) (λ r q e. cc e) n

pub check_refused_exactly : (h : Handle) (s : St) (n : ℕ)
    → ((r : Refusal) × (check_call h s ≡ Err r) × (number r ≡ n))
    ↔ ((r : Refusal) × LowestGiven (CheckSlip h s) r × (number r ≡ n))
check_refused_exactly h s n = exactly (check_told h s) (λ r q e. cc e) n

pub compact_refused_exactly : (h : Handle) (s : St) (n : ℕ)
    → ((r : Refusal) × ((compact_call h s).answer ≡ Err r) × (number r ≡ n))
    ↔ ((r : Refusal) × LowestGiven (CheckSlip h s) r × (number r ≡ n))
compact_refused_exactly h s n = exactly (compact_told h s) (λ r q e. cc e) n

pub look_up_refused_exactly : (h : Handle) (s : St) (va n : ℕ)
    → ((r : Refusal) × (look_up_call h s va ≡ Err r) × (number r ≡ n))
    ↔ ((r : Refusal) × LowestGiven (LookUpSlip h s va) r × (number r ≡ n))
look_up_refused_exactly h s va n = exactly (look_up_told h s va) (λ r q e. cc e) n

pub image_refused_exactly : (h : Handle) (s : St) (k : ℕ) (page : List ℕ) (n : ℕ)
    → ((r : Refusal) × ((image_call h s k page).answer ≡ Err r) × (number r ≡ n))
    ↔ ((r : Refusal) × LowestGiven (ImageSlip h s k page) r × (number r ≡ n))
image_refused_exactly h s k page n = exactly (image_told h s k page) (λ r q e. cc e) n

pub list_refused_exactly : (h : Handle) (s : St) (start end : ℕ) (list : List ℕ) (n : ℕ)
    → ((r : Refusal) × ((list_call h s start end list).answer ≡ Err r) × (number r ≡ n))
    ↔ ((r : Refusal) × LowestGiven (ListSlip h s start end list) r × (number r ≡ n))
list_refused_exactly h s start end list n = exactly (list_told h s start end list) (λ r q e. cc e) n

-- ---- DEMAND 2, after an accepted map: "each table in use hangs from the root exactly once"

module _ {h : Handle} {c : MapArguments} {s s' : St} {n : ℕ} (maps : Maps h c s n s') where
  -- a path of slots leads from the root to each table in use;
  pub map_tables_hang : {j : ℕ} → InUse s' j → (slots : List ℕ) × Follows h s' 0 slots j
  map_tables_hang in_use = reach (call-leaves maps).shape (map_keeps_sound maps) in_use

  -- one path alone leads from the root to a table;
  pub map_tables_hang_once : {j : ℕ} {slots slots' : List ℕ} → Follows h s' 0 slots j → Follows h s' 0 slots' j → slots ≡ slots'
  map_tables_hang_once a b = one-path (call-leaves maps).shape (map_keeps_sound maps) a b

  -- one slot of the tables in use refers to a table in use other than the root, none to the root and none to a free table;
  pub map_one_slot : {j : ℕ} → j ≢ 0 → InUse s' j → OneSlot h s' j
  map_one_slot other in_use = refer_once (call-leaves maps).shape (map_keeps_sound maps) other in_use

  pub map_root_unreferred : {k i : ℕ} → ¬ (Leads h s' k i 0)
  map_root_unreferred leads = root_unreferred (call-leaves maps).shape (map_keeps_sound maps) leads

  pub map_free_unreferred : {k i j : ℕ} → number_at s' j ≡ 0 → ¬ (Leads h s' k i j)
  map_free_unreferred free leads = free_unreferred (call-leaves maps).shape (map_keeps_sound maps) free leads

  -- a table that is free afterwards, freed by this call or not, is all zero
  pub map-free-zero : {k i : ℕ} → k < tables s' → i < 512 → number_at s' k ≡ 0 → word_at s' k i ≡ 0
  map-free-zero {k} {i} below inside free = (map_keeps_sound maps).free k i below inside free

-- ---- DEMAND 3: the walk that both orders leave is "the one demand 2 gives"

module _ {h : Handle} {c d : MapArguments} {s s' : St} (apart : RegionsApart c d) where
  -- each page of either region walks to its frame and flags, every other address as before both
  pub both_first : InTurn h (c ∷ d ∷ []) s s' → Valid c → (va : ℕ) → InSpan h va → InMapRegion c va
      → shown (walk_of h s' va) ≡ mapped c.flags (frame_for c va)
  both_first (next maps (next later none)) valid va spans at =
      map_elsewhere_as_before later va spans (apart va at) ∙ map_region_walks maps va at valid

  pub both_second : InTurn h (c ∷ d ∷ []) s s' → Valid d → (va : ℕ) → InMapRegion d va
      → shown (walk_of h s' va) ≡ mapped d.flags (frame_for d va)
  both_second (next maps (next later none)) valid va at = map_region_walks later va at valid

  pub both_elsewhere : InTurn h (c ∷ d ∷ []) s s' → (va : ℕ) → InSpan h va → ¬ (InMapRegion c va) → ¬ (InMapRegion d va)
      → shown (walk_of h s' va) ≡ shown (walk_of h s va)
  both_elsewhere (next maps (next later none)) va spans first second =
      map_elsewhere_as_before later va spans second ∙ map_elsewhere_as_before maps va spans first
