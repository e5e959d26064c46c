-- Demand 1: "a refused call changes no lent word", and no second answer meets a contract. Leans on the laws of the calls.
use Rattle.std.proofs.Math.Path.{◌≡◌, refl, ap}
use Rattle.std.proofs.Common.{sym, ◌∙◌}
use Rattle.std.specs.Prelude.{true, List, ℕ, ◌*◌, ◌-◌, Err, Ok}
use Rattle.std.proofs.Math.Logic.{⊎_elim}
use Rattle.std.proofs.Math.ListN.{length}
use Rattle.laws.specs.Test.{by_bool, eq_or, le_or}
use Rattle.region.specs.Region.{rounded}
use Rattle.pool.specs.State.{St, tables}
use Rattle.pool.specs.Number.{free}
use Rattle.pool.specs.Refuse.{shaped, Out, out, Counted, Outcome}
use Rattle.pool.specs.Sound.{soundb}
use Rattle.make.specs.Call.{make_call, make_refused, make_accepted}
use Rattle.image.specs.Call.{Imaged, imaged, image_call, image_misshaped, image_no_table, image_short, image_written}
use Rattle.pool.specs.declared.Handle.{Handle}
use Rattle.pool.specs.declared.Refusal.{Refusal}
use Rattle.compact_spec.specs.Call.{compact_call, call_misshaped as compact-misshaped, call_unsound as compact-unsound, call-compacted}
use Rattle.list_lines.specs.Lines.{lines_of}
use Rattle.list.specs.Call.{Listing, listing, verify_ends, list_lines, list_call, list_misshaped, list_region, list_unsound, list_sound_lem}
use Rattle.list.specs.Call.{list_short, list_written, Listed}
use Rattle.map_count_spec.specs.Needed.{needed}
use Rattle.map_rules.specs.declared.Map.{Map}
use Rattle.modify.specs.Call.{ModifyAnswer, Modifying, modifying}
use Rattle.map_verify.specs.Verify.{asked_map, verify_map}
use Rattle.map_spec.specs.Call.{put_down, map_sound, map_call, sound_not}
use Rattle.map_spec.specs.Call.{sound_full, sound_mapped, call_misshaped, call-refused, call-asked}
use Rattle.theory_demands.specs.Decided.{accepted-not}

-- ---- NO SECOND ANSWER: what meets a contract is what its definition gives, answer and all that was lent together

pub only_one : {A : Type 0} {x y given : A} → x ≡ given → y ≡ given → x ≡ y
only_one e q = e ∙ sym q

-- part by part: answer and state of make, map and compact; answer and page; answer and list; answer, state and list of modify
pub one_state : {B : Type 0} {r q : B} {t u : St} {x : Out B} → out r t ≡ x → out q u ≡ x → (r ≡ q) × (t ≡ u)
one_state {B} e f = (ap (λ (y : Out B). y.answer) (only_one e f), ap (λ (y : Out B). y.state) (only_one e f))

pub one_page : {r q : Outcome} {p l : List ℕ} {x : Imaged} → imaged r p ≡ x → imaged q l ≡ x → (r ≡ q) × (p ≡ l)
one_page e f = (ap (λ (y : Imaged). y.answer) (only_one e f), ap (λ (y : Imaged). y.page) (only_one e f))

pub one_list : {r q : Listed} {k l : List ℕ} {x : Listing} → listing r k ≡ x → listing q l ≡ x → (r ≡ q) × (k ≡ l)
one_list e f = (ap (λ (y : Listing). y.answer) (only_one e f), ap (λ (y : Listing). y.list) (only_one e f))

pub one_edit : {r q : ModifyAnswer} {t u : St} {k l : List ℕ} {x : Modifying} → modifying r t k ≡ x → modifying q u l ≡ x
    → (r ≡ q) × (t ≡ u) × (k ≡ l)
one_edit e f = (
  ap (λ (y : Modifying). y.answer) (only_one e f),
  ap (λ (y : Modifying). y.state) (only_one e f),
  ap (λ (y : Modifying). y.list)
      (only_one e f),
)

-- ---- A REFUSED CALL LEAVES WHAT WAS LENT

-- an outcome known by its answer and its state, and what its answer is
stays : {B : Type 0} {x : Out B} {s : St} {a b : B} → out a s ≡ x → x.answer ≡ b → x ≡ out b s
stays {B} {x} {s} e q = sym e ∙ ap (λ (a : B). out a s) (ap (λ (y : Out B). y.answer) e ∙ q)

module _ (h : Handle) (s : St) {r : Refusal} where
  pub make_leaves : (make_call h s).answer ≡ Err r → make_call h s ≡ out (Err r) s
  make_leaves q = by_bool (shaped h s)
      (λ fits. absurd (accepted-not r (ap (λ (x : Out Outcome). x.answer) (make_accepted h s fits) ∙ q)))
      (λ fails. stays (make_refused h s fails) q)

  pub compact_leaves : (compact_call h s).answer ≡ Err r → compact_call h s ≡ out (Err r) s
  compact_leaves q = by_bool (shaped h s)
      (λ fits. by_bool (soundb h s)
      (λ is. absurd
      (let z = ap (λ (x : Out Counted). x.answer) (call-compacted h s fits is refl refl) ∙ q in cc))
      (λ un. stays (compact-unsound h s fits un) q))
      (λ fails. stays (compact-misshaped h s fails) q)

module _ (h : Handle) (s : St) (k : ℕ) (page : List ℕ) {r : Refusal} where
  page_stays : {x : Imaged} {a : Outcome} → imaged a page ≡ x → x.answer ≡ Err r → x ≡ imaged (Err r) page
  page_stays e q = sym e ∙ ap (λ (a : Outcome). imaged a page) (ap (λ (y : Imaged). y.answer) e ∙ q)

  pub image_leaves : (image_call h s k page).answer ≡ Err r → image_call h s k page ≡ imaged (Err r) page
  image_leaves q = by_bool (shaped h s)
      (λ fits. ⊎_elim
      (λ past. page_stays (image_no_table h s k page fits past) q)
      (λ inside. ⊎_elim
      (λ whole. absurd (accepted-not r (ap (λ (x : Imaged). x.answer) (image_written h s k page fits inside whole) ∙ q)))
      (λ n. page_stays (image_short h s k page fits inside n) q)
      (eq_or (length page) 4096))
      (le_or (tables s) k))
      (λ fails. page_stays (image_misshaped h s k page fails) q)

module _ (h : Handle) (s : St) (start end : ℕ) (list : List ℕ) {r : Refusal}
    (q : (list_call h s start end list).answer ≡ Err r) where
  list_stays : {a : Listed} → listing a list ≡ list_call h s start end list → list_call h s start end list ≡ listing (Err r) list
  list_stays e = sym e ∙ ap (λ (a : Listed). listing a list) (ap (λ (y : Listing). y.answer) e ∙ q)

  list_asked : shaped h s ≡ true → (x : Outcome) → x ≡ verify_ends h start end
      → list_call h s start end list ≡ listing (Err r) list
  unfolding lines_of
  list_asked fits (Err x) e = list_stays (list_region h s start end list fits e x refl)
  list_asked fits (Ok tt) e = by_bool (soundb h s)
      (λ is.
      let lines = lines_of h s (rounded start end) in
      let whole : list_lines lines list ≡ list_call h s start end list = list_sound_lem h s start end list fits e refl is refl in
      ⊎_elim
      (λ room. absurd
      (let z = ap (λ (y : Listing). y.answer) (list_written lines list room ∙ whole) ∙ q in cc))
      (λ short. list_stays (list_short lines list short ∙ whole))
      (le_or (4 * length lines) (length list)))
      (λ un. list_stays (list_unsound h s start end list fits e refl un))

  pub list_leaves : list_call h s start end list ≡ listing (Err r) list
  list_leaves =
      by_bool (shaped h s) (λ fits. list_asked fits (verify_ends h start end) refl)
      (λ fails. list_stays (list_misshaped h s start end list fails))

module _ (h : Handle) (s : St) (start end frame flags constraints : ℕ) {r : Refusal}
    (q : (map_call h start end frame flags constraints s).answer ≡ Err r) where
  abbrev m : Map
  m = asked_map start end frame flags constraints

  map_asked_lem : shaped h s ≡ true → (x : Outcome) → x ≡ verify_map h end m
      → map_call h start end frame flags constraints s ≡ out (Err r) s
  unfolding put_down
  map_asked_lem fits (Err x) e = stays (call-refused h start end frame flags constraints s fits e x refl) q
  map_asked_lem fits (Ok tt) e =
      let whole : map_sound h m s ≡ map_call h start end frame flags constraints s =
      call-asked h start end frame flags constraints s fits e refl in
      by_bool (soundb h s)
      (λ is. ⊎_elim
      (λ room. absurd
      (let z = ap (λ (y : Out Counted). y.answer) (sound_mapped h m s is refl refl room ∙ whole) ∙ q in cc))
      (λ short. stays (sound_full h m s is refl refl short ∙ whole) q)
      (le_or (needed (3 - h.level) h s 0 m) (free s.ledger)))
      (λ un. stays (sound_not h m s un ∙ whole) q)

  pub map-leaves : map_call h start end frame flags constraints s ≡ out (Err r) s
  map-leaves =
      by_bool (shaped h s) (λ fits. map_asked_lem fits (verify_map h end m) refl)
      (λ fails. stays (call_misshaped h start end frame flags constraints s fails) q)
