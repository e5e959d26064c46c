-- The calls with numbers alone: each call's answer and lent state for every input. A call is a definition, the law of its code, and what a
-- range above 1 gives.
use Rattle.std.specs.Prelude.{◌≡◌, Bool, not, List, ℕ, ◌<◌, eqb}
use Rattle.std.proofs.Math.Path.{ap}
use Rattle.std.proofs.Common.{◌∙◌, sym}
use Rattle.pool.specs.State.{St}
use Rattle.pool.specs.Refuse.{Out, out}
use Rattle.make.specs.Call.{make_call, make_refused}
use Rattle.image.specs.Call.{image_call, image_misshaped, Imaged, imaged}
use Rattle.pool.specs.declared.Handle.{Handle}
use Rattle.pool.specs.declared.Refusal.TheVariants.{Shape}
use Rattle.checker.specs.Call.{check_call, check_misshaped}
use Rattle.look_up.specs.Call.{LookUpAnswer, look_up_call, look_misshaped}
use Rattle.list.specs.Call.{list_call, list_misshaped, Listing, listing}
use Rattle.map_spec.specs.Call as map
use Rattle.compact_spec.specs.Call as compact
use Rattle.modify.specs.Call as modify
use Rattle.pool_handle.specs.Handle.{handle_of, no_range}
use Rattle.ptb_answer.specs.Answer.{Slip, told_refusal, told_by, told, told_counted, told_looked, told_listed, told_modified}
use Rattle.pool.specs.Refuse.{Counted}
use Rattle.list.specs.Call.{Listed}
use Rattle.pool.specs.Refuse.{Outcome}

-- ---- make

-- the answer told, and the state that it leaves
abbrev pub told_out : List ℕ → Out Outcome → Out Slip
told_out old made = out (told made.answer old) made.state

unfoldable pub ptb_make : ℕ → ℕ → ℕ → St → List ℕ → Out Slip
ptb_make base level range s old =
    told_out old (make_call (handle_of base level range) s)

module _ (base level range : ℕ) (s : St) (old : List ℕ) where
  pub ptb_make_told : {h : Handle} {o : Outcome} {s' : St} {x : Slip} → h ≡ handle_of base level range → out o s' ≡ make_call h s
      → x ≡ told o old
      → out x s' ≡ ptb_make base level range s old
  unfolding ptb_make
  ptb_make_told {s' = s'} e m t = ap (λ (y : Slip). out y s') t ∙ ap (told_out old) (m ∙ ap (λ (g : Handle). make_call g s) e)

  pub make_no_range : 1 < range → ptb_make base level range s old ≡ out (told_refusal Shape old) s
  unfolding ptb_make told told_by
  make_no_range above = ap (told_out old) (sym (make_refused (handle_of base level range) s (no_range base level range s above)))

-- ---- check

unfoldable pub ptb_check : ℕ → ℕ → ℕ → St → List ℕ → Slip
ptb_check base level range s old =
    told (check_call (handle_of base level range) s) old

module _ (base level range : ℕ) (s : St) (old : List ℕ) where
  pub ptb_check_told : {h : Handle} {o : Outcome} {x : Slip} → h ≡ handle_of base level range → o ≡ check_call h s → x ≡ told o old
      → x ≡ ptb_check base level range s old
  unfolding ptb_check
  ptb_check_told e m t = t ∙ ap (λ (o : Outcome). told o old) (m ∙ ap (λ (g : Handle). check_call g s) e)

  pub check_no_range : 1 < range → ptb_check base level range s old ≡ told_refusal Shape old
  unfolding ptb_check told told_by
  check_no_range above =
      ap (λ (o : Outcome). told o old) (sym (check_misshaped (handle_of base level range) s (no_range base level range s above)))

-- ---- look up

unfoldable pub ptb_look_up : ℕ → ℕ → ℕ → St → ℕ → List ℕ → Slip
ptb_look_up base level range s va old =
    told_looked (look_up_call (handle_of base level range) s va) old

module _ (base level range : ℕ) (s : St) (va : ℕ) (old : List ℕ) where
  pub ptb_look_up_told : {h : Handle} {o : LookUpAnswer} {x : Slip} → h ≡ handle_of base level range → o ≡ look_up_call h s va
      → x ≡ told_looked o old
      → x ≡ ptb_look_up base level range s va old
  unfolding ptb_look_up
  ptb_look_up_told e m t = t ∙ ap (λ (o : LookUpAnswer). told_looked o old) (m ∙ ap (λ (g : Handle). look_up_call g s va) e)

  pub look_up_no_range : 1 < range → ptb_look_up base level range s va old ≡ told_refusal Shape old
  unfolding ptb_look_up told_looked told_refusal
  look_up_no_range above =
      ap (λ (o : LookUpAnswer). told_looked o old) (sym (look_misshaped (handle_of base level range) s va (no_range base level range s above)))

-- ---- list

-- an answer and the buffer that it leaves
pub record Filled : Type 0 where
  pub answer : Slip
  pub buffer : List ℕ

abbrev pub filled : Slip → List ℕ → Filled
filled a b = record { answer = a; buffer = b }

-- the answer told, and the lines that it leaves
abbrev pub told_listing : List ℕ → Listing → Filled
told_listing old l = filled (told_listed l.answer old) l.list

unfoldable pub ptb_list : ℕ → ℕ → ℕ → St → ℕ → ℕ → List ℕ → List ℕ → Filled
ptb_list base level range s start end lines old =
    told_listing old (list_call (handle_of base level range) s start end lines)

module _ (base level range : ℕ) (s : St) (start end : ℕ) (lines old : List ℕ) where
  pub ptb_list_told : {h : Handle} {o : Listed} {lines' : List ℕ} {x : Slip} → h ≡ handle_of base level range
      → listing o lines' ≡ list_call h s start end lines → x ≡ told_listed o old
      → filled x lines' ≡ ptb_list base level range s start end lines old
  unfolding ptb_list
  ptb_list_told {lines' = lines'} e m t =
      ap (λ (y : Slip). filled y lines') t ∙ ap (told_listing old) (m ∙ ap (λ (g : Handle). list_call g s start end lines) e)

  pub list_no_range : 1 < range → ptb_list base level range s start end lines old ≡ filled (told_refusal Shape old) lines
  unfolding ptb_list told_listed told_by
  list_no_range above =
      ap (told_listing old) (sym (list_misshaped (handle_of base level range) s start end lines (no_range base level range s above)))

-- ---- map

-- the count told, and the state that it leaves
abbrev pub told_count : List ℕ → Out Counted → Out Slip
told_count old mapped = out (told_counted mapped.answer old) mapped.state

unfoldable pub ptb_map : ℕ → ℕ → ℕ → ℕ → ℕ → ℕ → ℕ → ℕ → St → List ℕ → Out Slip
ptb_map base level range start end frame flags constraints s old =
    told_count old (map.map_call (handle_of base level range) start end frame flags constraints s)

module _ (base level range start end frame flags constraints : ℕ) (s : St) (old : List ℕ) where
  pub ptb_map_told : {h : Handle} {o : Counted} {s' : St} {x : Slip} → h ≡ handle_of base level range
      → out o s' ≡ map.map_call h start end frame flags constraints s → x ≡ told_counted o old
      → out x s' ≡ ptb_map base level range start end frame flags constraints s old
  unfolding ptb_map
  ptb_map_told {s' = s'} e m t =
      ap (λ (y : Slip). out y s') t ∙ ap (told_count old) (m ∙ ap (λ (g : Handle). map.map_call g start end frame flags constraints s) e)

  pub map_no_range : 1 < range → ptb_map base level range start end frame flags constraints s old ≡ out (told_refusal Shape old) s
  unfolding ptb_map told_counted told_by
  map_no_range above =
      ap (told_count old)
      (sym (map.call_misshaped (handle_of base level range) start end frame flags constraints s (no_range base level range s above)))

-- ---- compact

unfoldable pub ptb_compact : ℕ → ℕ → ℕ → St → List ℕ → Out Slip
ptb_compact base level range s old =
    told_count old (compact.compact_call (handle_of base level range) s)

module _ (base level range : ℕ) (s : St) (old : List ℕ) where
  pub ptb_compact_told : {h : Handle} {o : Counted} {s' : St} {x : Slip} → h ≡ handle_of base level range
      → out o s' ≡ compact.compact_call h s
      → x ≡ told_counted o old
      → out x s' ≡ ptb_compact base level range s old
  unfolding ptb_compact
  ptb_compact_told {s' = s'} e m t = ap (λ (y : Slip). out y s') t
      ∙ ap (told_count old) (m ∙ ap (λ (g : Handle). compact.compact_call g s) e)

  pub compact_no_range : 1 < range → ptb_compact base level range s old ≡ out (told_refusal Shape old) s
  unfolding ptb_compact told_counted told_by
  compact_no_range above =
      ap (told_count old) (sym (compact.call_misshaped (handle_of base level range) s (no_range base level range s above)))

-- ---- modify

-- an answer, the state and the list that it leaves
pub record Changed : Type 0 where
  pub answer : Slip
  pub state : St
  pub list : List ℕ

abbrev pub changed : Slip → St → List ℕ → Changed
changed a s l = record { answer = a; state = s; list = l }

-- live is true for any value but 0
abbrev pub live_of : ℕ → Bool
live_of live = not (eqb live 0)

-- the answer told, and what it leaves
abbrev pub told_modify : List ℕ → modify.Modifying → Changed
told_modify old m = changed (told_modified m.answer old) m.state m.list

unfoldable pub ptb_modify : ℕ → ℕ → ℕ → ℕ → ℕ → ℕ → ℕ → ℕ → St → List ℕ → List ℕ → Changed
ptb_modify base level range start end set clear live s list old =
    told_modify old (modify.modify_call (handle_of base level range) start end set clear (live_of live) s list)

module _ (base level range start end set clear live : ℕ) (s : St) (list old : List ℕ) where
  pub ptb_modify_told : {h : Handle} {o : modify.ModifyAnswer} {s' : St} {list' : List ℕ} {x : Slip} → h ≡ handle_of base level range
      → modify.modifying o s' list' ≡ modify.modify_call h start end set clear (live_of live) s list → x ≡ told_modified o old
      → changed x s' list' ≡ ptb_modify base level range start end set clear live s list old
  unfolding ptb_modify
  ptb_modify_told {s' = s'} {list' = list'} e m t =
      ap (λ (y : Slip). changed y s' list') t
      ∙ ap (told_modify old) (m ∙ ap (λ (g : Handle). modify.modify_call g start end set clear (live_of live) s list) e)

  pub modify_no_range : 1 < range → ptb_modify base level range start end set clear live s list old
      ≡ changed (told_refusal Shape old) s list
  unfolding ptb_modify told_modified told_by
  modify_no_range above =
      ap (told_modify old)
      (sym
      (modify.call_misshaped (handle_of base level range) start end set clear (live_of live) s list
      (no_range base level range s above)))

-- ---- page image

-- the answer told, and the page that it leaves
abbrev pub told_image : List ℕ → Imaged → Filled
told_image old image = filled (told image.answer old) image.page

unfoldable pub ptb_image : ℕ → ℕ → ℕ → St → ℕ → List ℕ → List ℕ → Filled
ptb_image base level range s table page old =
    told_image old (image_call (handle_of base level range) s table page)

module _ (base level range : ℕ) (s : St) (table : ℕ) (page old : List ℕ) where
  pub ptb_image_told : {h : Handle} {o : Outcome} {page' : List ℕ} {x : Slip} → h ≡ handle_of base level range
      → imaged o page' ≡ image_call h s table page → x ≡ told o old
      → filled x page' ≡ ptb_image base level range s table page old
  unfolding ptb_image
  ptb_image_told {page' = page'} e m t =
      ap (λ (y : Slip). filled y page') t ∙ ap (told_image old) (m ∙ ap (λ (g : Handle). image_call g s table page) e)

  pub image_no_range : 1 < range → ptb_image base level range s table page old ≡ filled (told_refusal Shape old) page
  unfolding ptb_image told told_by
  image_no_range above =
      ap (told_image old) (sym (image_misshaped (handle_of base level range) s table page (no_range base level range s above)))
