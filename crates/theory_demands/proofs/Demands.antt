-- Theorems about the definitions of specs/Demands.
use Rattle.std.specs.Prelude.{◌≡◌, Bool, List, ◌↔◌, ℕ, Err}
use Rattle.std.proofs.Common.{ap, inl, inr, ⊎_elim}
use Rattle.pool.specs.State.{St}
use Rattle.pool.specs.Refuse.{number}
use Rattle.pool.specs.declared.Handle.{Handle}
use Rattle.pool.specs.declared.Refusal.{Refusal}
use Rattle.map_spec.specs.Call.{map_call}
use Rattle.modify.specs.Call.{Modifying, modify_call}
use Rattle.theory_demands.specs.Slip.{MapSlip, ModifySlip}
use Rattle.theory_demands.specs.Told.{LowestGiven, Told, exactly}
use Rattle.theory_demands.proofs.Refused.{map-told}
use Rattle.theory_demands.proofs.Modify.{modify_told}

pub map_refused_exactly : (h : Handle) (s : St) (start end frame flags constraints n : ℕ)
    → ((r : Refusal) × ((map_call h start end frame flags constraints s).answer ≡ Err r) × (number r ≡ n))
    ↔ ((r : Refusal) × LowestGiven (MapSlip h s start end frame flags constraints) r × (number r ≡ n))
map_refused_exactly h s start end frame flags constraints n = exactly (map-told h s start end frame flags constraints) (λ r q e. cc e) n

module _ (h : Handle) (s : St) (start end set clear : ℕ) (live : Bool) (list : List ℕ) where
  pub modify_refused_exactly : (n : ℕ)
      → ((r : Refusal) × ((modify_call h start end set clear live s list).answer ≡ Err r) × (number r ≡ n))
      ↔ ((r : Refusal) × LowestGiven (ModifySlip h s start end set clear live list) r × (number r ≡ n))
  modify_refused_exactly n = exactly answered (λ r q e. cc e) n
    where
      answered : Told (ModifySlip h s start end set clear live list) Err (modify_call h start end set clear live s list).answer
      answered =
          ⊎_elim (λ t. inl (t.0, ap (λ (x : Modifying). x.answer) t.1, t.2)) (λ t. inr t)
          (modify_told h s start end set clear live list)
