-- Document 01, "What the paperwork has to pin down", "Shut out": programs that no contract admits. Whatever meets map's equation refuses
-- some calls and accepts others, gives more than one answer, and changes the pool. By the starred cases A and B.
use Rattle.std.specs.Prelude.{◌≡◌, ◌≢◌, ℕ, Err, Ok}
use Rattle.std.proofs.Common.{sym, ap, ◌∙◌, arith}
use Rattle.pool.specs.State.{St, word_at}
use Rattle.pool.specs.Number.{root_number}
use Rattle.pool.specs.Refuse.{Out, out, Counted}
use Rattle.pool.specs.declared.Handle.{Handle}
use Rattle.pool.specs.declared.Refusal.{Refusal}
use Rattle.pool.specs.declared.Refusal.TheVariants.{WantOfRoom}
use Rattle.theory_map.specs.Terms.{MapArguments, map_answer}
use Rattle.theory_case_rows.specs.Bench.{handle, fresh_row, word, pool_a, pool_b, RowHolds, A, B, quick}

-- case A's call, and case B's
abbrev call_a : MapArguments
call_a = record { start = 0; end = 0x4000_0000; frame = 0x4000_0000; flags = 0x401; constraints = 0 }

abbrev call_b : MapArguments
call_b = record { start = 0x1000; end = 0x3000; frame = 0x9000; flags = 0x401; constraints = 0 }

case_A : map_answer (handle 1) call_a (fresh_row 1 8) ≡ out (Ok 1) pool_a
unfolding RowHolds A
case_A = quick.0

case_B : map_answer (handle 1) call_b (fresh_row 1 8) ≡ out (Ok 3) (pool_b 8)
unfolding RowHolds B
case_B = quick.1

case_B_2 : map_answer (handle 1) call_b (fresh_row 1 2) ≡ out (Err (WantOfRoom 2 1)) (fresh_row 1 2)
unfolding RowHolds B
case_B_2 = quick.3

-- the first word of the root tells the pool of A from a fresh one
differs : pool_a ≢ fresh_row 1 8
unfolding pool_a word fresh_row root_number
differs e = let z : ◌≡◌ {A = ℕ} 0x4000_0401 0 = ap (λ (s : St). word_at s 0 0) e in omega arith

module _ (f : Handle → MapArguments → St → Out Counted) (meets : (h : Handle) (c : MapArguments) (s : St)
    → f h c s ≡ map_answer h c s) where
  answers : (h : Handle) (c : MapArguments) (s : St) {a : Counted} {t : St} → map_answer h c s ≡ out a t → (f h c s).answer ≡ a
  answers h c s e = ap (λ (x : Out Counted). x.answer) (meets h c s ∙ e)

  -- such a function does not refuse everything
  pub not_all_refused : ¬ ((h : Handle) (c : MapArguments) (s : St) → (r : Refusal) × ((f h c s).answer ≡ Err r))
  not_all_refused all =
      let r = all (handle 1) call_a (fresh_row 1 8) in
      let z : ◌≡◌ {A = Counted} (Ok 1) (Err r.0) = sym (answers (handle 1) call_a (fresh_row 1 8) case_A) ∙ r.1 in
      cc

  -- such a function does not accept everything
  pub not_all_accepted : ¬ ((h : Handle) (c : MapArguments) (s : St) → (n : ℕ) × ((f h c s).answer ≡ Ok n))
  not_all_accepted all =
      let n = all (handle 1) call_b (fresh_row 1 2) in
      let z : Err (WantOfRoom 2 1) ≡ Ok n.0 = sym (answers (handle 1) call_b (fresh_row 1 2) case_B_2) ∙ n.1 in
      cc

  -- such a function does not give one constant answer
  pub not_constant : (a : Counted) → ¬ ((h : Handle) (c : MapArguments) (s : St) → (f h c s).answer ≡ a)
  not_constant a all =
      let z : ◌≡◌ {A = Counted} (Ok 1) (Ok 3) =
      sym (answers (handle 1) call_a (fresh_row 1 8) case_A) ∙ all (handle 1) call_a (fresh_row 1 8)
      ∙ sym (all (handle 1) call_b (fresh_row 1 8))
      ∙ answers (handle 1) call_b (fresh_row 1 8) case_B in
      cc

  -- such a function does not leave every pool as it was
  pub not_idle : ¬ ((h : Handle) (c : MapArguments) (s : St) → (f h c s).state ≡ s)
  not_idle all =
      let e : pool_a ≡ fresh_row 1 8 =
      sym (ap (λ (x : Out Counted). x.state) (meets (handle 1) call_a (fresh_row 1 8) ∙ case_A)) ∙ all (handle 1) call_a (fresh_row 1 8) in
      differs e
