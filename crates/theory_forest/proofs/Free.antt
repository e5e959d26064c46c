-- Theorems about the definitions of specs/Free.
use Rattle.std.specs.Prelude.{◌≡◌, ◌⊎◌, ◌≢◌, ℕ, zero, suc, ◌≤◌, ◌<◌}
use Rattle.std.proofs.Common.{sym, ap, ◌∙◌, subst, inl, inr, arith}
use Rattle.theory_forest.specs.Sound.{State, Codec, Used, level_in, parent, slot_in, IsTable, Hangs, Refers, Sound}
use Rattle.theory_forest.specs.Under.{Under, NotUnder, under_self, under-zero, under-or}
use Rattle.theory_forest.proofs.Under.{under-step, under_back, under_via}
use Rattle.theory_forest.proofs.Under.{hangs_refers, refers_table, refers_child, refers_over}
use Rattle.theory_forest.proofs.Hang.{root_not_hung}
use Rattle.theory_forest.specs.Frame.{Change}
use Rattle.theory_forest.specs.Keep.{SameSlot, same_slot_or, Fits}
use Rattle.theory_forest.proofs.Keep.{hangs_keep, refers_keep}
use Rattle.theory_forest.specs.Free.{Frees, Clears}

module _ {C : Codec} {s s' : State} {p i e v : ℕ} (S : Sound C s) (frees : Frees C s s' p i e v) (used : Used s p) (inside : i < 512)
    (r : Refers C s p i e) (fits : Fits C (s.ledger p) v) where
  p_ledger : s'.ledger p ≡ s.ledger p
  p_ledger = frees.ledger p (refers_over r)

  pub free_change : Change C s s' p i
  free_change = record {
    slots = λ j other. frees.words p j (refers_over r) (λ at. other at.1);
    others = λ k u other off j. frees.words k j (λ d. off e d r) (λ at. other at.0);
  }

  pub free_sound : Sound C s'
  free_sound = record {
    rooted = λ k x root. let at = S.rooted k x root in frees.ledger k (root_off k (rw at root)) ∙ at;
    hangs = λ k u. hang k (stays k u) (before k u) (S.hangs k (before k u));
    names = λ k j u t. name k j (stays k u) (before k u) t (same_slot_or k j p i);
    leaves = λ k j u l nt. leafy k j (stays k u) (before k u) l nt (same_slot_or k j p i);
    free = λ k j z. free k j z (under-or e k);
    wide = λ k j l. wide k j l (under-or e k);
  }
    where
      -- what is in use after was in use before, and is not under e
      stays : (k : ℕ) → Used s' k → NotUnder C s e k
      stays k u d under = omega (arith, u, frees.gone k d under)

      before : (k : ℕ) → Used s' k → Used s k
      before k u = rw (← frees.ledger k (stays k u)) u

      root_off : (k : ℕ) → C.Root k (s.ledger k) → NotUnder C s e k
      root_off k root zero under = root_not_hung root (subst (λ (c : ℕ). Hangs C s c) (sym (under-zero under)) r.hung)
      root_off k root (suc d) under = root_not_hung root (under_back S under).0

      parent_off : (k : ℕ) → Used s k → NotUnder C s e k → Hangs C s k → NotUnder C s e (parent C s k)
      parent_off k u off h d under = off (suc d) (under-step u h under)

      -- e's slot is the slot of no table that stays
      elsewhere : (k : ℕ) → Used s k → NotUnder C s e k → Hangs C s k → ¬ (SameSlot (parent C s k) (slot_in C s k) p i)
      elsewhere k u off h at =
          let here : C.child (s.word p i) ≡ k = rw (← at.0, ← at.1) (refers_child (hangs_refers u h)) in
          off 0 (rw (sym here ∙ refers_child r) (under_self r.used))

      hang : (k : ℕ) → NotUnder C s e k → Used s k → C.Root k (s.ledger k) ⊎ Hangs C s k → C.Root k (s'.ledger k) ⊎ Hangs C s' k
      hang k off u (inl root) = inl (rw (frees.ledger k off) root)
      hang k off u (inr h) =
          let over = parent_off k u off h in
          inr
          (hangs_keep s' (frees.ledger k off) (frees.ledger (parent C s k) over)
          (frees.words (parent C s k) (slot_in C s k) over (elsewhere k u off h)) h)

      child_off : (k j c : ℕ) → NotUnder C s e k → ¬ (SameSlot k j p i) → Refers C s k j c → NotUnder C s e c
      child_off k j c off ne rc zero under =
          let same : c ≡ e = under-zero under in
          ne (sym rc.from ∙ ap (parent C s) same ∙ r.from, sym rc.at ∙ ap (slot_in C s) same ∙ r.at)
      child_off k j c off ne rc (suc d) under = off d (rw (← rc.from) (under_back S under).1)

      name : (k j : ℕ) → NotUnder C s e k → Used s k → IsTable C s' k j → SameSlot k j p i ⊎ (¬ (SameSlot k j p i))
          → (c : ℕ) × Refers C s' k j c
      name k j off u t (inl at) =
          absurd (fits.plain (rw (frees.ledger k off, at.0, level_in) at t.0, rw (at.0, at.1, frees.here) at t.1))
      name k j off u t (inr ne) =
          let n = S.names k j u (rw (frees.ledger k off, level_in) at t.0, rw (frees.words k j off ne) at t.1) in (
            n.0,
            refers_keep s' (frees.ledger n.0 (child_off k j n.0 off ne n.1)) (frees.ledger k off) (frees.words k j off ne)
                n.1,
          )

      leafy : (k j : ℕ) → NotUnder C s e k → Used s k → j < 512 → ¬ (IsTable C s' k j) → SameSlot k j p i ⊎ (¬ (SameSlot k j p i))
          → C.Leaf (s'.ledger k) (s'.word k j)
      leafy k j off u l nt (inl at) = rw (at.0, at.1, p_ledger, frees.here) fits.good
      leafy k j off u l nt (inr ne) =
          rw (frees.ledger k off, frees.words k j off ne)
          (S.leaves k j u l (λ t. nt (rw (frees.ledger k off, level_in) t.0, rw (frees.words k j off ne) t.1)))

      free : (k j : ℕ) → s'.ledger k ≡ 0 → ((d : ℕ) × Under C s e d k) ⊎ NotUnder C s e k → s'.word k j ≡ 0
      free k j z (inl under) = frees.empty k under.0 under.1 j
      free k j z (inr off) =
          let z' : s.ledger k ≡ 0 = sym (frees.ledger k off) ∙ z in
          frees.words k j off (λ at. omega (arith, used, z', ap s.ledger at.0)) ∙ S.free k j z'

      wide : (k j : ℕ) → 512 ≤ j → ((d : ℕ) × Under C s e d k) ⊎ NotUnder C s e k → s'.word k j ≡ 0
      wide k j l (inl under) = frees.empty k under.0 under.1 j
      wide k j l (inr off) = frees.words k j off (λ at. omega (arith, inside, l, at.1)) ∙ S.wide k j l

module _ {C : Codec} {s : State} where
  -- under a table whose words are all 0 stands no other
  pub free_empty_alone : {e d j : ℕ} → Sound C s → ((k : ℕ) → s.word e k ≡ 0) → Under C s e d j → j ≡ e
  free_empty_alone {e} {d} {j} S zeros under = go d under
    where
      go : (d : ℕ) → Under C s e d j → j ≡ e
      go zero under = under-zero under
      go (suc d) under = let via = under_via S under in absurd (omega (arith, (refers_table via.refers).1, zeros via.slot))

  -- to clear a table whose words are all 0 is to free its subtree
  pub free_empty_frees : {s' : State} {p i e v : ℕ} → Sound C s → Used s e → ((k : ℕ) → s.word e k ≡ 0)
      → Clears s s' p i e v → Frees C s s' p i e v
  free_empty_frees {s'} {p} {i} {e} {v} S used zeros clears = record {
    here = clears.here;
    gone = λ j d under. rw (free_empty_alone S zeros under) clears.gone;
    empty = λ j d under k. rw (free_empty_alone S zeros under) (clears.empty k);
    words = λ j k off other. clears.words j k (not-e j off) other;
    ledger = λ j off. clears.ledger j (not-e j off);
  }
    where
      not-e : (j : ℕ) → NotUnder C s e j → j ≢ e
      not-e j off same = off 0 (rw same (under_self used))
