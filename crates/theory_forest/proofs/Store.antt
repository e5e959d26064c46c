-- Theorems about the definitions of specs/Store.
use Rattle.std.specs.Prelude.{◌⊎◌, ℕ, ◌<◌}
use Rattle.std.proofs.Common.{sym, ap, ◌∙◌, inl, inr, arith}
use Rattle.theory_forest.specs.Sound.{State, Codec, Used, level_in, parent, slot_in, IsTable, Hangs, Refers, Sound}
use Rattle.theory_forest.specs.Frame.{Change}
use Rattle.theory_forest.specs.Keep.{SameSlot, same_slot_or, Fits}
use Rattle.theory_forest.proofs.Keep.{hangs_elsewhere, hangs_keep, refers_keep}
use Rattle.theory_forest.specs.Store.{Stored}

module _ {C : Codec} {s s' : State} {p i v : ℕ} (S : Sound C s) (stored : Stored s s' p i v) (used : Used s p) (inside : i < 512)
    (old : ¬ (IsTable C s p i)) (fits : Fits C (s.ledger p) v) where
  pub store_change : Change C s s' p i
  store_change =
      record {
        slots = λ j other. stored.words p j (λ e. other e.1);
        others = λ k used' other off j. stored.words k j (λ e. other e.0);
      }

  pub store_sound : Sound C s'
  store_sound = record {
    rooted = λ k x root. stored.ledger k ∙ S.rooted k x root;
    hangs = λ k u. hang k (before k u) (S.hangs k (before k u));
    names = λ k j u t. name k j (before k u) t (same_slot_or k j p i);
    leaves = λ k j u l nt. leafy k j (before k u) l nt (same_slot_or k j p i);
    free =
        λ k j z. let z' = sym (stored.ledger k) ∙ z in
        stored.words k j (λ e. omega (arith, used, z', ap s.ledger e.0)) ∙ S.free k j z';
    wide = λ k j l. stored.words k j (λ e. omega (arith, inside, l, e.1)) ∙ S.wide k j l;
  }
    where
      before : (k : ℕ) → Used s' k → Used s k
      before k u = rw (← stored.ledger k) u

      hang : (k : ℕ) → Used s k → C.Root k (s.ledger k) ⊎ Hangs C s k → C.Root k (s'.ledger k) ⊎ Hangs C s' k
      hang k u (inl root) = inl (rw (stored.ledger k) root)
      hang k u (inr h) =
          inr
          (hangs_keep s' (stored.ledger k) (stored.ledger (parent C s k))
          (stored.words (parent C s k) (slot_in C s k) (hangs_elsewhere old u h)) h)

      name : (k j : ℕ) → Used s k → IsTable C s' k j → SameSlot k j p i ⊎ (¬ (SameSlot k j p i)) → (c : ℕ) × Refers C s' k j c
      name k j u t (inl e) = absurd (fits.plain (rw (← e.0, ← stored.ledger k) t.0, rw (← stored.here, ← e.0, ← e.1) t.1))
      name k j u t (inr ne) =
          let n = S.names k j u (rw (stored.ledger k, level_in) at t.0, rw (stored.words k j ne) at t.1) in
          (n.0, refers_keep s' (stored.ledger n.0) (stored.ledger k) (stored.words k j ne) n.1)

      leafy : (k j : ℕ) → Used s k → j < 512 → ¬ (IsTable C s' k j) → SameSlot k j p i ⊎ (¬ (SameSlot k j p i))
          → C.Leaf (s'.ledger k) (s'.word k j)
      leafy k j u l nt (inl e) = rw (stored.ledger k, e.0, e.1, stored.here) fits.good
      leafy k j u l nt (inr ne) =
          rw (stored.ledger k, stored.words k j ne)
          (S.leaves k j u l (λ t. nt (rw (stored.ledger k, level_in) t.0, rw (stored.words k j ne) t.1)))
