-- Theorems about the definitions of specs/Split.
use Rattle.std.specs.Prelude.{◌≡◌, ◌⊎◌, ◌≢◌, ℕ, ◌+◌, ◌≤◌, ◌<◌}
use Rattle.std.proofs.Common.{sym, ap, ◌∙◌, inl, inr, arith}
use Rattle.laws.specs.Test.{eq_or, le_or}
use Rattle.theory_forest.specs.Tree.{leaf, node, node_ext, tree_at_node}
use Rattle.theory_forest.specs.Sound.{State, Codec, Used, TableWord, level_in, parent, slot_in, IsTable, Hangs, Refers, Sound}
use Rattle.theory_forest.specs.Frame.{tree_of, Change}
use Rattle.theory_forest.specs.Keep.{SameSlot, same_slot_or, slot_leaf}
use Rattle.theory_forest.proofs.Keep.{hangs_elsewhere, hangs_keep, refers_keep}
use Rattle.theory_forest.specs.Split.{Splits, SplitFits}

module _ {C : Codec} {s s' : State} {p i f x : ℕ} {g : ℕ → ℕ} (S : Sound C s) (splits : Splits C s s' p i f x g)
    (fit : SplitFits C s p i f x g)
    (used : Used s p) (inside : i < 512) (old : ¬ (IsTable C s p i)) (fresh : s.ledger f ≡ 0) where
  -- a table that was in use is not the new one
  not_new : (k : ℕ) → Used s k → k ≢ f
  not_new k u e = omega (arith, u, fresh, ap s.ledger e)

  p_ledger : s'.ledger p ≡ s.ledger p
  p_ledger = splits.ledger p (not_new p used)

  -- table p is not at the lowest level
  high : level_in C s p < 3
  high = omega (arith, fit.level, C.level_le x)

  plain : (j : ℕ) → ¬ (TableWord (C.level x) (g j))
  plain j t = go (le_or 512 j)
    where
      go : (512 ≤ j) ⊎ (j < 512) → ⊥
      go (inl l) = omega (arith, t.1, fit.wide j l)
      go (inr l) = (fit.fits j l).plain t

  -- slot i of p refers to the new table
  pub new_refers : Refers C s' p i f
  new_refers = record { says = splits.linked; used = rw splits.number fit.used; from = from; at = at; hung = hung }
    where
      from : parent C s' f ≡ p
      from = rw (splits.number, parent) fit.over

      at : slot_in C s' f ≡ i
      at = rw (splits.number, slot_in) fit.slot

      hung : Hangs C s' f
      hung = record {
        well = rw (from, p_ledger, splits.number) fit.well;
        used = rw (from, p_ledger) used;
        below = rw (from, p_ledger, splits.number, level_in) fit.level;
        refers = rw (from, at) splits.linked;
      }

  pub split_change : Change C s s' p i
  split_change = record {
    slots = λ j other. splits.words p j (not_new p used) (λ e. other e.1);
    others = λ k u other off j. splits.words k j (not_new k u) (λ e. other e.0);
  }

  pub split_sound : Sound C s'
  split_sound = record {
    rooted =
        λ k y root. splits.ledger k (λ e. omega (arith, fresh, C.root_used k y root, ap s.ledger e, S.rooted k y root))
        ∙ S.rooted k y root;
    hangs = λ k u. hang k u (eq_or k f);
    names = λ k j u t. name k j u t (eq_or k f) (same_slot_or k j p i);
    leaves = λ k j u l nt. leafy k j u l nt (eq_or k f) (same_slot_or k j p i);
    free = λ k j z. free k j z (λ e. omega (arith, z, fit.used, splits.number, ap s'.ledger e));
    wide = λ k j l. wide k j l (eq_or k f);
  }
    where
      before : (k : ℕ) → k ≢ f → Used s' k → Used s k
      before k ne u = rw (← splits.ledger k ne) u

      keep : (k : ℕ) → k ≢ f → Used s k → C.Root k (s.ledger k) ⊎ Hangs C s k → C.Root k (s'.ledger k) ⊎ Hangs C s' k
      keep k ne u (inl root) = inl (rw (splits.ledger k ne) root)
      keep k ne u (inr h) =
          let over = not_new (parent C s k) h.used in
          inr
          (hangs_keep s' (splits.ledger k ne) (splits.ledger (parent C s k) over)
          (splits.words (parent C s k) (slot_in C s k) over (hangs_elsewhere old u h)) h)

      hang : (k : ℕ) → Used s' k → (k ≡ f) ⊎ (k ≢ f) → C.Root k (s'.ledger k) ⊎ Hangs C s' k
      hang k u (inl e) = inr (rw e new_refers.hung)
      hang k u (inr ne) = keep k ne (before k ne u) (S.hangs k (before k ne u))

      name : (k j : ℕ) → Used s' k → IsTable C s' k j → (k ≡ f) ⊎ (k ≢ f) → SameSlot k j p i ⊎ (¬ (SameSlot k j p i))
          → (c : ℕ) × Refers C s' k j c
      name k j u t (inl e) at = absurd (plain j (rw (← splits.number, ← e) t.0, rw (← splits.filled j, ← e) t.1))
      name k j u t (inr ne) (inl e) = (f, rw (e.0, e.1) new_refers)
      name k j u t (inr ne) (inr off) =
          let n = S.names k j (before k ne u) (rw (splits.ledger k ne, level_in) at t.0, rw (splits.words k j ne off) at t.1) in (
            n.0,
            refers_keep s' (splits.ledger n.0 (not_new n.0 n.1.used)) (splits.ledger k ne) (splits.words k j ne off)
                n.1,
          )

      leafy : (k j : ℕ) → Used s' k → j < 512 → ¬ (IsTable C s' k j) → (k ≡ f) ⊎ (k ≢ f) → SameSlot k j p i ⊎ (¬ (SameSlot k j p i))
          → C.Leaf (s'.ledger k) (s'.word k j)
      leafy k j u l nt (inl e) at = rw (e, splits.number, splits.filled j) (fit.fits j l).good
      leafy k j u l nt (inr ne) (inl e) = absurd (nt (rw (e.0, p_ledger, level_in) high, rw (e.0, e.1, splits.linked) (C.link_table f)))
      leafy k j u l nt (inr ne) (inr off) =
          rw (splits.ledger k ne, splits.words k j ne off)
          (S.leaves k j (before k ne u) l (λ t. nt (rw (splits.ledger k ne, level_in) t.0, rw (splits.words k j ne off) t.1)))

      free : (k j : ℕ) → s'.ledger k ≡ 0 → k ≢ f → s'.word k j ≡ 0
      free k j z ne =
          let z' : s.ledger k ≡ 0 = sym (splits.ledger k ne) ∙ z in
          splits.words k j ne (λ e. omega (arith, used, z', ap s.ledger e.0)) ∙ S.free k j z'

      wide : (k j : ℕ) → 512 ≤ j → (k ≡ f) ⊎ (k ≢ f) → s'.word k j ≡ 0
      wide k j l (inl e) = rw (e, splits.filled j) (fit.wide j l)
      wide k j l (inr ne) = splits.words k j ne (λ e. omega (arith, inside, l, e.1)) ∙ S.wide k j l

  -- the new table's own tree: the words as leaves
  pub new_tree : (depth : ℕ) → C.level x + depth ≡ 3 → tree_of C s' depth f ≡ node (λ j. leaf (g j))
  new_tree depth low = tree_at_node C.child depth s'.word f ∙ node_ext (λ j. slot_leaf C s' depth f j low (splits.filled j) (plain j))
