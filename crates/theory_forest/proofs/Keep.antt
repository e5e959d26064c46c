-- Theorems about the definitions of specs/Keep.
use Rattle.std.specs.Prelude.{◌≡◌, ℕ}
use Rattle.std.proofs.Common.{◌∙◌, subst₂}
use Rattle.theory_forest.specs.Sound.{State, Codec, Used, level_in, parent, slot_in, IsTable, Hangs, Refers}
use Rattle.theory_forest.proofs.Under.{hangs_refers, refers_table}
use Rattle.theory_forest.specs.Keep.{SameSlot}

module _ {C : Codec} {s : State} where
  -- no table hangs in a slot that holds no table word
  pub hangs_elsewhere : {k p i : ℕ} → ¬ (IsTable C s p i) → Used s k → Hangs C s k → ¬ (SameSlot (parent C s k) (slot_in C s k) p i)
  hangs_elsewhere old used h e = old (subst₂ (IsTable C s) e.0 e.1 (refers_table (hangs_refers used h)))

  -- a table still hangs if its number, the number of the table over it and the word in its slot stay
  pub hangs_keep : (s' : State) {k : ℕ} → s'.ledger k ≡ s.ledger k → s'.ledger (parent C s k) ≡ s.ledger (parent C s k)
      → s'.word (parent C s k) (slot_in C s k) ≡ s.word (parent C s k) (slot_in C s k) → Hangs C s k → Hangs C s' k
  hangs_keep s' own over word h = record {
    well = rw (own, over, parent) h.well;
    used = rw (own, over, parent) h.used;
    below = rw (own, over, level_in, parent) h.below;
    refers = rw (own, word, parent, slot_in) h.refers;
  }

  pub refers_keep : (s' : State) {k i c : ℕ} → s'.ledger c ≡ s.ledger c → s'.ledger k ≡ s.ledger k → s'.word k i ≡ s.word k i
      → Refers C s k i c → Refers C s' k i c
  refers_keep s' own over word r = record {
    says = word ∙ r.says;
    used = rw own r.used;
    from = rw (own, parent) r.from;
    at = rw (own, slot_in) r.at;
    hung = hangs_keep s' own (rw r.from over) (rw (r.from, r.at) word) r.hung;
  }
