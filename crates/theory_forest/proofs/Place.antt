-- Theorems about the definitions of specs/Place.
use Rattle.std.specs.Prelude.{◌≡◌, refl, ◌⊎◌, ◌≢◌, ℕ, zero, suc}
use Rattle.std.proofs.Common.{◌∙◌, subst₂, inl, inr}
use Rattle.theory_forest.specs.Sound.{State, Codec, Used, parent, slot_in, Hangs, Refers, Sound}
use Rattle.theory_forest.specs.Under.{Under, NotUnder, LevelsLeft, under_self, under-zero, under_apart}
use Rattle.theory_forest.proofs.Under.{under-step, under_back}
use Rattle.theory_forest.proofs.Under.{hangs_refers, refers_under, refers_over}
use Rattle.theory_forest.proofs.Hang.{root_not_hung, root_one}
use Rattle.theory_forest.specs.Frame.{tree_of, NotUnderSlot}
use Rattle.theory_forest.proofs.Frame.{change_outside, frame}
use Rattle.theory_forest.proofs.Keep.{refers_keep}
use Rattle.theory_forest.specs.Place.{NotBelow, At, Over, below_self}

module _ {C : Codec} {s : State} where
  -- table k itself keeps its number
  pub slot_self : {k i : ℕ} → NotUnderSlot C s k i k
  slot_self c d r under = refers_over r d under

  below_slot : {k i j : ℕ} → NotBelow C s k j → NotUnderSlot C s k i j
  below_slot off c d r under = off d (refers_under r under)

-- ---- the way up from a kept table is kept

module _ {C : Codec} {s s' : State} (S : Sound C s) (S' : Sound C s') (Kept : ℕ → Type 0)
    (closed : (j : ℕ) → Used s j → Kept j → Hangs C s j → Kept (parent C s j))
    (same : (j : ℕ) → Used s j → Kept j → s'.ledger j ≡ s.ledger j) where
  hangs_before : (j : ℕ) → Used s j → Kept j → Hangs C s' j → Hangs C s j
  hangs_before j used kept h = go (S.hangs j used)
    where
      go : C.Root j (s.ledger j) ⊎ Hangs C s j → Hangs C s j
      go (inl root) = absurd (root_not_hung {C = C} {s = s'} {k = j} (rw (same j used kept) root) h)
      go (inr h) = h

  record Before (c d j : ℕ) : Type 0 where
    under : Under C s c d j
    used : Used s c
    kept : Kept c

  before : (c d j : ℕ) → Used s j → Kept j → Under C s' c d j → Before c d j
  before c zero j used kept under =
      let e : j ≡ c = under-zero under in
      let used' : Used s c = rw (← e) used in
      record { under = rw e (under_self used'); used = used'; kept = rw (← e) kept }
  before c (suc d) j used kept under =
      let back = under_back S' under in
      let h = hangs_before j used kept back.0 in
      let e : parent C s' j ≡ parent C s j = rw (same j used kept, parent) refl in
      let b = before c d (parent C s j) h.used (closed j used kept h) (rw (← e) back.1) in
      record { under = under-step used h b.under; used = b.used; kept = b.kept }

-- ---- they compose

module _ {C : Codec} {s s' : State} (S : Sound C s) where
  -- what is not under the slot before is not under it after, and is still in use
  at_slot_lem : {k i j : ℕ} → At C s s' k i → Used s j → NotUnderSlot C s k i j → NotUnderSlot C s' k i j
  at_slot_lem {k} {i} {j} a used off c d r under =
      let b = before S a.sound (NotUnderSlot C s k i) closed a.ledger c d j used off under in
      let own = a.ledger c b.used b.kept in
      let h = hangs_before S a.sound (NotUnderSlot C s k i) closed a.ledger c b.used b.kept r.hung in
      let r' = subst₂ (λ (k i : ℕ). Refers C s k i c) (rw (own, parent) at r.from) (rw (own, slot_in) at r.at)
      (hangs_refers b.used h) in
      b.kept c 0 r' (under_self b.used)
    where
      closed : (j : ℕ) → Used s j → NotUnderSlot C s k i j → Hangs C s j → NotUnderSlot C s k i (parent C s j)
      closed j used off h c d r under = off c (suc d) r (under-step used h under)

  over_before : {k d j : ℕ} → Over C s s' k → Used s j → NotBelow C s k j → Under C s' k d j → Under C s k d j
  over_before {k} {d} {j} o used off under = (before S o.sound (NotBelow C s k) closed o.ledger k d j used off under).under
    where
      closed : (j : ℕ) → Used s j → NotBelow C s k j → Hangs C s j → NotBelow C s k (parent C s j)
      closed j used off h d under = off (suc d) (under-step used h under)

  pub at_used : {k i j : ℕ} → At C s s' k i → Used s j → NotUnderSlot C s k i j → Used s' j
  at_used {j = j} a used off = rw (a.ledger j used off) used

  pub over-used : {k j : ℕ} → Over C s s' k → Used s j → NotBelow C s k j → Used s' j
  over-used {j = j} o used off = rw (o.ledger j used off) used

  pub at_trans : {s'' : State} {k i : ℕ} → At C s s' k i → At C s' s'' k i → At C s s'' k i
  at_trans a b = record {
    sound = b.sound;
    words = record {
      slots = λ j other. b.words.slots j other ∙ a.words.slots j other;
      others =
          λ j used other off i. b.words.others j (at_used a used off) other (at_slot_lem a used off) i ∙ a.words.others j used other off i;
    };
    ledger = λ j used off. b.ledger j (at_used a used off) (at_slot_lem a used off) ∙ a.ledger j used off;
  }

  pub over_trans : {s'' : State} {k : ℕ} → Over C s s' k → Over C s' s'' k → Over C s s'' k
  over_trans a b = record {
    sound = b.sound;
    words = λ j used off i.
        let off' : NotBelow C s _ j = λ d. off (suc d) in
        b.words j (over-used a used off') (λ d under. off d (over_before a used off' under)) i ∙ a.words j used off i;
    ledger = λ j used off. b.ledger j (over-used a used off) (λ d under. off d (over_before a used off under)) ∙ a.ledger j used off;
  }

  -- a change at a slot of k is a change of k
  pub at_over : {k i : ℕ} → Used s k → At C s s' k i → Over C s s' k
  at_over used a =
      record { sound = a.sound; words = change_outside S s' used a.words; ledger = λ j used' off. a.ledger j used' (below_slot off) }

  -- a change of a child is a change at its slot
  pub over_at : {k i c : ℕ} → Used s k → Refers C s k i c → Over C s s' c → At C s s' k i
  over_at {k} {c = c} used r o = record {
    sound = o.sound;
    words = record {
      slots = λ j other. o.words k used (refers_over r) j;
      others = λ j used' other off i. o.words j used' (λ d. off c d r) i;
    };
    ledger = λ j used' off. o.ledger j used' (λ d. off c (suc d) r);
  }

  -- the slot still refers to the child
  pub over_refers : {k i c : ℕ} → Used s k → Refers C s k i c → Over C s s' c → Refers C s' k i c
  over_refers {k} {i} {c} used r o =
      refers_keep s' (o.ledger c r.used below_self) (o.ledger k used (λ d. refers_over r (suc d)))
      (o.words k used (refers_over r) i) r

  -- every tree that is neither over k nor under it stays: the trees of other roots
  pub over_stays : (all : ℕ) {k c : ℕ} → Over C s s' k → Used s k → Used s c → LevelsLeft C s c all → NotUnder C s c k → NotUnder C s k c
      → tree_of C s' all c ≡ tree_of C s all c
  over_stays all {k} {c} o used used' low off off' =
      frame S s' all c used' low (λ d j under. o.words j under.used (under_apart used' used off off' under))

  pub root_stays : (all : ℕ) {k c : ℕ} → Over C s s' k → C.Root k (s.ledger k) → C.Root c (s.ledger c) → k ≢ c → LevelsLeft C s c all
      → tree_of C s' all c ≡ tree_of C s all c
  root_stays all {k} {c} o root root' other low =
      let used : Used s k = C.root_used k (s.ledger k) root in
      let used' : Used s c = C.root_used c (s.ledger c) root' in
      over_stays all o used used' low
      (λ d under. other (root_one S root root' (under_self used) under)) (λ d under. other (root_one S root root' under (under_self used')))

module _ {C : Codec} {s : State} (S : Sound C s) where
  pub at_refl : {k i : ℕ} → At C s s k i
  at_refl =
      record { sound = S; words = record { slots = λ j other. refl; others = λ j used other off i. refl }; ledger = λ j used off. refl }

  pub over_refl : {k : ℕ} → Over C s s k
  over_refl = record { sound = S; words = λ j used off i. refl; ledger = λ j used off. refl }
