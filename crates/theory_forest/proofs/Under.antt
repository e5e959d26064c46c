-- Theorems about the definitions of specs/Under.
use Rattle.std.specs.Prelude.{◌≡◌, ◌⊎◌}
use Rattle.std.proofs.Math.Path.{refl, sym, ap}
use Rattle.std.proofs.Common.{◌∙◌, subst, inl, inr}
use Prim.Native.Nat.{ℕ, zero, suc}
use native.Mathlib.Omega.{arith}
use Rattle.theory_forest.specs.Sound.{State, Codec, Used, level_in, parent, slot_in, IsTable, Hangs, Refers, Sound}
use Rattle.theory_forest.specs.Under.{ancestor, Under, NotUnder, up_suc, under_self, under-zero, under_one, Via}

module _ {C : Codec} {s : State} where
  -- what lies under a table that hangs lies under the table over it
  pub under_up : {c d j : ℕ} → Hangs C s c → Under C s c d j → Under C s (parent C s c) (suc d) j
  under_up {c} {d} {j} h under = record {
    used = under.used;
    deep = omega (arith, h.below, under.deep);
    leads = up_suc C s d j ∙ ap (parent C s) under.leads;
  }

  pub under-step : {c d j : ℕ} → Used s j → Hangs C s j → Under C s c d (parent C s j) → Under C s c (suc d) j
  unfolding ancestor
  under-step used h under = record { used = used; deep = omega (arith, h.below, under.deep); leads = under.leads }

  -- what lies deeper than c is no root, so it hangs, from a table under c
  pub under_back : {c d j : ℕ} → Sound C s → Under C s c (suc d) j → Hangs C s j × Under C s c d (parent C s j)
  unfolding ancestor
  under_back {c} {d} {j} S under = go (S.hangs j under.used)
    where
      stays : (m : ℕ) → parent C s j ≡ j → ancestor C s m j ≡ j
      stays zero e = refl
      stays (suc m) e = ap (ancestor C s m) e ∙ stays m e

      go : C.Root j (s.ledger j) ⊎ Hangs C s j → Hangs C s j × Under C s c d (parent C s j)
      go (inl root) =
          let same : j ≡ c = sym (stays (suc d) (C.root_over j (s.ledger j) root)) ∙ under.leads in
          absurd (omega (arith, under.deep, ap (level_in C s) same))
      go (inr h) = (h, record { used = h.used; deep = omega (arith, under.deep, h.below); leads = under.leads })

  -- ---- the tables that the slots of k refer to

  -- a used table that hangs is referred to at the slot that its number names
  pub hangs_refers : {c : ℕ} → Used s c → Hangs C s c → Refers C s (parent C s c) (slot_in C s c) c
  hangs_refers used h = record { says = h.refers; used = used; from = refl; at = refl; hung = h }

  pub refers_level : {k i c : ℕ} → Refers C s k i c → level_in C s c ≡ suc (level_in C s k)
  refers_level r = omega (arith, r.hung.below, ap (level_in C s) r.from)

  -- at a table word
  pub refers_table : {k i c : ℕ} → Refers C s k i c → IsTable C s k i
  refers_table {c = c} r = (omega (arith, refers_level r, C.level_le (s.ledger c)), rw r.says (C.link_table c))

  pub refers_child : {k i c : ℕ} → Refers C s k i c → C.child (s.word k i) ≡ c
  refers_child {c = c} r = ap C.child r.says ∙ C.child_link c

  -- what lies under c lies under k; k itself does not lie under c
  pub refers_under : {k i c d j : ℕ} → Refers C s k i c → Under C s c d j → Under C s k (suc d) j
  refers_under {d = d} {j = j} r under = subst (λ (k : ℕ). Under C s k (suc d) j) r.from (under_up r.hung under)

  pub refers_over : {k i c : ℕ} → Refers C s k i c → NotUnder C s c k
  refers_over r d under = omega (arith, under.deep, refers_level r)

  -- only one slot of k is over j
  pub refers_one : {k i i' c c' d d' j : ℕ} → Refers C s k i c → Refers C s k i' c' → Under C s c d j → Under C s c' d' j → i ≡ i'
  refers_one r r' under under' =
      let same = under_one (omega (arith, refers_level r, refers_level r')) under under' in
      sym r.at ∙ ap (slot_in C s) same ∙ r'.at

module _ {C : Codec} {s : State} where
  pub under_via : {k d j : ℕ} → Sound C s → Under C s k (suc d) j → Via C s k j
  under_via {k} {d} {j} S under = go d j under
    where
      go : (d j : ℕ) → Under C s k (suc d) j → Via C s k j
      go zero j under =
          let back = under_back S under in
          let r = subst (λ (k : ℕ). Refers C s k (slot_in C s j) j) (under-zero back.1) (hangs_refers under.used back.0) in
          record { slot = slot_in C s j; top = j; deep = 0; refers = r; under = under_self under.used }
      go (suc d) j under =
          let back = under_back S under in
          let via = go d (parent C s j) back.1 in
          record {
            slot = via.slot;
            top = via.top;
            deep = suc via.deep;
            refers = via.refers;
            under = under-step under.used back.0 via.under;
          }
