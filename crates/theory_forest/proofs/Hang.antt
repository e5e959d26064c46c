-- Theorems about the definitions of specs/Hang.
use Rattle.std.specs.Prelude.{◌≡◌, ◌⊎◌, length}
use Rattle.std.proofs.Math.Path.{refl, sym, ap, subst}
use Rattle.std.proofs.Common.{◌∙◌, inl, inr}
use mathlib.Core.List.{List, [], ◌∷◌}
use Prim.Native.Nat.{ℕ, zero, suc, ◌+◌}
use native.Mathlib.Omega.{arith}
use Rattle.theory_forest.specs.Sound.{State, Codec, Used, level_in, parent, slot_in, Hangs, Refers, Sound}
use Rattle.theory_forest.specs.Under.{Under, under_self, under-zero, under_either}
use Rattle.theory_forest.proofs.Under.{under-step, under_back, hangs_refers, refers_table}
use Rattle.theory_forest.proofs.Under.{refers_child, refers_level}
use Rattle.theory_forest.specs.Hang.{Grounded, Points, Reaches, path, here, down}

module _ (C : Codec) where
  -- the table d steps over j
  unfoldable over : State → ℕ → ℕ → ℕ
  over s zero j = j
  over s (suc d) j = over s d (parent C s j)

  over-step : (s : State) (e j : ℕ) → over s (suc e) j ≡ parent C s (over s e j)
  unfolding over
  over-step s zero j = refl
  over-step s (suc e) j = over-step s e (parent C s j)

  path_front : (s : State) (e j : ℕ) (rest : List ℕ) → path C s (suc e) j rest ≡ slot_in C s (over s e j) ∷ (path C) s e j rest
  unfolding path over
  path_front s zero j rest = refl
  path_front s (suc e) j rest = path_front s e (parent C s j) (slot_in C s j ∷ rest)

  -- the slots are those that the ledger names, up from j
  record Named (s : State) (k : ℕ) (slots : List ℕ) (j : ℕ) : Type 0 where
    top : over s (length slots) j ≡ k
    same : slots ≡ path C s (length slots) j []
    deep : level_in C s j ≡ level_in C s k + length slots

module _ {C : Codec} {s : State} where
  -- ---- every used table hangs from a root

  pub grounded : {j : ℕ} → Sound C s → Used s j → Grounded C s j
  grounded {j} S used = climb (level_in C s j) j refl used
    where
      step : (j : ℕ) → Used s j → (Hangs C s j → Grounded C s (parent C s j)) → C.Root j (s.ledger j) ⊎ Hangs C s j → Grounded C s j
      step j used over (inl r) = record { root = j; deep = 0; is_root = r; under = under_self used }
      step j used over (inr h) =
          let g = over h in record { root = g.root; deep = suc g.deep; is_root = g.is_root; under = under-step used h g.under }

      climb : (l j : ℕ) → level_in C s j ≡ l → Used s j → Grounded C s j
      climb zero j level used = step j used (λ h. absurd (omega (arith, h.below))) (S.hangs j used)
      climb (suc l) j level used = step j used (λ h. climb l (parent C s j) (omega (arith, h.below)) h.used) (S.hangs j used)

  -- ---- every used table is reached from a root by following slots

  pub refers_points : {k i c : ℕ} → Used s k → Refers C s k i c → Points C s k i c
  refers_points used r = record { used = used; table = refers_table r; names = refers_child r }

  pub reached : {c d j : ℕ} → Sound C s → Under C s c d j → Reaches C s c (path C s d j []) j
  unfolding path
  reached {c} {d} {j} S under = go d j [] j under here
    where
      go : (d j : ℕ) (rest : List ℕ) (t : ℕ) → Under C s c d j → Reaches C s j rest t → Reaches C s c (path C s d j rest) t
      go zero j rest t under to = subst (λ (k : ℕ). Reaches C s k rest t) (under-zero under) to
      go (suc d) j rest t under to =
          let back = under_back S under in
          go d (parent C s j) (slot_in C s j ∷ rest) t back.1
          (down (refers_points back.0.used (hangs_refers under.used back.0)) to)

  -- whatever points to table c refers to it, so it is the slot that c's number names
  pub once : {k i c : ℕ} → Sound C s → Points C s k i c → Refers C s k i c
  once {k} {i} {c} S at =
      let n = S.names k i at.used at.table in
      subst (λ (c : ℕ). Refers C s k i c) (sym (refers_child n.1) ∙ at.names) n.1

  -- ---- a table is reached by one path alone: the ledger names each of its slots

  named : {k j : ℕ} {slots : List ℕ} → Sound C s → Reaches C s k slots j → Named C s k slots j
  unfolding path over
  named S here = record { top = refl; same = refl; deep = omega arith }
  named S (down {k = k} {i = i} {j = j} {rest = rest} at to) =
      let n = named S to in
      let r = once S at in
      record {
        top = over-step C s (length rest) j ∙ ap (parent C s) n.top ∙ r.from;
        same =
            ap (λ (x : ℕ). x ∷ rest) (sym r.at ∙ sym (ap (slot_in C s) n.top))
            ∙ ap (λ (l : List ℕ). slot_in C s (over C s (length rest) j) ∷ l) n.same ∙ sym (path_front C s (length rest) j []);
        deep = omega (arith, n.deep, refers_level r);
      }

  pub one-path : {k j : ℕ} {slots slots' : List ℕ} → Sound C s → Reaches C s k slots j → Reaches C s k slots' j → slots ≡ slots'
  one-path {k} {j} {slots} {slots'} S a b =
      let n = named S a in
      let m = named S b in
      let same : length slots ≡ length slots' = omega (arith, n.deep, m.deep) in
      n.same ∙ ap (λ (d : ℕ). path C s d j []) same ∙ sym m.same

  -- ---- exactly one slot of a used table refers to it

  -- no root hangs, and nothing points to one
  pub root_not_hung : {k : ℕ} → C.Root k (s.ledger k) → ¬ (Hangs C s k)
  root_not_hung {k} root h = omega (arith, h.below, ap (level_in C s) (C.root_over k (s.ledger k) root))

  pub root_free : {k i c : ℕ} → Sound C s → C.Root c (s.ledger c) → ¬ (Points C s k i c)
  root_free S root at = root_not_hung root (once S at).hung

  -- nothing points to a free table
  pub free_unreferred : {k i c : ℕ} → Sound C s → s.ledger c ≡ 0 → ¬ (Points C s k i c)
  free_unreferred S free at = omega (arith, free, (once S at).used)

  -- no table lies under two roots, whatever their levels
  pub root_one : {c c' d d' j : ℕ} → Sound C s → C.Root c (s.ledger c) → C.Root c' (s.ledger c')
      → Under C s c d j → Under C s c' d' j → c ≡ c'
  root_one {c} {c'} S root root' under under' = go (under_either (used c root) (used c' root') under under')
    where
      used : (k : ℕ) → C.Root k (s.ledger k) → Used s k
      used k r = C.root_used k (s.ledger k) r

      top : (a b x : ℕ) → C.Root b (s.ledger b) → Under C s a x b → b ≡ a
      top a b zero r under = under-zero under
      top a b (suc x) r under = absurd (root_not_hung r (under_back S under).0)

      go : ((x : ℕ) × Under C s c x c') ⊎ ((x : ℕ) × Under C s c' x c) → c ≡ c'
      go (inl at) = sym (top c c' at.0 root' at.1)
      go (inr at) = top c' c at.0 root at.1
