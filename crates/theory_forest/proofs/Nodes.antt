-- Theorems about the definitions of specs/Nodes.
use Rattle.std.specs.Prelude.{◌≡◌, refl, true, false, ◌⊎◌, ◌≢◌, eqb}
use Rattle.std.proofs.Math.Path.{sym, ap}
use Rattle.std.proofs.Common.{◌∙◌, inl, inr, arith}
use Rattle.std.proofs.Math.Bool.{cond}
use Prim.Native.Nat.{ℕ, zero, suc, ◌+◌, ◌%◌, ◌<◌}
use Rattle.laws.specs.Test.{eq_or, eqb_cases}
use Rattle.laws.specs.Sum.{sum, sum_ext, sum_none, sum_one, sum-add, sum_swap}
use Rattle.theory_forest.specs.Tree.{tree_at_node, entry_low, entry_leaf}
use Rattle.theory_forest.specs.Sound.{State, Codec, Used, level_in, Refers, Sound}
use Rattle.theory_forest.specs.Under.{Under, NotUnder, LevelsLeft, under_self, under-zero, under-or}
use Rattle.theory_forest.proofs.Under.{under_via, refers_level}
use Rattle.theory_forest.proofs.Under.{refers_table, refers_child, refers_under, refers_over}
use Rattle.theory_forest.proofs.Under.{refers_one}
use Rattle.theory_forest.proofs.Hang.{grounded}
use Rattle.theory_forest.specs.Frame.{tree_of, slot_tree}
use Rattle.theory_forest.proofs.Frame.{slot_refers}
use Rattle.theory_forest.specs.Nodes.{nodes, in_use, tally_either, tally_yes, tally_no, lies, lies_yes, lies_no}

-- 1 where j is c
is : ℕ → ℕ → ℕ
is c j = tally_either (eq_or j c)

is_yes : (c j : ℕ) → j ≡ c → is c j ≡ 1
unfolding is
is_yes c j e = tally_yes (eq_or j c) (λ ne. ne e)

is_no : (c j : ℕ) → j ≢ c → is c j ≡ 0
unfolding is
is_no c j ne = tally_no (eq_or j c) ne

module _ (C : Codec) (s : State) where
  -- 1 where j lies under the table that slot i of c names
  in_slot : ℕ → ℕ → ℕ → ℕ
  in_slot c i j = cond (eqb (s.word c i % 4) 3) (lies C s (C.child (s.word c i)) j) 0

  slot_yes : (c i e j : ℕ) → Refers C s c i e → in_slot c i j ≡ lies C s e j
  unfolding in_slot
  slot_yes c i e j r = rw ((refers_table r).1, refers_child r)

module _ {C : Codec} {s : State} (S : Sound C s) where
  module _ (c : ℕ) (used : Used s c) (high : level_in C s c < 3) where
    slot_no : (i j : ℕ) → ((e : ℕ) → Refers C s c i e → NotUnder C s e j) → in_slot C s c i j ≡ 0
    unfolding in_slot
    slot_no i j off = go (eqb_cases (s.word c i % 4) 3)
      where
        go : ((s.word c i % 4 ≡ 3) × (eqb (s.word c i % 4) 3 ≡ true)) ⊎ ((s.word c i % 4 ≢ 3) × (eqb (s.word c i % 4) 3 ≡ false))
            → in_slot C s c i j ≡ 0
        go (inl t) = let n = S.names c i used (high, t.0) in slot_yes C s c i n.0 j n.1 ∙ lies_no C s n.0 j (off n.0 n.1)
        go (inr t) = rw t.1

    -- a table under c is c, or lies under exactly one slot
    parts : (j : ℕ) → lies C s c j ≡ is c j + sum 512 (λ i. in_slot C s c i j)
    parts j = go (under-or c j)
      where
        none : ((i e : ℕ) → Refers C s c i e → NotUnder C s e j) → sum 512 (λ i. in_slot C s c i j) ≡ 0
        none off = sum_none 512 (λ i. in_slot C s c i j) (λ i l. slot_no i j (off i))

        at : (d : ℕ) → Under C s c d j → lies C s c j ≡ is c j + sum 512 (λ i. in_slot C s c i j)
        at zero under =
            let e : j ≡ c = under-zero under in
            let a = lies_yes C s c 0 j under in
            let b = is_yes c j e in
            let z = none (λ i k r d under'. refers_over r d (rw (← e) under')) in
            omega arith
        at (suc d) under =
            let via = under_via S under in
            let r = via.refers in
            let a = lies_yes C s c (suc d) j under in
            let b = is_no c j (λ e. omega (arith, under.deep, ap (level_in C s) e)) in
            let inside : via.slot < 512 = rw (← r.at) (C.slot_lt (s.ledger via.top)) in
            let z = sum_one 512 (λ i. in_slot C s c i j) via.slot inside
            (slot_yes C s c via.slot via.top j r ∙ lies_yes C s via.top via.deep j via.under)
            (λ i ne. slot_no i j (λ e r' d' under'. ne (refers_one r' r under' via.under))) in
            omega arith

        go : ((d : ℕ) × Under C s c d j) ⊎ NotUnder C s c j → lies C s c j ≡ is c j + sum 512 (λ i. in_slot C s c i j)
        go (inl under) = at under.0 under.1
        go (inr off) =
            let a = lies_no C s c j off in
            let b = is_no c j (λ e. off 0 (rw e (under_self used))) in
            let z = none (λ i e r d under. off (suc d) (refers_under r under)) in
            omega arith

  -- ---- all tables are among the first n

  module _ (n : ℕ) (range : (j : ℕ) → Used s j → j < n) where
    one_self : (c : ℕ) → Used s c → sum n (is c) ≡ 1
    one_self c used = sum_one n (is c) c (range c used) (is_yes c c refl) (is_no c)

    -- the tables under c are the nodes of its tree
    pub under-nodes : (depth c : ℕ) → Used s c → LevelsLeft C s c depth → sum n (lies C s c) ≡ nodes (tree_of C s depth c)
    unfolding nodes
    under-nodes zero c used low =
        sum_ext n (lies C s c) (is c) (λ j l. only j (under-or c j)) ∙ one_self c used
        ∙ sym (ap nodes (tree_at_node C.child 0 s.word c)
        ∙ ap suc (sum_none 512 (λ i. nodes (slot_tree C s 0 c i)) (λ i l. ap nodes (entry_low C.child s.word (s.word c i)))))
      where
        at : (j d : ℕ) → Under C s c d j → lies C s c j ≡ is c j
        at j zero under = lies_yes C s c 0 j under ∙ sym (is_yes c j (under-zero under))
        at j (suc d) under = absurd (omega (arith, under.deep, low, C.level_le (s.ledger j)))

        only : (j : ℕ) → ((d : ℕ) × Under C s c d j) ⊎ NotUnder C s c j → lies C s c j ≡ is c j
        only j (inl under) = at j under.0 under.1
        only j (inr off) = lies_no C s c j off ∙ sym (is_no c j (λ e. off 0 (rw e (under_self used))))
    under-nodes (suc depth) c used low =
        let a = sum_ext n (lies C s c) (λ j. is c j + sum 512 (λ i. in_slot C s c i j)) (λ j l. parts c used high j) in
        let b = sum-add n (is c) (λ j. sum 512 (λ i. in_slot C s c i j)) in
        let d = sum_swap n 512 (λ j i. in_slot C s c i j) in
        let e = one_self c used in
        let f = sum_ext 512 (λ i. sum n (λ j. in_slot C s c i j)) (λ i. nodes (slot_tree C s (suc depth) c i))
        (λ i h. slot i (λ e r. under-nodes depth e r.used (omega (arith, low, refers_level r))) (eq_or (s.word c i % 4) 3)) in
        let g : nodes (tree_of C s (suc depth) c) ≡ suc (sum 512 (λ i. nodes (slot_tree C s (suc depth) c i))) =
        ap nodes (tree_at_node C.child (suc depth) s.word c) in
        omega arith
      where
        high : level_in C s c < 3
        high = omega arith

        slot : (i : ℕ) → ((e : ℕ) → Refers C s c i e → sum n (lies C s e) ≡ nodes (tree_of C s depth e))
            → (s.word c i % 4 ≡ 3) ⊎ (s.word c i % 4 ≢ 3)
            → sum n (λ j. in_slot C s c i j) ≡ nodes (slot_tree C s (suc depth) c i)
        slot i ih (inl both) =
            let m = S.names c i used (high, both) in
            sum_ext n (λ j. in_slot C s c i j) (lies C s m.0) (λ j h. slot_yes C s c i m.0 j m.1) ∙ ih m.0 m.1
            ∙ sym (ap nodes (slot_refers depth m.1))
        slot i ih (inr other) =
            sum_none n (λ j. in_slot C s c i j) (λ j h. slot_no c used high i j (λ e r. absurd (other (refers_table r).1)))
            ∙ sym (ap nodes (entry_leaf C.child (suc depth) s.word (s.word c i) other))

    -- COUNT: with one root, the tables in use are the nodes of its tree
    pub used-nodes : (depth root : ℕ) → C.Root root (s.ledger root) → ((k : ℕ) → C.Root k (s.ledger k) → k ≡ root)
        → LevelsLeft C s root depth
        → in_use n s ≡ nodes (tree_of C s depth root)
    unfolding in_use
    used-nodes depth root is_root single low =
        sum_ext n (λ k. cond (eqb (s.ledger k) 0) 0 1) (lies C s root) (λ k l. at k (eqb_cases (s.ledger k) 0))
        ∙ under-nodes depth root (C.root_used root (s.ledger root) is_root) low
      where
        at : (k : ℕ) → ((s.ledger k ≡ 0) × (eqb (s.ledger k) 0 ≡ true)) ⊎ ((s.ledger k ≢ 0) × (eqb (s.ledger k) 0 ≡ false))
            → cond (eqb (s.ledger k) 0) 0 1 ≡ lies C s root k
        at k (inl t) = rw t.1 (sym (lies_no C s root k (λ d under. omega (arith, under.used, t.0))))
        at k (inr t) =
            let g = grounded {C = C} {s = s} {j = k} S (omega (arith, t.0)) in
            rw t.1 (sym (lies_yes C s root g.deep k (rw (← single g.root g.is_root) g.under)))
