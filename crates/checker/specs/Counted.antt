-- The soundness test as the check runs it says what the soundness test says: in a shaped pool whose used tables all hang, as many slots are
-- named by ledger numbers as there are used tables but the root, and each of them holds a table word; so counting the table words finds
-- whether there are others.
use Rattle.std.specs.Prelude.{◌≡◌, refl, Bool, ◌&&◌, ◌⊎◌, ◌≢◌, ℕ, zero, suc, ◌+◌, ◌*◌, ◌-◌, ◌/◌, ◌%◌, ◌^◌, ◌≤◌, ◌<◌, eqb, ltb, length}
use Rattle.std.proofs.Common.{sym, ◌∙◌, subst, zero-add, ltb→lt, lt→ltb}
use Rattle.std.proofs.Math.Path.{ap, subst⁻¹}
use Rattle.std.proofs.Math.Logic.{inl, inr}
use Rattle.std.proofs.Math.Nat.{le_antisymm}
use native.Mathlib.Omega.{arith}
use Rattle.std.proofs.Math.Dec.{T, eqb→eq}
use Rattle.laws.specs.Sum.{sum, sum_ext, sum_none, sum_one, sum-add, sum_swap, sum_some, sum_at, sum_tight, tally, tally_yes, tally_no}
use Rattle.laws.specs.Test.{by_bool, eq_or, and_l, and_r, and_i, or-e, eq→eqb, same_test, all_below, all_to, all_of, from_to, from_of}
use Rattle.entry.specs.Word.{address_of, link_of, link_once, link_address, link_low}
use Rattle.pool.specs.State.{St, tables, number_at, used_in}
use Rattle.pool.specs.Number.{root_number, parent_of, used}
use Rattle.pool.specs.Refuse.{Shaped}
use Rattle.pool.specs.Sound.{namesb, hangsb, tableb, linkb, slotb, soundb, names_says}
use Rattle.checker_words.specs.Answer.{count_most}
use Rattle.checker_pass.specs.Pass.{run_passes, table_passes, table_links}
use Rattle.checker.specs.Row.{word_in, link_in, pass_in, used-sum, all_links, runs_to, runs_of}
use Rattle.checker_ledger.specs.Hang.{Named, Hangs, hangs_to}
use Rattle.checker.specs.Named.{slot_passes, slot_links, slot_of_lem, count-one, place, named_in, links_to, links_of, named_at, named_yes}
use Rattle.checker.specs.Named.{named_says, named_no}
use Rattle.pool.specs.declared.Handle.{Handle}

-- every table passes, and there are as many links as used tables but the root
unfoldable pub streamb : Handle → St → Bool
streamb h s = all_below (tables s) (table_passes h s) && eqb (sum (tables s) (table_links s) + 1) (used s.ledger)

-- ---- the table words counted

module _ (h : Handle) (s : St) (some : 1 ≤ tables s) (words : length s.words ≡ 512 * tables s) (pages : h.base.0 % 4096 ≡ 0)
    (below : h.base.0 + 4096 * tables s ≤ 2 ^ 48) (level : h.level ≤ 3) where
  -- the word at x is the link to a table whose number names its slot
  link_at : ℕ → Bool
  link_at x = linkb h.base.0 s (x / 512) (x % 512) (word_in s x)

  -- where every table passes
  module _ (pass : (k : ℕ) → k < tables s → T (tableb h s k)) where
    root : number_at s 0 ≡ 4 + h.level
    unfolding tableb root_number
    root = eqb→eq (number_at s 0) (4 + h.level) (pass 0 some)

    root_nameless : ¬ (Named s 0)
    root_nameless t = let n = names_says (number_at s 0) t in let r = root in omega arith

    free_or_hangs : (k : ℕ) → suc k < tables s → (number_at s (suc k) ≡ 0) ⊎ Hangs h.base.0 s (suc k)
    unfolding tableb
    free_or_hangs k l = go (or-e (eqb (number_at s (suc k)) 0) (hangsb h.base.0 s (suc k)) (pass (suc k) l))
      where
        go : T (eqb (number_at s (suc k)) 0) ⊎ T (hangsb h.base.0 s (suc k)) → (number_at s (suc k) ≡ 0) ⊎ Hangs h.base.0 s (suc k)
        go (inl t) = inl (eqb→eq (number_at s (suc k)) 0 t)
        go (inr t) = inr (hangs_to h.base.0 s (suc k) t)

    hangs : (k : ℕ) → Named s k → Hangs h.base.0 s k
    hangs zero t = absurd (root_nameless t)
    hangs (suc k) t = go (free_or_hangs k (named_in s (suc k) t))
      where
        go : (number_at s (suc k) ≡ 0) ⊎ Hangs h.base.0 s (suc k) → Hangs h.base.0 s (suc k)
        go (inl e) = let n = names_says (number_at s (suc k)) t in absurd (omega arith)
        go (inr g) = g

    -- ---- a slot that is named is in the row, holds a table word, and is named once

    place_in : (k : ℕ) → Named s k → place s k < 512 * tables s
    place_in k t = let u = used_in s (parent_of (number_at s k)) (hangs k t).parent in omega arith

    place-one : (k : ℕ) → Named s k → link_in s (place s k) ≡ 1
    unfolding link_in
    place-one k t =
        let g = hangs k t in
        let e : place s k / 512 ≡ parent_of (number_at s k) = omega arith in
        let low = link_low h.base.0 k pages (omega (arith, named_in s k t)) in
        rw (e, g.says) (count-one (number_at s (parent_of (number_at s k))) (link_of h.base.0 k) g.parent (omega arith) low)

    place_once : (j k : ℕ) → Named s j → Named s k → place s j ≡ place s k → j ≡ k
    place_once j k t u e = link_once h.base.0 j k (sym (hangs j t).says ∙ ap (word_in s) e ∙ (hangs k u).says)

    place_link : (x k : ℕ) → Named s k → place s k ≡ x → T (link_at x)
    unfolding link_at
    place_link x k t e =
        let w : word_in s x ≡ link_of h.base.0 k = ap (word_in s) (sym e) ∙ (hangs k t).says in
        let a = link_address h.base.0 k pages (omega (arith, named_in s k t)) in
        let back : (address_of (link_of h.base.0 k) - h.base.0) / 4096 ≡ k = omega arith in
        rw w (links_of h.base.0 s (x / 512) (x % 512) k back (record { named = t; from = omega arith; slot = omega arith }))

    named_most : (x : ℕ) → sum (tables s) (named_at s x) ≤ link_in s x
    named_most x = go (sum_some (tables s) (named_at s x))
      where
        go : (sum (tables s) (named_at s x) ≡ 0) ⊎ ((k : ℕ) × (k < tables s) × (0 < named_at s x k))
            → sum (tables s) (named_at s x) ≤ link_in s x
        go (inl e) = omega arith
        go (inr (k, l, p)) =
            let n = named_says s x k p in
            let one = sum_one (tables s) (named_at s x) k l (named_yes s x k n.0 n.1)
            (λ j ne. named_no s x j (λ m. ne (place_once j k m.0 n.0 (m.1 ∙ sym n.1)))) in
            let link = subst (λ (y : ℕ). link_in s y ≡ 1) n.1 (place-one k n.0) in
            omega arith

    -- ---- every used table but the root names one slot of the row

    table_names : (k : ℕ) → sum (512 * tables s) (λ x. named_at s x k) ≡ tally (namesb (number_at s k))
    table_names k = by_bool (namesb (number_at s k)) (λ e. yes (subst⁻¹ T e tt)) (λ e. no (λ t. subst T e t))
      where
        yes : Named s k → sum (512 * tables s) (λ x. named_at s x k) ≡ tally (namesb (number_at s k))
        yes t =
            sum_one (512 * tables s) (λ x. named_at s x k) (place s k) (place_in k t) (named_yes s (place s k) k t refl)
            (λ x ne. named_no s x k (λ m. ne (sym m.1)))
            ∙ sym (tally_yes (namesb (number_at s k)) t)

        no : ¬ (Named s k) → sum (512 * tables s) (λ x. named_at s x k) ≡ tally (namesb (number_at s k))
        no n =
            sum_none (512 * tables s) (λ x. named_at s x k) (λ x l. named_no s x k (λ m. n m.0))
            ∙ sym (tally_no (namesb (number_at s k)) n)

    used_names : (k : ℕ) → k < tables s → tally (ltb 0 (number_at s k)) ≡ tally (namesb (number_at s k)) + tally (eqb k 0)
    used_names zero l =
        let r = root in
        let a = tally_yes (ltb 0 (number_at s 0)) (lt→ltb 0 (number_at s 0) (omega arith)) in
        let b = tally_no (namesb (number_at s 0)) root_nameless in
        let c = tally_yes (eqb 0 0) tt in
        omega arith
    used_names (suc k) l = go (free_or_hangs k l)
      where
        z : ℕ
        z = number_at s (suc k)

        go : (z ≡ 0) ⊎ Hangs h.base.0 s (suc k) → tally (ltb 0 z) ≡ tally (namesb z) + tally (eqb (suc k) 0)
        go (inl e) =
            let a = tally_no (ltb 0 z) (λ t. let p = ltb→lt 0 z t in omega arith) in
            let b = tally_no (namesb z) (λ t. let n = names_says z t in omega arith) in
            let c = tally_no (eqb (suc k) 0) (λ t. let q = eqb→eq (suc k) 0 t in omega arith) in
            omega arith
        go (inr g) =
            let a = tally_yes (ltb 0 z) (lt→ltb 0 z (omega (arith, names_says z g.named))) in
            let b = tally_yes (namesb z) g.named in
            let c = tally_no (eqb (suc k) 0) (λ t. let q = eqb→eq (suc k) 0 t in omega arith) in
            omega arith

    named_total : sum (512 * tables s) (λ x. sum (tables s) (named_at s x)) + 1 ≡ used s.ledger
    named_total =
        let swap = sum_swap (512 * tables s) (tables s) (named_at s) in
        let each = sum_ext (tables s) (λ k. sum (512 * tables s) (λ x. named_at s x k)) (λ k. tally (namesb (number_at s k)))
        (λ k l. table_names k) in
        let all = used-sum s.ledger in
        let split = sum_ext (tables s) (λ k. tally (ltb 0 (number_at s k)))
        (λ k. tally (namesb (number_at s k)) + tally (eqb k 0)) used_names in
        let both = sum-add (tables s) (λ k. tally (namesb (number_at s k))) (λ k. tally (eqb k 0)) in
        let first = sum_one (tables s) (λ k. tally (eqb k 0)) 0 some (tally_yes (eqb 0 0) tt)
        (λ i ne. tally_no (eqb i 0) (λ t. ne (eqb→eq i 0 t))) in
        omega arith

    -- ---- all table words are links exactly when there are as many as used tables but the root

    counted-links : sum (512 * tables s) (link_in s) + 1 ≡ used s.ledger → (x : ℕ) → x < 512 * tables s → 0 < link_in s x → T (link_at x)
    counted-links c x l p =
        let total = named_total in
        let same = sum_tight (512 * tables s) (λ y. sum (tables s) (named_at s y)) (link_in s) (λ y m. named_most y) (omega arith) x l in
        go (omega arith) (sum_some (tables s) (named_at s x))
      where
        go : 0 < sum (tables s) (named_at s x) → (sum (tables s) (named_at s x) ≡ 0) ⊎ ((k : ℕ) × (k < tables s) × (0 < named_at s x k))
            → T (link_at x)
        go q (inl e) = absurd (omega arith)
        go q (inr (k, m, r)) = let n = named_says s x k r in place_link x k n.0 n.1

    links-counted : ((x : ℕ) → x < 512 * tables s → 0 < link_in s x → T (link_at x)) → sum (512 * tables s) (link_in s) + 1 ≡ used s.ledger
    unfolding link_at link_in
    links-counted t =
        let total = named_total in
        let same = sum_ext (512 * tables s) (λ y. sum (tables s) (named_at s y)) (link_in s)
        (λ x l. le_antisymm (named_most x) (go x l (eq_or (link_in s x) 0))) in
        omega arith
      where
        go : (x : ℕ) → x < 512 * tables s → (link_in s x ≡ 0) ⊎ (link_in s x ≢ 0) → link_in s x ≤ sum (tables s) (named_at s x)
        go x l (inl e) = omega arith
        go x l (inr e) =
            let (k, n) = links_to h.base.0 s (x / 512) (x % 512) (word_in s x) (t x l (omega arith)) in
            let one = named_yes s x k n.named (omega arith) in
            let most = count_most (number_at s (x / 512)) (word_in s x) in
            let inside = sum_at (tables s) (named_at s x) k (named_in s k n.named) in
            omega arith

  -- ---- the two tests

  stream_to : T (streamb h s) → T (soundb h s)
  unfolding streamb soundb table_passes pass_in link_in link_at
  stream_to t =
      and_i (all_below (tables s) (tableb h s)) _ (all_of (tables s) (tableb h s) pass)
      (from_of 0 s.words (λ x w. slotb h s (x / 512) (x % 512) w) (λ x l. rw (zero-add x) (slot x (omega arith))))
    where
      each : (k : ℕ) → k < tables s → T (tableb h s k && all_below 4 (run_passes h s k))
      each = all_to (tables s) (table_passes h s) (and_l (all_below (tables s) (table_passes h s)) _ t)

      pass : (k : ℕ) → k < tables s → T (tableb h s k)
      pass k l = and_l (tableb h s k) _ (each k l)

      count : sum (512 * tables s) (link_in s) + 1 ≡ used s.ledger
      count =
          let e = eqb→eq (sum (tables s) (table_links s) + 1) (used s.ledger) (and_r (all_below (tables s) (table_passes h s)) _ t) in
          let f = all_links s words in
          omega arith

      slot : (x : ℕ) → x < 512 * tables s → T (slotb h s (x / 512) (x % 512) (word_in s x))
      slot x l =
          slot_of_lem h s (x / 512) (x % 512) (word_in s x) (runs_to s words h (λ k m. and_r (tableb h s k) _ (each k m)) x l)
          (counted-links pass count x l)

  stream_of : T (soundb h s) → T (streamb h s)
  unfolding streamb soundb table_passes pass_in link_in link_at
  stream_of t =
      and_i (all_below (tables s) (table_passes h s)) _
      (all_of (tables s) (table_passes h s) (λ k l. and_i (tableb h s k) _ (pass k l) (runs k l)))
      (eq→eqb (sum (tables s) (table_links s) + 1) (used s.ledger) (let c = count in let f = all_links s words in omega arith))
    where
      pass : (k : ℕ) → k < tables s → T (tableb h s k)
      pass = all_to (tables s) (tableb h s) (and_l (all_below (tables s) (tableb h s)) _ t)

      slot : (x : ℕ) → x < 512 * tables s → T (slotb h s (x / 512) (x % 512) (word_in s x))
      slot x l =
          rw (zero-add x) at
          (from_to 0 s.words (λ x w. slotb h s (x / 512) (x % 512) w) (and_r (all_below (tables s) (tableb h s)) _ t) x (omega arith))

      runs : (k : ℕ) → k < tables s → T (all_below 4 (run_passes h s k))
      runs = runs_of s words h (λ x l. slot_passes h s (x / 512) (x % 512) (word_in s x) (slot x l))

      count : sum (512 * tables s) (link_in s) + 1 ≡ used s.ledger
      count = links-counted pass (λ x l. slot_links h s (x / 512) (x % 512) (word_in s x) (slot x l))

  pub stream_same : streamb h s ≡ soundb h s
  stream_same = same_test (streamb h s) (soundb h s) stream_to stream_of

pub stream_sound : (h : Handle) (s : St) → Shaped h s → streamb h s ≡ soundb h s
stream_sound h s p = stream_same h s p.some p.sized p.paged p.ended p.level
