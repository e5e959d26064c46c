-- The test `soundb` decides soundness: for a pool that refusal 1 lets pass it holds exactly when document 01's clauses do.
use Rattle.std.specs.Prelude.{◌≡◌, cond, ◌&&◌, ◌⊎◌, ◌≢◌, ◌↔◌, ltb, length, get_or}
use Rattle.std.proofs.Math.Path.{refl, sym, subst⁻¹}
use Rattle.std.proofs.Common.{◌∙◌, subst, inl, inr, ltb→lt, lt→ltb}
use Prim.Native.Nat.{ℕ, zero, suc, ◌+◌, ◌*◌, ◌-◌, ◌/◌, ◌%◌, ◌<◌}
use native.Mathlib.Omega.{arith}
use Rattle.std.proofs.Math.Dec.{T, eqb, eqb→eq}
use Rattle.laws.specs.Test.{eq_or, and_l, and_r, and_i, or-e, or_l, or_r}
use Rattle.laws.specs.Test.{cond_true, cond_false, cond_of, eq→eqb, all_below, all_of, all_from}
use Rattle.laws.specs.Test.{from_of}
use Rattle.entry.specs.Word.{address_of, link_of, link_address}
use Rattle.pool.specs.State.{St, tables, word_at, number_at, used_in}
use Rattle.pool.specs.Number.{root_number, level_of, parent_of, slot_of}
use Rattle.pool.specs.Refuse.{Shaped}
use Rattle.pool.specs.Sound.{flag_set, leafb, namesb, hangsb, tableb, linkb, refersb, slotb, soundb, names_says, says_names, wordb}
use Rattle.pool.specs.Sound.{slot_place, sound_table, sound_slot}
use Rattle.checker_ledger.specs.Hang.{hangs_to, hangs_of}
use Rattle.pool.specs.declared.Handle.{Handle}
use Rattle.theory_forest.specs.Sound.{TableWord}
use Rattle.theory_sound.specs.Clauses.{InUse, level_at, HangsIn, LinksTo, LeafWord, SoundPool}
use Rattle.theory_sound.proofs.Generic.{leaf_says, says_leaf, slot_names, slot_parent, slot_slot, names_slot}

-- ---- the tests, one by one, both ways

refers_says : (y w : ℕ) → T (refersb y w) → TableWord (level_of y) w
unfolding refersb
refers_says y w t =
    (ltb→lt (level_of y) 3 (and_l (ltb (level_of y) 3) (eqb (w % 4) 3) t), eqb→eq (w % 4) 3 (and_r (ltb (level_of y) 3) (eqb (w % 4) 3) t))

says_refers : (y w : ℕ) → TableWord (level_of y) w → T (refersb y w)
unfolding refersb
says_refers y w table = and_i (ltb (level_of y) 3) (eqb (w % 4) 3) (lt→ltb (level_of y) 3 table.0) (eq→eqb (w % 4) 3 table.1)

module _ (h : Handle) (s : St) where
  hangs_says : (k : ℕ) → T (hangsb h.base.0 s k) → HangsIn h s k (parent_of (number_at s k)) (slot_of (number_at s k))
  hangs_says k t =
      let x = number_at s k in
      let g = hangs_to h.base.0 s k t in
      record { names = names_slot x (names_says x g.named); used = g.parent; higher = omega (arith, g.deeper); refers = g.says }

  says_hangs : (k p i : ℕ) → HangsIn h s k p i → T (hangsb h.base.0 s k)
  says_hangs k p i hangs =
      let x = number_at s k in
      let from : parent_of x ≡ p = slot_parent hangs.names in
      let at : slot_of x ≡ i = slot_slot hangs.names in
      hangs_of h.base.0 s k
      (record {
        named = says_names x (slot_names hangs.names);
        deeper = subst⁻¹ (λ (q : ℕ). level_of x ≡ suc (level_at s q)) from (omega (arith, hangs.higher));
        parent = subst⁻¹ (λ (q : ℕ). InUse s q) from hangs.used;
        says = rw (from, at) hangs.refers;
      })

  link_says : (k i w : ℕ) → w ≡ word_at s k i → T (linkb h.base.0 s k i w) → (c : ℕ) × LinksTo h s k i c
  unfolding linkb
  link_says k i w is t =
      let base = h.base.0 in
      let c = (address_of w - base) / 4096 in
      let z = number_at s c in
      let word = eqb w (link_of base c) in
      let over = eqb (parent_of z) k in
      let at = eqb (slot_of z) i in
      let t₁ = and_r word (namesb z && (over && at)) t in
      let t₂ = and_r (namesb z) (over && at) t₁ in
      let names = names_says z (and_l (namesb z) (over && at) t₁) in
      let from = eqb→eq (parent_of z) k (and_l over at t₂) in
      let slot = eqb→eq (slot_of z) i (and_r over at t₂) in (
        c,
        record {
          inside = used_in s c (omega (arith, names));
          says = sym is ∙ eqb→eq w (link_of base c) (and_l word (namesb z && (over && at)) t);
          names = rw (← from, ← slot) (names_slot z names);
        },
      )

  says_link : Shaped h s → (k i c w : ℕ) → w ≡ word_at s k i → LinksTo h s k i c → T (linkb h.base.0 s k i w)
  unfolding linkb link_of
  says_link shape k i c w is links =
      let base = h.base.0 in
      let z = number_at s c in
      let address = link_address base c shape.paged (omega (arith, links.inside, shape.ended)) in
      let here : (address_of w - base) / 4096 ≡ c = rw (is ∙ links.says) (omega (arith, address)) in
      rw here
      (and_i (eqb w (link_of base c)) _ (eq→eqb w (link_of base c) (is ∙ links.says))
      (and_i (namesb z) _ (says_names z (slot_names links.names))
      (and_i (eqb (parent_of z) k) (eqb (slot_of z) i) (eq→eqb (parent_of z) k (slot_parent links.names))
      (eq→eqb (slot_of z) i (slot_slot links.names)))))

  -- ---- one slot

  abbrev Slot : ℕ → ℕ → Type 0
  Slot k i = T (slotb h s k i (word_at s k i))

  slot_zero : (k i : ℕ) → Slot k i → number_at s k ≡ 0 → word_at s k i ≡ 0
  unfolding slotb
  slot_zero k i t none = eqb→eq (word_at s k i) 0 (cond_true (eqb (number_at s k) 0) _ _ (eq→eqb (number_at s k) 0 none) t)

  slot_used : (k i : ℕ) → Slot k i → InUse s k
      → T
      (cond (refersb (number_at s k) (word_at s k i)) (linkb h.base.0 s k i (word_at s k i))
      (leafb (flag_set h) (level_at s k) (word_at s k i)))
  unfolding slotb
  slot_used k i t used = cond_false (eqb (number_at s k) 0) _ _ (λ z. let e : number_at s k
      ≡ 0 = eqb→eq (number_at s k) 0 z in omega arith) t

  slot_link : (k i : ℕ) → Slot k i → InUse s k → TableWord (level_at s k) (word_at s k i) → (c : ℕ) × LinksTo h s k i c
  slot_link k i t used table =
      link_says k i (word_at s k i) refl
      (cond_true (refersb (number_at s k) (word_at s k i)) _ _ (says_refers (number_at s k) (word_at s k i) table) (slot_used k i t used))

  slot_leaf : (k i : ℕ) → Slot k i → InUse s k → ¬ (TableWord (level_at s k) (word_at s k i))
      → LeafWord (flag_set h) (level_at s k) (word_at s k i)
  slot_leaf k i t used other =
      leaf_says (flag_set h) (level_at s k) (word_at s k i) (omega arith)
      (cond_false (refersb (number_at s k) (word_at s k i)) _ _ (λ r. other (refers_says (number_at s k) (word_at s k i) r))
      (slot_used k i t used))

  says_slot : Shaped h s → SoundPool h s → (k i : ℕ) → k < tables s → i < 512 → Slot k i
  unfolding slotb
  says_slot shape P k i below inside =
      let y = number_at s k in
      let w = word_at s k i in
      cond_of (eqb y 0) (eqb w 0) _ (λ z. eq→eqb w 0 (P.free k i below inside (eqb→eq y 0 z)))
      (λ nz.
      let used : InUse s k = pos y nz in
      cond_of (refersb y w) (linkb h.base.0 s k i w) (leafb (flag_set h) (level_of y) w)
      (λ r. let to = P.links k i inside used (refers_says y w r) in says_link shape k i to.0 w refl to.1)
      (λ nr. says_leaf (flag_set h) (level_of y) w (omega arith) (P.leaves k i inside used (λ table. nr (says_refers y w table)))))
    where
      pos : (y : ℕ) → ¬ (T (eqb y 0)) → 0 < y
      pos zero nz = absurd (nz tt)
      pos (suc y) nz = omega arith

-- ---- the whole

module _ {h : Handle} {s : St} (shape : Shaped h s) where
  pub decide_sound : T (soundb h s) → SoundPool h s
  unfolding soundb tableb
  decide_sound t = record {
    sized = shape.sized;
    root = eqb→eq (number_at s 0) (root_number h.level) (sound_table h s t 0 (omega (arith, shape.some)));
    hangs = λ k other used. (parent_of (number_at s k), slot_of (number_at s k), hang k other used);
    links = λ k i inside used. slot_link h s k i (sound_slot h s t shape.sized k i (used_in s k used) inside) used;
    leaves = λ k i inside used. slot_leaf h s k i (sound_slot h s t shape.sized k i (used_in s k used) inside) used;
    free = λ k i below inside none. slot_zero h s k i (sound_slot h s t shape.sized k i below inside) none;
  }
    where
      hang : (k : ℕ) → k ≢ 0 → InUse s k → HangsIn h s k (parent_of (number_at s k)) (slot_of (number_at s k))
      hang zero other used = absurd (other refl)
      hang (suc k) other used =
          go (or-e (eqb (number_at s (suc k)) 0) (hangsb h.base.0 s (suc k)) (sound_table h s t (suc k) (used_in s (suc k) used)))
        where
          go : T (eqb (number_at s (suc k)) 0) ⊎ T (hangsb h.base.0 s (suc k))
              → HangsIn h s (suc k) (parent_of (number_at s (suc k))) (slot_of (number_at s (suc k)))
          go (inl z) = absurd (omega (arith, used, eqb→eq (number_at s (suc k)) 0 z))
          go (inr hangs) = hangs_says h s (suc k) hangs

  pub sound_decide : SoundPool h s → T (soundb h s)
  unfolding soundb tableb
  sound_decide P =
      and_i (all_below (tables s) (tableb h s)) (all_from 0 s.words (wordb h s))
      (all_of (tables s) (tableb h s) (λ k below. table k))
      (from_of 0 s.words (wordb h s) at)
    where
      table : (k : ℕ) → T (tableb h s k)
      table zero = eq→eqb (number_at s 0) (root_number h.level) P.root
      table (suc k) = go (eq_or (number_at s (suc k)) 0)
        where
          go : (number_at s (suc k) ≡ 0) ⊎ (number_at s (suc k) ≢ 0) → T (tableb h s (suc k))
          go (inl free) = or_l (eqb (number_at s (suc k)) 0) (hangsb h.base.0 s (suc k)) (eq→eqb (number_at s (suc k)) 0 free)
          go (inr used) =
              let at = P.hangs (suc k) (λ e. omega arith) (omega arith) in
              or_r (eqb (number_at s (suc k)) 0) (hangsb h.base.0 s (suc k)) (says_hangs h s (suc k) at.0 at.1 at.2)

      at : (j : ℕ) → j < length s.words → T (wordb h s (0 + j) (get_or s.words j 0))
      at j below =
          let k = j / 512 in
          let i = j % 512 in
          let inside : i < 512 = omega arith in
          let e : 512 * k + i ≡ j = omega arith in
          subst (λ (x : ℕ). T (wordb h s (0 + x) (get_or s.words x 0))) e
          (subst⁻¹ T (slot_place h s k i inside) (says_slot h s shape P k i (omega (arith, shape.sized)) inside))

  -- the pool check accepts only a sound pool, and every sound pool
  pub sound_exactly : T (soundb h s) ↔ SoundPool h s
  sound_exactly = (decide_sound, sound_decide)
