-- Theorems about the definitions of specs/SoundCount.
use Rattle.std.specs.Prelude.{◌≡◌, cond, ◌&&◌, ◌⊎◌, ltb}
use Rattle.std.proofs.Math.Path.{ap, subst}
use Rattle.std.proofs.Common.{◌∙◌, inl, inr}
use Prim.Native.Nat.{ℕ, zero, suc, ◌+◌, ◌-◌, ◌/◌, ◌%◌, ◌≤◌, ◌<◌}
use native.Mathlib.Omega.{arith}
use Rattle.std.proofs.Math.Dec.{T, eqb, leb, eqb→eq, leb→le, lt→ltb}
use Rattle.laws.specs.Test.{and_l, and_r, and_i, or-e, cond_true, cond_false, eq→eqb}
use Rattle.entry.specs.Word.{address_of, link_of, only, plain_flags}
use Rattle.entry.specs.Sub.{sub_of, sub_found}
use Rattle.entry.specs.declared.Sub.TheVariants.{Table}
use Rattle.pool.specs.State.{St, tables, word_at, number_at}
use Rattle.pool.specs.Number.{root_number, level_of, parent_of, slot_of}
use Rattle.pool.specs.Refuse.{Shaped}
use Rattle.pool.specs.Sound.{flag_set, fits, leafb, namesb, hangsb, tableb, linkb, refersb, slotb, soundb, sound_table, sound_slot}
use Rattle.pool.specs.declared.Handle.{Handle}
use Rattle.map_rules.specs.declared.Map.{Map}
use Rattle.entry.specs.Sub.{sub_some}
use Rattle.map_count_spec.specs.Needed.{needed}
use Rattle.map_count_spec.specs.Closed.{closed}
use Rattle.map_count_spec.specs.Missed.{Lawful}
use Rattle.map_count_spec.specs.Count.{LawfulTable}
use Rattle.map_count_spec.proofs.Count.{closed-table}
use Rattle.map_count_spec.specs.SoundCount.{fits_lawful}

-- table k is in use, and stands at this level
record UsedAt (s : St) (k level : ℕ) : Type 0 where
  inside : k < tables s
  used : number_at s k ≡ 0 → ⊥
  at : level_of (number_at s k) ≡ level

module _ (h : Handle) (s : St) (shape : Shaped h s) (sound : T (soundb h s)) where
  -- the word of a used table, past the test for a free one
  used_slot : (k level i : ℕ) → UsedAt s k level → i < 512
      → T
      (cond (refersb (number_at s k) (word_at s k i)) (linkb h.base.0 s k i (word_at s k i))
      (leafb (flag_set h) (level_of (number_at s k)) (word_at s k i)))
  unfolding slotb
  used_slot k level i u b =
      cond_false (eqb (number_at s k) 0) (eqb (word_at s k i) 0) _ (λ t. u.used (eqb→eq (number_at s k) 0 t))
      (sound_slot h s sound shape.sized k i u.inside b)

  -- a leaf is lawful
  leaf_lawful : (k level i : ℕ) → level < 3 → UsedAt s k level → i < 512 → (word_at s k i % 4 ≡ 3 → ⊥) → Lawful level (word_at s k i)
  unfolding refersb leafb
  leaf_lawful k level i l u b plain =
      let w = word_at s k i in
      let t = cond_false (refersb (number_at s k) w) (linkb h.base.0 s k i w) (leafb (flag_set h) (level_of (number_at s k)) w)
      (λ r. plain (eqb→eq (w % 4) 3 (and_r (ltb (level_of (number_at s k)) 3) (eqb (w % 4) 3) r))) (used_slot k level i u b) in
      fits_lawful level w l
      (subst (λ (n : ℕ). T (fits n w)) u.at (and_r (only (flag_set h) (plain_flags w)) (fits (level_of (number_at s k)) w) t))

  -- a table word names a table whose number names its slot
  record Named (k j : ℕ) : Type 0 where
    low : 4 ≤ number_at s j % 8
    some : 1 ≤ number_at s j / 8
    parent : parent_of (number_at s j) ≡ k

  link_named : (k level i j : ℕ) → UsedAt s k level → i < 512 → sub_of h.base.0 (tables s) level (word_at s k i) ≡ Table j → Named k j
  unfolding refersb linkb namesb
  link_named k level i j u b e =
      let w = word_at s k i in
      let f = sub_found h.base.0 (tables s) level w j e in
      let y = number_at s k in
      let high : T (ltb (level_of y) 3) = lt→ltb (level_of y) 3 (omega (arith, u.at, f.high)) in
      let t = cond_true (refersb y w) (linkb h.base.0 s k i w) (leafb (flag_set h) (level_of y) w)
      (and_i (ltb (level_of y) 3) (eqb (w % 4) 3) high (eq→eqb (w % 4) 3 f.low)) (used_slot k level i u b) in
      go ((address_of w - h.base.0) / 4096) f.place t
    where
      go : (c : ℕ) → c ≡ j
          → T
          (eqb (word_at s k i) (link_of h.base.0 c)
          && ((leb 4 (number_at s c % 8) && leb 1 (number_at s c / 8))
          && (eqb (parent_of (number_at s c)) k && eqb (slot_of (number_at s c)) i)))
          → Named k j
      go c q t =
          let z = number_at s c in
          let a = eqb (word_at s k i) (link_of h.base.0 c) in
          let n = leb 4 (z % 8) && leb 1 (z / 8) in
          let p = eqb (parent_of z) k in
          let d = eqb (slot_of z) i in
          let t₁ = and_r a (n && (p && d)) t in
          let names = and_l n (p && d) t₁ in
          subst (λ (x : ℕ). Named k x) q
          (record {
            low = leb→le 4 (z % 8) (and_l (leb 4 (z % 8)) (leb 1 (z / 8)) names);
            some = leb→le 1 (z / 8) (and_r (leb 4 (z % 8)) (leb 1 (z / 8)) names);
            parent = eqb→eq (parent_of z) k (and_l p d (and_r n (p && d) t₁));
          })

  -- a table that a link names is in use, one level down
  named_used : (k level j : ℕ) → UsedAt s k level → j < tables s → Named k j → T (tableb h s j) → UsedAt s j (level + 1)
  unfolding tableb root_number hangsb
  named_used k level zero u l n t =
      absurd (let e = eqb→eq (number_at s 0) (4 + h.level) t in omega (arith, n.some, shape.level))
  named_used k level (suc j) u l n t = go (or-e (eqb (number_at s (suc j)) 0) (hangsb h.base.0 s (suc j)) t)
    where
      go : T (eqb (number_at s (suc j)) 0) ⊎ T (hangsb h.base.0 s (suc j)) → UsedAt s (suc j) (level + 1)
      go (inl z) = absurd (let e = eqb→eq (number_at s (suc j)) 0 z in omega (arith, n.low))
      go (inr g) =
          let y = number_at s (parent_of (number_at s (suc j))) in
          let r = and_r (namesb (number_at s (suc j)))
          (eqb (level_of (number_at s (suc j))) (suc (level_of y))
          && (ltb 0 y
          && eqb (word_at s (parent_of (number_at s (suc j))) (slot_of (number_at s (suc j)))) (link_of h.base.0 (suc j)))) g in
          let e = eqb→eq (level_of (number_at s (suc j))) (suc (level_of y))
          (and_l (eqb (level_of (number_at s (suc j))) (suc (level_of y)))
          (ltb 0 y && eqb (word_at s (parent_of (number_at s (suc j))) (slot_of (number_at s (suc j)))) (link_of h.base.0 (suc j)))
          r) in
          let up : level_of y ≡ level = ap (λ (p : ℕ). level_of (number_at s p)) n.parent ∙ u.at in
          record { inside = l; used = (λ z. omega (arith, n.low)); at = omega arith }

  lawful_from : (depth k : ℕ) → depth ≤ 3 → UsedAt s k (3 - depth) → LawfulTable depth h s k
  unfolding LawfulTable
  lawful_from zero k l u = 0
  lawful_from (suc depth) k l u = λ i b.
      let low : 3 - suc depth < 3 = omega arith in (
        (λ e. leaf_lawful k (3 - suc depth) i low u b (λ q. sub_some h.base.0 (tables s) (3 - suc depth) (word_at s k i) low q e)),
        (λ j e.
            let f = sub_found h.base.0 (tables s) (3 - suc depth) (word_at s k i) j e in
            let next : 3 - suc depth + 1 ≡ 3 - depth = omega arith in
            lawful_from depth j (omega arith)
            (subst (λ (n : ℕ). UsedAt s j n) next
            (named_used k (3 - suc depth) j u f.below (link_named k (3 - suc depth) i j u b e)
            (sound_table h s sound j f.below)))),
      )

  -- the root and all below it
  pub sound_lawful : LawfulTable (3 - h.level) h s 0
  unfolding tableb root_number
  sound_lawful =
      let top = shape.level in
      let e : number_at s 0 ≡ 4 + h.level = eqb→eq (number_at s 0) (4 + h.level) (sound_table h s sound 0 shape.some) in
      lawful_from (3 - h.level) 0 (omega arith) (record { inside = shape.some; used = (λ z. omega arith); at = omega arith })

  -- refusal 9's count, as the code makes it, is document 01's
  pub closed-needed : (m : Map) → closed (3 - h.level) h s 0 m ≡ needed (3 - h.level) h s 0 m
  closed-needed m = closed-table (3 - h.level) h s 0 m (omega arith) sound_lawful
