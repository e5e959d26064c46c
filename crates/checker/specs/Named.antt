-- What the soundness test says of one slot and of one table: a word that passes, a table that hangs, a link, and the slot that a table's
-- number names.
use Rattle.std.specs.Prelude.{◌≡◌, Bool, ◌&&◌, ◌⊎◌, ◌≢◌, ℕ, ◌+◌, ◌*◌, ◌-◌, ◌/◌, ◌%◌, ◌<◌}
use Rattle.std.proofs.Math.Bool.{true, false, cond}
use Rattle.std.proofs.Common.{inl, inr, arith, eq-eqb, ne_eqb, lt-ltb}
use Rattle.std.proofs.Math.Dec.{T, eqb, eqb→eq, eqb_refl}
use Rattle.laws.specs.Sum.{tally, tally_yes, tally-says}
use Rattle.laws.specs.Test.{eq_or, and_l, and_r, and_i, eq→eqb}
use Rattle.entry.specs.Word.{address_of, link_of}
use Rattle.pool.specs.State.{St, tables, number_at, used_in}
use Rattle.pool.specs.Number.{level_of, parent_of, slot_of}
use Rattle.pool.specs.Sound.{flag_set, leafb, namesb, linkb, refersb, slotb, names_says}
use Rattle.checker_words.specs.Words.{passesb, link_count}
use Rattle.pool.specs.declared.Handle.{Handle}
use Rattle.checker_ledger.specs.Hang.{Named}

-- ---- a slot's test is the test of a run's word, and that a table word is a link

module _ (h : Handle) (s : St) (k i w : ℕ) where
  pub slot_passes : T (slotb h s k i w) → T (passesb (flag_set h) (number_at s k) w)
  unfolding slotb passesb
  slot_passes t = go (eqb (number_at s k) 0) (refersb (number_at s k) w) t
    where
      go : (a b : Bool) → T (cond a (eqb w 0) (cond b (linkb h.base.0 s k i w) (leafb (flag_set h) (level_of (number_at s k)) w)))
          → T (cond a (eqb w 0) (cond b true (leafb (flag_set h) (level_of (number_at s k)) w)))
      go true b t = t
      go false true t = tt
      go false false t = t

  pub slot_links : T (slotb h s k i w) → 0 < link_count (number_at s k) w → T (linkb h.base.0 s k i w)
  unfolding slotb link_count
  slot_links t l = go (eqb (number_at s k) 0) (refersb (number_at s k) w) t l
    where
      go : (a b : Bool) → T (cond a (eqb w 0) (cond b (linkb h.base.0 s k i w) (leafb (flag_set h) (level_of (number_at s k)) w)))
          → 0 < cond a 0 (cond b 1 0) → T (linkb h.base.0 s k i w)
      go true b t l = absurd (omega arith)
      go false true t l = t
      go false false t l = absurd (omega arith)

  pub slot_of_lem : T (passesb (flag_set h) (number_at s k) w) → (0 < link_count (number_at s k) w → T (linkb h.base.0 s k i w))
      → T (slotb h s k i w)
  unfolding slotb passesb link_count
  slot_of_lem t f = go (eqb (number_at s k) 0) (refersb (number_at s k) w) t f
    where
      go : (a b : Bool) → T (cond a (eqb w 0) (cond b true (leafb (flag_set h) (level_of (number_at s k)) w)))
          → (0 < cond a 0 (cond b 1 0) → T (linkb h.base.0 s k i w))
          → T (cond a (eqb w 0) (cond b (linkb h.base.0 s k i w) (leafb (flag_set h) (level_of (number_at s k)) w)))
      go true b t f = t
      go false true t f = f (omega arith)
      go false false t f = t

-- a word counts for 1 where it is a table word of a used table
pub count-one : (y w : ℕ) → 0 < y → level_of y < 3 → w % 4 ≡ 3 → link_count y w ≡ 1
unfolding link_count refersb
count-one y w u l e = rw (ne_eqb y 0 (λ z. omega arith), lt-ltb (level_of y) 3 l, eq-eqb (w % 4) 3 e)

-- ---- tables whose numbers name a slot

-- where that slot stands in the pool's words
abbrev pub place : St → ℕ → ℕ
place s k = 512 * parent_of (number_at s k) + slot_of (number_at s k)

pub named_in : (s : St) (k : ℕ) → Named s k → k < tables s
named_in s k t = used_in s k (omega (arith, names_says (number_at s k) t))

-- ---- a link: slot i of table p refers to a table k whose number names it

pub record Links (s : St) (p i k : ℕ) : Type 0 where
  pub named : Named s k
  pub from : parent_of (number_at s k) ≡ p
  pub slot : slot_of (number_at s k) ≡ i

pub links_to : (base : ℕ) (s : St) (p i w : ℕ) → T (linkb base s p i w) → (k : ℕ) × Links s p i k
unfolding linkb
links_to base s p i w t =
    let k = (address_of w - base) / 4096 in
    let z = number_at s k in
    let from = eqb (parent_of z) p in
    let slot = eqb (slot_of z) i in
    let u = and_r (eqb w (link_of base k)) (namesb z && (from && slot)) t in
    let v = and_r (namesb z) (from && slot) u in (
      k,
      record {
        named = and_l (namesb z) (from && slot) u;
        from = eqb→eq (parent_of z) p (and_l from slot v);
        slot = eqb→eq (slot_of z) i (and_r from slot v);
      },
    )

pub links_of : (base : ℕ) (s : St) (p i k : ℕ) → (address_of (link_of base k) - base) / 4096 ≡ k → Links s p i k
    → T (linkb base s p i (link_of base k))
unfolding linkb
links_of base s p i k back l =
    let z = number_at s k in
    let from = eqb (parent_of z) p in
    let slot = eqb (slot_of z) i in
    rw back (and_i (eqb (link_of base k) (link_of base k)) (namesb z && (from && slot)) (eqb_refl (link_of base k))
    (and_i (namesb z) (from && slot) l.named (and_i from slot (eq→eqb (parent_of z) p l.from) (eq→eqb (slot_of z) i l.slot))))

-- ---- 1 where the number of table k names the slot at x

unfoldable pub named_at : St → ℕ → ℕ → ℕ
named_at s x k = tally (namesb (number_at s k) && eqb (place s k) x)

module _ (s : St) (x k : ℕ) where
  pub named_yes : Named s k → place s k ≡ x → named_at s x k ≡ 1
  unfolding named_at
  named_yes t e =
      tally_yes (namesb (number_at s k) && eqb (place s k) x) (and_i (namesb (number_at s k)) (eqb (place s k) x) t (eq→eqb (place s k) x e))

  pub named_says : 0 < named_at s x k → Named s k × (place s k ≡ x)
  unfolding named_at
  named_says l =
      let t = tally-says (namesb (number_at s k) && eqb (place s k) x) l in
      (and_l (namesb (number_at s k)) (eqb (place s k) x) t, eqb→eq (place s k) x (and_r (namesb (number_at s k)) (eqb (place s k) x) t))

  pub named_no : ¬ (Named s k × (place s k ≡ x)) → named_at s x k ≡ 0
  named_no n = go (eq_or (named_at s x k) 0)
    where
      go : (named_at s x k ≡ 0) ⊎ (named_at s x k ≢ 0) → named_at s x k ≡ 0
      go (inl e) = e
      go (inr e) = absurd (n (named_says (omega arith)))
