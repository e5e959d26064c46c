-- When a pool is sound (document 01, "Pool and ledger"), as a test that computes on the lists, clause by clause.
use Rattle.std.specs.Prelude.{◌≡◌, Bool, not, cond, ◌&&◌, ◌||◌, ℕ, zero, suc, ◌+◌, ◌*◌, ◌-◌, ◌/◌, ◌%◌, ◌<◌, eqb, leb, ltb, length}
use Rattle.std.proofs.Common.{ap, ◌∙◌, arith, leb→le, le→leb}
use Rattle.std.proofs.Math.Path.{subst}
use Rattle.std.proofs.Math.Dec.{T}
use Rattle.laws.specs.Size.{size_at}
use Rattle.laws.specs.Test.{and_l, and_r, and_i, all_below, all_to, all_from, from_to}
use Rattle.entry.specs.Word.{address_of, link_of, only, el1_flags, plain_flags}
use Rattle.pool.specs.State.{St, tables, word_at, number_at}
use Rattle.pool.specs.Number.{root_number, level_of, parent_of, slot_of, Names}
use Rattle.pool.specs.declared.Handle.{Handle}

-- the flags that may stand in the tables of this handle
unfoldable pub flag_set : Handle → ℕ
flag_set h = el1_flags

-- what a word that is no table must be at its level: at level 0 it isn't valid, bit 1 is clear and its address is 0; at levels 1 and 2 bit
-- 1 is clear and the address is a multiple of the entry's size; at level 3 a valid word has bit 1
unfoldable pub fits : ℕ → ℕ → Bool
fits zero w = eqb (w % 4) 0 && eqb (address_of w) 0
fits (suc zero) w = ltb (w % 4) 2 && eqb (address_of w % size_at 1) 0
fits (suc (suc zero)) w = ltb (w % 4) 2 && eqb (address_of w % size_at 2) 0
fits (suc (suc (suc l))) w = not (eqb (w % 4) 1)

-- a word that is no table fits its level, and has flags only from the set, bit 1 apart
unfoldable pub leafb : ℕ → ℕ → ℕ → Bool
leafb set level w = only set (plain_flags w) && fits level w

-- the number x names a slot at all
unfoldable pub namesb : ℕ → Bool
namesb x = leb 4 (x % 8) && leb 1 (x / 8)

-- table k's number names a slot of a used table one level higher in the tree, and that slot refers to it
unfoldable pub hangsb : ℕ → St → ℕ → Bool
hangsb base s k =
    let x = number_at s k in
    let y = number_at s (parent_of x) in
    namesb x && (eqb (level_of x) (suc (level_of y)) && (ltb 0 y && eqb (word_at s (parent_of x) (slot_of x)) (link_of base k)))

-- the ledger has the root's number at 0; every other table is free or hangs
unfoldable pub tableb : Handle → St → ℕ → Bool
tableb h s zero = eqb (number_at s 0) (root_number h.level)
tableb h s (suc k) = eqb (number_at s (suc k)) 0 || hangsb h.base.0 s (suc k)

-- the word w in slot i of table k is exactly a pool table's address + 3, and that table's number names this slot
unfoldable pub linkb : ℕ → St → ℕ → ℕ → ℕ → Bool
linkb base s k i w =
    let c = (address_of w - base) / 4096 in
    let z = number_at s c in
    eqb w (link_of base c) && (namesb z && (eqb (parent_of z) k && eqb (slot_of z) i))

-- a table word: bits 0 and 1 set in a table of levels 0 to 2 (of a used table, whose number is y)
unfoldable pub refersb : ℕ → ℕ → Bool
refersb y w = ltb (level_of y) 3 && eqb (w % 4) 3

-- the word w in slot i of table k: free tables are all zero, a table word is a link, every other word a leaf
unfoldable pub slotb : Handle → St → ℕ → ℕ → ℕ → Bool
slotb h s k i w =
    let y = number_at s k in
    cond (eqb y 0) (eqb w 0) (cond (refersb y w) (linkb h.base.0 s k i w) (leafb (flag_set h) (level_of y) w))

-- the pool is sound
unfoldable pub soundb : Handle → St → Bool
soundb h s = all_below (tables s) (tableb h s) && all_from 0 s.words (λ x w. slotb h s (x / 512) (x % 512) w)

-- the test of a number is what it says

pub names_says : (x : ℕ) → T (namesb x) → Names x
unfolding namesb
names_says x t =
    record {
      kind = leb→le 4 (x % 8) (and_l (leb 4 (x % 8)) (leb 1 (x / 8)) t);
      some = leb→le 1 (x / 8) (and_r (leb 4 (x % 8)) (leb 1 (x / 8)) t);
    }

pub says_names : (x : ℕ) → Names x → T (namesb x)
unfolding namesb
says_names x names = and_i (leb 4 (x % 8)) (leb 1 (x / 8)) (le→leb 4 (x % 8) names.kind) (le→leb 1 (x / 8) names.some)

-- ---- what the tables and slots of a sound pool pass

module _ (h : Handle) (s : St) where
  abbrev pub wordb : ℕ → ℕ → Bool
  wordb x w = slotb h s (x / 512) (x % 512) w

  -- slot i of table k is word 512·k + i
  pub slot_place : (k i : ℕ) → i < 512 → wordb (0 + (512 * k + i)) (word_at s k i) ≡ slotb h s k i (word_at s k i)
  slot_place k i inside =
      let over : (0 + (512 * k + i)) / 512 ≡ k = omega arith in
      let at : (0 + (512 * k + i)) % 512 ≡ i = omega arith in
      ap (λ (q : ℕ). slotb h s q ((0 + (512 * k + i)) % 512) (word_at s k i)) over ∙ ap (λ (q : ℕ). slotb h s k q (word_at s k i)) at

  pub sound_table : T (soundb h s) → (k : ℕ) → k < tables s → T (tableb h s k)
  unfolding soundb
  sound_table t k below = all_to (tables s) (tableb h s) (and_l (all_below (tables s) (tableb h s)) (all_from 0 s.words wordb) t) k below

  pub sound_slot : T (soundb h s) → length s.words ≡ 512 * tables s → (k i : ℕ) → k < tables s → i < 512
      → T (slotb h s k i (word_at s k i))
  unfolding soundb
  sound_slot t sized k i below inside =
      subst T (slot_place k i inside)
      (from_to 0 s.words wordb (and_r (all_below (tables s) (tableb h s)) (all_from 0 s.words wordb) t) (512 * k + i)
      (omega (arith, sized)))
