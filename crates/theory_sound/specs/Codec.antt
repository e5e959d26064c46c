-- The codec of a handle: document 01's ledger numbers, its one root, its leaves and its table words; and a pool's lists read as a state.
use Rattle.std.specs.Prelude.{◌≡◌, true, false, cond, ◌⊎◌, ◌≢◌, ℕ, zero, suc, ◌-◌, ◌/◌, ◌%◌, ◌≤◌, ◌<◌, T, eqb, ltb}
use Rattle.std.proofs.Common.{◌∙◌, inl, inr, arith, lt-ltb, le-ltb}
use Rattle.laws.specs.Size.{size_at}
use Rattle.laws.specs.Test.{eqb_cases, le_or}
use Rattle.entry.specs.Word.{only, link_of, address_of, plain_flags}
use Rattle.pool.specs.State.{St, word_at, number_at}
use Rattle.pool.specs.Number.{root_number, number_of, level_of, parent_of, slot_of, Names, parent_back, slot_back, number_names, level_back}
use Rattle.pool.specs.Refuse.{Shaped}
use Rattle.pool.specs.Sound.{flag_set, fits, leafb}
use Rattle.pool.specs.declared.Handle.{Handle}
use Rattle.theory_forest.specs.Tree.{Tree, tree_at}
use Rattle.theory_forest.specs.Sound.{State, Codec}

-- what refusal 1 asks of the handle alone
pub record Placed (h : Handle) : Type 0 where
  pub paged : h.base.0 % 4096 ≡ 0
  pub level : h.level ≤ 3

pub shaped_placed : {h : Handle} {s : St} → Shaped h s → Placed h
shaped_placed shape = record { paged = shape.paged; level = shape.level }

-- ---- how a ledger number is read

-- the table that the number x of table k names; a number that names no slot is read as k itself
unfoldable pub over_of : ℕ → ℕ → ℕ
over_of k x = cond (eqb (x / 8) 0) k (parent_of x)

pub over_self : (k x : ℕ) → x / 8 ≡ 0 → over_of k x ≡ k
unfolding over_of
over_self k x z = rw z

pub over_names : (k x : ℕ) → Names x → over_of k x ≡ parent_of x
unfolding over_of
over_names k x names = go (eqb_cases (x / 8) 0)
  where
    go : ((x / 8 ≡ 0) × (eqb (x / 8) 0 ≡ true)) ⊎ ((x / 8 ≢ 0) × (eqb (x / 8) 0 ≡ false)) → over_of k x ≡ parent_of x
    go (inl t) = absurd (omega arith)
    go (inr t) = rw t.1

pub number_pos : (p level i : ℕ) → 0 < number_of p level i
unfolding number_of
number_pos p level i = omega arith

-- ---- table words and leaves

-- the table that a table word names
unfoldable pub child_of : ℕ → ℕ → ℕ
child_of base w = (w - base) / 4096

pub child_link : (base c : ℕ) → child_of base (link_of base c) ≡ c
unfolding child_of link_of
child_link base c = omega arith

pub link_both : (base c : ℕ) → base % 4096 ≡ 0 → link_of base c % 4 ≡ 3
unfolding link_of
link_both base c paged = omega arith

pub zero_leaf_lem : (set level : ℕ) → T (leafb set level 0)
unfolding leafb fits only plain_flags address_of size_at
zero_leaf_lem set zero = tt
zero_leaf_lem set (suc zero) = tt
zero_leaf_lem set (suc (suc zero)) = tt
zero_leaf_lem set (suc (suc (suc l))) = tt

-- ---- the codec

-- the root's number is in use, and names no slot
pub root_self : (h : Handle) → h.level ≤ 3 → (k x : ℕ) → x ≡ root_number h.level → over_of k x ≡ k
unfolding root_number
root_self h low k x e = over_self k x (omega arith)

pub root_unnamed : (h : Handle) → h.level ≤ 3 → (x : ℕ) → x ≡ root_number h.level → ¬ (Names x)
unfolding root_number
root_unnamed h low x e names = omega arith

pub root_pos : (h : Handle) (x : ℕ) → x ≡ root_number h.level → 0 < x
unfolding root_number
root_pos h x e = omega arith

-- The codec knows 32,768 tables: more than the limit on n, so that it does not change when that limit is raised.
abbrev pub codec_of : (h : Handle) → Placed h → Codec
codec_of h placed = record {
  level = level_of;
  over = over_of;
  slot = slot_of;
  Well = λ x y. Names x;
  Root = λ k x. (k ≡ 0) × (x ≡ root_number h.level);
  Leaf = λ x w. T (leafb (flag_set h) (level_of x) w);
  link = link_of h.base.0;
  child = child_of h.base.0;
  limit = 32768;
  number = λ x p i. number_of p (suc (level_of x)) i;
  level_le = λ x. omega arith;
  slot_lt = λ x. omega arith;
  root_over = λ k x root. root_self h placed.level k x root.1;
  root_used = λ k x root. root_pos h x root.1;
  zero_leaf_lem = λ x. zero_leaf_lem (flag_set h) (level_of x);
  link_table = λ c. link_both h.base.0 c placed.paged;
  child_link = λ c. child_link h.base.0 c;
  number-used = λ x p i. number_pos p (suc (level_of x)) i;
  number_well = λ x p i high small inside. number_names p (suc (level_of x)) i (omega arith) inside;
  number-level = λ x p i high. level_back p (suc (level_of x)) i (omega arith);
  number-over = λ k x p i high small inside.
      over_names k (number_of p (suc (level_of x)) i) (number_names p (suc (level_of x)) i (omega arith) inside)
      ∙ parent_back p (suc (level_of x)) i (omega arith) inside;
  number_slot = λ x p i high small inside. slot_back p (suc (level_of x)) i (omega arith) inside;
}

-- ---- the lists as a state

-- the word in slot i of table k; a table has 512 words
unfoldable pub slot_word : St → ℕ → ℕ → ℕ
slot_word s k i = cond (ltb i 512) (word_at s k i) 0

abbrev pub view : St → State
view s = record { word = slot_word s; ledger = number_at s }

pub word_in : (s : St) (k i : ℕ) → i < 512 → slot_word s k i ≡ word_at s k i
unfolding slot_word
word_in s k i inside = rw (lt-ltb i 512 inside)

pub word_out : (s : St) (k i : ℕ) → 512 ≤ i → slot_word s k i ≡ 0
unfolding slot_word
word_out s k i past = rw (le-ltb i 512 past)

-- a word with bits 0 and 1 set stands in one of the 512 slots
pub table_in : (s : St) (k i : ℕ) → slot_word s k i % 4 ≡ 3 → i < 512
table_in s k i both = go (le_or 512 i)
  where
    go : (512 ≤ i) ⊎ (i < 512) → i < 512
    go (inl past) = absurd (omega (arith, both, word_out s k i past))
    go (inr inside) = inside

-- ---- the trees that the words show

-- the tree of table k, where it has `depth` levels below its own, and the root's
abbrev pub tree_from : Handle → St → ℕ → ℕ → Tree
tree_from h s depth k = tree_at (child_of h.base.0) depth (slot_word s) k

abbrev pub root_tree : Handle → St → Tree
root_tree h s = tree_from h s (3 - h.level) 0
