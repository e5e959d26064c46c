-- One law for each way through the code.
use Rattle.std.specs.Prelude.{◌≡◌, cond, ℕ, suc, ◌+◌, ◌*◌, ◌-◌, ◌≤◌, ◌<◌, ltb}
use Rattle.std.proofs.Math.Path.{refl, sym, ap}
use Rattle.std.proofs.Common.{◌∙◌, ⊎_elim, mul-le-mul_right, arith, lt-ltb, le-ltb}
use Rattle.laws.specs.Test.{le_or}
use Rattle.entry.specs.Sub.{sub_of}
use Rattle.entry.specs.declared.Sub.{Sub}
use Rattle.entry.specs.declared.Sub.TheVariants.{Table, Outside, Leaf}
use Rattle.address_slot.specs.Slot.{entry_index}
use Rattle.pool.specs.State.{St, tables, word_at}
use Rattle.pool.specs.declared.Handle.{Handle}
use Rattle.map_rules.specs.declared.Map.{Map}
use Rattle.map_rules.specs.declared.Rule.{Rule}
use Rattle.map_rules.specs.declared.Rule.TheVariants.{Write, Keep, Drop, Down}
use Rattle.map_rules.specs.Rules.{rule_of}
use Rattle.map_count_spec.specs.Needed.{if_down, need_below, need_chunk, need_table, sum_chunks}
use Rattle.map_count_spec.specs.Closed.{start_of, end_of, closed_leaf, closed}
use Rattle.map_count_spec.proofs.Closed.{closed_most}
use Rattle.map_count_spec.specs.Ends.{leaf_open, Other, is_down, leaf_none, leaf_low}

-- ---- count_over

-- what is needed where that is more than is free
unfoldable pub over : ℕ → ℕ → ℕ
over room need = cond (ltb room need) need 0

pub over_none : (room need : ℕ) → need ≤ room → 0 ≡ over room need
unfolding over
over_none room need h = rw (le-ltb room need h)

pub over_some : (room need : ℕ) → room < need → need ≡ over room need
unfolding over
over_some room need h = rw (lt-ltb room need h)

-- read back
pub over_past : {x : ℕ} (room need : ℕ) → x ≡ over room need → room < x → x ≡ need
over_past room need e l =
    ⊎_elim (λ h. let z = over_none room need h in absurd (omega arith)) (λ h. e ∙ sym (over_some room need h)) (le_or need room)

pub over_within : {x : ℕ} (room need : ℕ) → x ≡ over room need → x ≤ room → need ≤ room
over_within room need e l = ⊎_elim (λ h. h) (λ h. let z = over_some room need h in absurd (omega arith)) (le_or need room)

-- ---- count_new

-- one chunk of table k
unfoldable pub count_at : Handle → St → ℕ → ℕ → Map → ℕ
count_at h s k level = need_chunk (λ j n. closed (3 - (level + 1)) h s j n) (closed_leaf (3 - level)) h s k level

pub closed_done : (h : Handle) (s : St) (k level : ℕ) (m : Map) → 3 ≤ level → 0 ≡ closed (3 - level) h s k m
unfolding closed need_table
closed_done h s k level m l = let e : 0 ≡ 3 - level = omega arith in ap (λ (x : ℕ). closed x h s k m) e

pub closed_open : (h : Handle) (s : St) (k level : ℕ) (m : Map) → level < 3
    → sum_chunks level (count_at h s k level) m ≡ closed (3 - level) h s k m
unfolding count_at closed need_table
closed_open h s k level m l =
    let e : suc (3 - (level + 1)) ≡ 3 - level = omega arith in
    let q : level ≡ 3 - suc (3 - (level + 1)) = omega arith in
    ap (λ (x : ℕ). sum_chunks level (need_chunk (λ j n. need_table closed_leaf (3 - (level + 1)) h s j n) (closed_leaf x) h s k level) m) (sym e)
    ∙ ap
    (λ (x : ℕ). sum_chunks x
    (need_chunk (λ j n. need_table closed_leaf (3 - (level + 1)) h s j n) (closed_leaf (suc (3 - (level + 1)))) h s k x) m) q
    ∙ ap (λ (x : ℕ). need_table closed_leaf x h s k m) e

pub count_fit : (h : Handle) (s : St) (k level : ℕ) (m : Map) → level < 3
    → sum_chunks level (count_at h s k level) m ≤ 3 * (end_of m - start_of m)
count_fit h s k level m l =
    let o = closed_open h s k level m l in
    let r = closed_most (3 - level) h s k m (omega arith) in
    let t : (3 - level) * (end_of m - start_of m) ≤ 3 * (end_of m - start_of m) = mul-le-mul_right (end_of m - start_of m) (omega arith) in
    omega arith

down_none : (r : Rule) → if_down r 0 ≡ 0
unfolding if_down
down_none (Write x) = refl
down_none Keep = refl
down_none (Drop x) = refl
down_none Down = refl

down_twice : (r : Rule) (n : ℕ) → if_down r (if_down r n) ≡ if_down r n
unfolding if_down
down_twice (Write x) n = refl
down_twice Keep n = refl
down_twice (Drop x) n = refl
down_twice Down n = refl

module _ (h : Handle) (s : St) (k level : ℕ) (c : Map) {i : ℕ} (index : i ≡ entry_index level (start_of c)) where
  -- where what the slot leads to is known
  entry-sub : (x : Sub) → x ≡ sub_of h.base.0 (tables s) level (word_at s k i)
      → count_at h s k level c
      ≡ if_down (rule_of level c (word_at s k i))
      (need_below (λ j. closed (3 - (level + 1)) h s j c) (λ w. closed_leaf (3 - level) c w) (word_at s k i) x)
  unfolding count_at need_chunk
  entry-sub x e =
      ap
      (λ (y : ℕ). if_down (rule_of level c (word_at s k y))
      (need_below (λ j. closed (3 - (level + 1)) h s j c) (λ w. closed_leaf (3 - level) c w) (word_at s k y)
      (sub_of h.base.0 (tables s) level (word_at s k y))))
      (sym index)
      ∙ ap
      (λ (y : Sub). if_down (rule_of level c (word_at s k i))
      (need_below (λ j. closed (3 - (level + 1)) h s j c) (λ w. closed_leaf (3 - level) c w) (word_at s k i) y))
      (sym e)

  pub entry_outside : {x : Sub} → x ≡ sub_of h.base.0 (tables s) level (word_at s k i) → x ≡ Outside → count_at h s k level c ≡ 0
  unfolding need_below
  entry_outside e q = entry-sub Outside (sym q ∙ e) ∙ down_none (rule_of level c (word_at s k i))

  pub entry_leaf : {x : Sub} → x ≡ sub_of h.base.0 (tables s) level (word_at s k i) → x ≡ Leaf → level < 3
      → count_at h s k level c ≡ closed_leaf (3 - level) c (word_at s k i)
  unfolding need_below
  entry_leaf e q l =
      let o = leaf_open level c (word_at s k i) l in
      entry-sub Leaf (sym q ∙ e) ∙ ap (λ (n : ℕ). if_down (rule_of level c (word_at s k i)) n) o
      ∙ down_twice (rule_of level c (word_at s k i)) _
      ∙ sym o

  module _ {x : Sub} (e : x ≡ sub_of h.base.0 (tables s) level (word_at s k i)) {r : Rule} (is : r ≡ rule_of level c (word_at s k i)) where
    pub entry_none : Other r → count_at h s k level c ≡ 0
    entry_none o = entry-sub x e ∙ none (sym is) _
      where
        none : {q : Rule} → q ≡ r → (n : ℕ) → if_down q n ≡ 0
        none p n = ap (λ (q : Rule). if_down q n) p ∙ o.none n

    pub entry-table : (j : ℕ) → x ≡ Table j → r ≡ Down → count_at h s k level c ≡ closed (3 - (level + 1)) h s j c
    unfolding need_below
    entry-table j q d = entry-sub (Table j) (sym q ∙ e) ∙ is_down (rule_of level c (word_at s k i)) _ (sym is ∙ d)

-- ---- count_last: level 2, where a table has no table below it

module _ (h : Handle) (s : St) (k : ℕ) (c : Map) {i : ℕ} (index : i ≡ entry_index 2 (start_of c)) {x : Sub}
    (e : x ≡ sub_of h.base.0 (tables s) 2 (word_at s k i)) where
  pub last_table : (x ≡ Leaf → ⊥) → count_at h s k 2 c ≡ 0
  unfolding need_below closed need_table
  last_table other =
      entry-sub h s k 2 c index x e ∙ ap (if_down (rule_of 2 c (word_at s k i))) (none x other) ∙ down_none (rule_of 2 c (word_at s k i))
    where
      none : (y : Sub) → (y ≡ Leaf → ⊥) → need_below (λ j. closed 0 h s j c) (λ w. closed_leaf 1 c w) (word_at s k i) y ≡ 0
      none (Table j) n = refl
      none Outside n = refl
      none Leaf n = absurd (n refl)

  module _ (plain : x ≡ Leaf) {r : Rule} (is : r ≡ rule_of 2 c (word_at s k i)) where
    pub last_none : Other r → count_at h s k 2 c ≡ 0
    last_none o = entry_leaf h s k 2 c index e plain (omega arith) ∙ sym (leaf_none 2 c (word_at s k i) is o)

    pub last_down : r ≡ Down → count_at h s k 2 c ≡ 1
    last_down d = entry_leaf h s k 2 c index e plain (omega arith) ∙ sym (leaf_low 2 c (word_at s k i) is d (omega arith) (omega arith))
