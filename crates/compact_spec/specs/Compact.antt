-- Document 01, "Putting down a map", Compact: "from the leaves up: it frees each table other than the root whose words are all zero, zeroes
-- its slot, and so also frees a table that this empties". One entry is done when its subtree is, and its table is freed if that leaves it
-- empty.
use Rattle.std.specs.Prelude.{◌≡◌, Bool, true, false, cond, ◌&&◌, List, [], ◌∷◌, ℕ}
use Rattle.std.specs.Prelude.{zero, suc, ◌+◌, ◌*◌, ◌-◌, ◌≤◌, ◌<◌, eqb, length, get_or, drop}
use Rattle.std.proofs.Common.{sym, ◌∙◌, add-one, arith, drop_of_length-le, drop-cons, eq-eqb, ne_eqb}
use Rattle.std.proofs.Math.Path.{ap}
use Rattle.laws.specs.Part.{part_of}
use Rattle.laws.specs.Slot.{iter}
use Rattle.entry.specs.Sub.{sub_of}
use Rattle.entry.specs.declared.Sub.{Sub}
use Rattle.entry.specs.declared.Sub.TheVariants.{Table, Outside, Leaf}
use Rattle.pool.specs.State.{St, tables, word_at, store_at}
use Rattle.pool.specs.declared.Handle.{Handle}
use Rattle.pool_table.specs.Table.{clear}

-- words that are all zero
unfoldable pub all_zero : List ℕ → Bool
all_zero [] = true
all_zero (w ∷ ws) = eqb w 0 && all_zero ws

-- the words of table k
abbrev pub table_words : St → ℕ → List ℕ
table_words s k = part_of (512 * k) 512 s.words

-- table j, to which slot i of table k refers: freed if its words are all zero, its slot zeroed
unfoldable pub release_empty : ℕ → ℕ → ℕ → St → St
release_empty k i j s = cond (all_zero (table_words s j)) (clear j (store_at k i 0 s)) s

-- one entry: the table that it leads to is compacted by `rec`, and then freed if it is empty
unfoldable pub compact_sub : (ℕ → St → St) → ℕ → ℕ → Sub → St → St
compact_sub rec k i (Table j) s = release_empty k i j (rec j s)
compact_sub rec k i Outside s = s
compact_sub rec k i Leaf s = s

unfoldable pub compact_entry : (ℕ → St → St) → Handle → ℕ → ℕ → ℕ → St → St
compact_entry rec h k level i s = compact_sub rec k i (sub_of h.base.0 (tables s) level (word_at s k i)) s

-- the entries of table k, ascending, with `depth` levels below its own
unfoldable pub compact_table : ℕ → Handle → ℕ → St → St
compact_table zero h k s = s
compact_table (suc depth) h k s = iter (compact_entry (λ j t. compact_table depth h j t) h k (3 - suc depth)) 512 s

-- ---- laws: one for each way through the code

pub zero_none : (ws : List ℕ) (i : ℕ) → length ws ≤ i → true ≡ all_zero (drop i ws)
unfolding all_zero
zero_none ws i h = rw (drop_of_length-le ws h)

pub zero_some : (ws : List ℕ) (i : ℕ) → i < length ws → (get_or ws i 0 ≡ 0 → ⊥) → false ≡ all_zero (drop i ws)
unfolding all_zero
zero_some ws i h n = rw (drop-cons ws i 0 h, ne_eqb (get_or ws i 0) 0 n)

pub zero_more : (ws : List ℕ) (i : ℕ) → i < length ws → get_or ws i 0 ≡ 0 → all_zero (drop i ws) ≡ all_zero (drop (i + 1) ws)
unfolding all_zero
zero_more ws i h e = rw (drop-cons ws i 0 h, eq-eqb (get_or ws i 0) 0 e, add-one)

module _ (k i j : ℕ) (s : St) where
  pub release_kept : all_zero (table_words s j) ≡ false → s ≡ release_empty k i j s
  unfolding release_empty
  release_kept e = rw e

  pub release_freed : all_zero (table_words s j) ≡ true → clear j (store_at k i 0 s) ≡ release_empty k i j s
  unfolding release_empty
  release_freed e = rw e

module _ (rec : ℕ → St → St) (h : Handle) (k level i : ℕ) (s : St) {x : Sub}
    (is : x ≡ sub_of h.base.0 (tables s) level (word_at s k i)) where
  chosen : (y : Sub) → x ≡ y → compact_sub rec k i y s ≡ compact_entry rec h k level i s
  unfolding compact_entry
  chosen y e = ap (λ (z : Sub). compact_sub rec k i z s) (sym e ∙ is)

  pub entry-table : (j : ℕ) → x ≡ Table j → release_empty k i j (rec j s) ≡ compact_entry rec h k level i s
  unfolding compact_sub
  entry-table j e = chosen (Table j) e

  pub entry_outside : x ≡ Outside → s ≡ compact_entry rec h k level i s
  unfolding compact_sub
  entry_outside e = chosen Outside e

  pub entry_leaf : x ≡ Leaf → s ≡ compact_entry rec h k level i s
  unfolding compact_sub
  entry_leaf e = chosen Leaf e

pub compact_down : (h : Handle) (k level : ℕ) (s : St) → level < 3
    → iter (compact_entry (λ j t. compact_table (3 - (level + 1)) h j t) h k level) 512 s ≡ compact_table (3 - level) h k s
unfolding compact_table
compact_down h k level s low =
    let e : suc (3 - (level + 1)) ≡ 3 - level = omega arith in
    let q : level ≡ 3 - suc (3 - (level + 1)) = omega arith in
    ap (λ (l : ℕ). iter (compact_entry (λ j t. compact_table (3 - (level + 1)) h j t) h k l) 512 s) q
    ∙ ap (λ (d : ℕ). compact_table d h k s) e

pub compact_last : (h : Handle) (k level : ℕ) (s : St) → 3 ≤ level → s ≡ compact_table (3 - level) h k s
unfolding compact_table
compact_last h k level s high =
    let e : 0 ≡ 3 - level = omega arith in
    ap (λ (d : ℕ). compact_table d h k s) e
