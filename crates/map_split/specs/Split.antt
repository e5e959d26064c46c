-- An entry that is no table becomes one (document 01, "Putting down a map", rule 5 and the split).
use Rattle.std.specs.Prelude.{◌≡◌, refl, List, ℕ, ◌+◌, ◌<◌}
use Rattle.std.proofs.Common.{sym, ◌∙◌, arith}
use Rattle.std.proofs.Math.Path.{ap}
use Rattle.entry.specs.Sub.{sub_of, sub-below}
use Rattle.entry.specs.declared.Sub.{Sub}
use Rattle.entry.specs.declared.Sub.TheVariants.{Table, Outside, Leaf}
use Rattle.pool.specs.State.{St, tables, word_at}
use Rattle.pool.specs.Number.{lowest_free, lowest_found, in_found}
use Rattle.pool_table.specs.Table.{Taken, taken, take_table, take_found}
use Rattle.pool.specs.declared.Handle.{Handle}
use Rattle.map_rules.specs.Rules.{fill_of}
use Rattle.std.specs.Prelude.{None, Option, Some}

-- a split takes a new table for slot i of table k and links it
unfoldable pub split_entry : Handle → ℕ → ℕ → ℕ → St → Taken
split_entry h k level i s = take_table h k (level + 1) i (fill_of level (word_at s k i)) s

-- the table below slot i of table k: the one that is there, or a new one ("splitting first if there is no table")
unfoldable pub below_of : Handle → ℕ → ℕ → ℕ → St → Sub → Taken
below_of h k level i s (Table j) = taken (Some j) s
below_of h k level i s Outside = taken None s
below_of h k level i s Leaf = split_entry h k level i s

unfoldable pub below : Handle → ℕ → ℕ → ℕ → St → Taken
below h k level i s = below_of h k level i s (sub_of h.base.0 (tables s) level (word_at s k i))

-- on in the table below, with the state that finding it left
unfoldable pub into : (ℕ → St → St) → Taken → St
into rec t = in_found rec t.table t.state

-- ---- laws: one for each way through the code

pub split_is : (h : Handle) (k level i : ℕ) (s : St) (t : List ℕ) → t ≡ fill_of level (word_at s k i)
    → take_table h k (level + 1) i t s ≡ split_entry h k level i s
unfolding split_entry
split_is h k level i s t e = ap (λ (l : List ℕ). take_table h k (level + 1) i l s) e

-- ---- the table below a slot

module _ (h : Handle) (k level i : ℕ) (s : St) {x : Sub} (is : x ≡ sub_of h.base.0 (tables s) level (word_at s k i)) where
  chosen : (y : Sub) → x ≡ y → below_of h k level i s y ≡ below h k level i s
  unfolding below
  chosen y e = ap (below_of h k level i s) (sym e ∙ is)

  pub below-table : (j : ℕ) → x ≡ Table j → taken (Some j) s ≡ below h k level i s
  unfolding below_of
  below-table j e = chosen (Table j) e

  pub below_outside : x ≡ Outside → taken None s ≡ below h k level i s
  unfolding below_of
  below_outside e = chosen Outside e

  pub below_split : x ≡ Leaf → split_entry h k level i s ≡ below h k level i s
  unfolding below_of
  below_split e = chosen Leaf e

-- the table that is found is one of the pool's
take_table_lem : (h : Handle) (p level i : ℕ) (t : List ℕ) (s : St) (f : Option ℕ) → (take_found h p level i t s f).table ≡ f
unfolding take_found
take_table_lem h p level i t s (Some j) = refl
take_table_lem h p level i t s None = refl

inside : (h : Handle) (k level i : ℕ) (s : St) (j : ℕ) (x : Sub) → sub_of h.base.0 (tables s) level (word_at s k i) ≡ x
    → (below_of h k level i s x).table ≡ Some j → j < tables s
unfolding below_of split_entry take_table
inside h k level i s j (Table y) q e = let same : y ≡ j = cc in sub-below h.base.0 (tables s) level (word_at s k i) j (q ∙ ap Table same)
inside h k level i s j Outside q e = let z : ◌≡◌ {A = ℕ} 0 1 = cc in absurd (omega arith)
inside h k level i s j Leaf q e =
    (lowest_found s.ledger j (sym (take_table_lem h k (level + 1) i (fill_of level (word_at s k i)) s (lowest_free s.ledger)) ∙ e)).inside

pub below_inside : (h : Handle) (k level i : ℕ) (s : St) (j : ℕ) {f : Option ℕ} {t : St} → taken f t ≡ below h k level i s → f ≡ Some j
    → j < tables s
unfolding below
below_inside h k level i s j found e =
    inside h k level i s j (sub_of h.base.0 (tables s) level (word_at s k i)) refl (sym (ap (λ (x : Taken). x.table) found) ∙ e)
