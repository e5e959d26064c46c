-- One law for each way through the code. Leans on `Put`.
use Rattle.std.specs.Prelude.{◌≡◌, refl, List, ℕ, ◌+◌, ◌-◌, ◌%◌, ◌<◌}
use Rattle.std.proofs.Common.{sym, ◌∙◌, arith}
use Rattle.std.proofs.Math.Path.{ap}
use Rattle.entry.specs.Sub.{sub_of, sub_some}
use Rattle.entry.specs.declared.Sub.{Sub}
use Rattle.entry.specs.declared.Sub.TheVariants.{Table, Outside, Leaf}
use Rattle.pool.specs.State.{St, tables, word_at, store_at}
use Rattle.pool.specs.Number.{lowest_free}
use Rattle.pool_table.specs.Table.{Taken, taken, take_table, take_found, free_sub, free_tree}
use Rattle.pool.specs.declared.Handle.{Handle}
use Rattle.map_rules.specs.declared.Rule.{Rule}
use Rattle.map_rules.specs.declared.Rule.TheVariants.{Write, Keep, Drop, Down}
use Rattle.map_rules.specs.Rules.{fill_of}
use Rattle.map_split.specs.Split.{split_entry, below_of, below}
use Rattle.map_put.specs.Put.{drop_entry, by_rule}
use Rattle.std.specs.Prelude.{None, Option, Some}

-- ---- a rule that goes no lower

pub record Stays (level : ℕ) (r : Rule) : Type 0 where
  pub here : r ≡ Down → ⊥
  pub high : (x : ℕ) → r ≡ Drop x → level < 3

module _ (rec : ℕ → St → St) (h : Handle) (k level i : ℕ) (s : St) {r : Rule} where
  ruled : (q : Rule) → r ≡ q → by_rule rec h k level i q s ≡ by_rule rec h k level i r s
  ruled q e = ap (λ (x : Rule). by_rule rec h k level i x s) (sym e)

  pub put_write : (x : ℕ) → r ≡ Write x → store_at k i x s ≡ by_rule rec h k level i r s
  unfolding by_rule
  put_write x e = ruled (Write x) e

  pub put_keep : r ≡ Keep → s ≡ by_rule rec h k level i r s
  unfolding by_rule
  put_keep e = ruled Keep e

  pub put-drop : (x : ℕ) → r ≡ Drop x → drop_entry h level (word_at s k i) (store_at k i x s) ≡ by_rule rec h k level i r s
  unfolding by_rule
  put-drop x e = ruled (Drop x) e

-- whatever would be done below
pub put_here : (rec other : ℕ → St → St) (h : Handle) (k level i : ℕ) (s : St) (r : Rule) → (r ≡ Down → ⊥)
    → by_rule rec h k level i r s ≡ by_rule other h k level i r s
unfolding by_rule
put_here rec other h k level i s (Write x) n = refl
put_here rec other h k level i s Keep n = refl
put_here rec other h k level i s (Drop x) n = refl
put_here rec other h k level i s Down n = absurd (n refl)

-- ---- what leaves the ledger

-- a table that is there, or none
sub_kept : (h : Handle) (k level i : ℕ) (s : St) (x : Sub) → (x ≡ Leaf → ⊥) → (below_of h k level i s x).state ≡ s
unfolding below_of
sub_kept h k level i s (Table j) n = refl
sub_kept h k level i s Outside n = refl
sub_kept h k level i s Leaf n = absurd (n refl)

pub below_kept : (h : Handle) (k level i : ℕ) (s : St) {f : Option ℕ} {t : St} → taken f t ≡ below h k level i s → level < 3
    → word_at s k i % 4 ≡ 3 → t ≡ s
unfolding below
below_kept h k level i s e l w =
    ap (λ (x : Taken). x.state) e
    ∙ sub_kept h k level i s (sub_of h.base.0 (tables s) level (word_at s k i))
    (sub_some h.base.0 (tables s) level (word_at s k i) l w)

-- nothing taken
take-nothing : (h : Handle) (p level i : ℕ) (l : List ℕ) (s : St) (f : Option ℕ) → (take_found h p level i l s f).table ≡ None
    → (take_found h p level i l s f).state ≡ s
unfolding take_found
take-nothing h p level i l s (Some j) e = let z : ◌≡◌ {A = ℕ} 0 1 = cc in absurd (omega arith)
take-nothing h p level i l s None e = refl

sub-nothing : (h : Handle) (k level i : ℕ) (s : St) (x : Sub) → (below_of h k level i s x).table ≡ None
    → (below_of h k level i s x).state ≡ s
unfolding below_of split_entry take_table
sub-nothing h k level i s (Table j) e = refl
sub-nothing h k level i s Outside e = refl
sub-nothing h k level i s Leaf e = take-nothing h k (level + 1) i (fill_of level (word_at s k i)) s (lowest_free s.ledger) e

pub below-nothing : (h : Handle) (k level i : ℕ) (s : St) {f : Option ℕ} {t : St} → taken f t ≡ below h k level i s → f ≡ None → t ≡ s
unfolding below
below-nothing h k level i s e q =
    ap (λ (x : Taken). x.state) e
    ∙ sub-nothing h k level i s (sub_of h.base.0 (tables s) level (word_at s k i)) (sym (ap (λ (x : Taken). x.table) e) ∙ q)

-- ---- a subtree dropped

module _ (h : Handle) (level w : ℕ) (s : St) {x : Sub} (is : x ≡ sub_of h.base.0 (tables s) level w) where
  dropped : (y : Sub) → x ≡ y → free_sub (λ j t. free_tree (3 - (level + 1)) h j t) y s ≡ drop_entry h level w s
  unfolding drop_entry
  dropped y e = ap (λ (z : Sub). free_sub (λ j t. free_tree (3 - (level + 1)) h j t) z s) (sym e ∙ is)

  pub drop-table : (j : ℕ) → x ≡ Table j → free_tree (3 - (level + 1)) h j s ≡ drop_entry h level w s
  unfolding free_sub
  drop-table j e = dropped (Table j) e

  pub drop_outside : x ≡ Outside → s ≡ drop_entry h level w s
  unfolding free_sub
  drop_outside e = dropped Outside e

  pub drop_leaf : x ≡ Leaf → s ≡ drop_entry h level w s
  unfolding free_sub
  drop_leaf e = dropped Leaf e
