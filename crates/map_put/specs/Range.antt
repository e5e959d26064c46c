-- The loop over a table's chunks: one step after the other, and what each step needs. Leans on `Put`.
use Rattle.std.specs.Prelude.{◌≡◌, refl, cond, ℕ, suc, ◌+◌, ◌-◌, ◌≤◌, ◌<◌, ltb}
use Rattle.std.proofs.Common.{sym, ◌∙◌, ⊎_elim, arith, lt-ltb}
use Rattle.std.proofs.Math.Path.{ap}
use Rattle.laws.specs.Test.{le_or}
use Rattle.address_slot.specs.Slot.{entry_index, chunk_end}
use Rattle.region.specs.Region.{region}
use Rattle.region.specs.Each.{each_done, each_step}
use Rattle.pool.specs.State.{St, word_at, store_at}
use Rattle.pool.specs.Number.{in_found}
use Rattle.pool_table.specs.Table.{Taken, taken}
use Rattle.pool.specs.declared.Handle.{Handle}
use Rattle.map_rules.specs.declared.Map.{Map}
use Rattle.map_rules.specs.declared.Rule.{Rule}
use Rattle.map_rules.specs.declared.Rule.TheVariants.{Write, Keep, Drop, Down}
use Rattle.map_rules.specs.Rules.{rule_of, chunk_map}
use Rattle.map_split.specs.Split.{below, into}
use Rattle.map_put.specs.Put.{drop_entry, by_rule, map_chunk, Framed, framed, framed_chunk, each_map_chunk, map_range}
use Rattle.map_put.specs.Laws.{put_here}
use Rattle.std.specs.Prelude.{None, Option, Some}

-- ---- one level down

-- at level 3 there is nothing below
unfoldable pub map_below : Handle → ℕ → ℕ → Map → St → St
map_below h level = cond (ltb level 3) (λ j n t. map_range (3 - (level + 1)) h j n t) (λ j n t. t)

pub rec-down : (h : Handle) (j level : ℕ) (n : Map) (t : St) → level < 3 → map_range (3 - (level + 1)) h j n t ≡ map_below h level j n t
unfolding map_below
rec-down h j level n t l = rw (lt-ltb level 3 l)

-- one chunk of table k
unfoldable pub map_step : Handle → ℕ → ℕ → Map → St → St
map_step h k level = map_chunk (map_below h level) h k level

pub map_open : (h : Handle) (k level : ℕ) (m : Map) (s : St) → level ≤ 3
    → each_map_chunk level (map_step h k level) m s ≡ map_range (3 - level) h k m s
unfolding map_step map_below map_range
map_open h k level m s l = ⊎_elim
    (λ ge.
    let e : 3 ≡ level = omega arith in
    ap (λ (x : ℕ). each_map_chunk x (map_chunk (cond (ltb x 3) (λ j n t. map_range (3 - (x + 1)) h j n t) (λ j n t. t)) h k x) m s) (sym e)
    ∙ ap (λ (x : ℕ). map_range (3 - x) h k m s) e)
    (λ lt.
    let e : suc (3 - (level + 1)) ≡ 3 - level = omega arith in
    let q : level ≡ 3 - suc (3 - (level + 1)) = omega arith in
    rw (lt-ltb level 3 lt)
    (ap (λ (x : ℕ). each_map_chunk x (map_chunk (λ j n t. map_range (3 - (level + 1)) h j n t) h k x) m s) q
    ∙ ap (λ (x : ℕ). map_range x h k m s) e))
    (le_or 3 level)

-- ---- the loop

module _ (level : ℕ) (f : Map → St → St) (m : Map) (at end frame : ℕ) (s : St) where
  pub map_each_done : end ≤ at → each_map_chunk level f (chunk_map m (region at end) frame) s ≡ s
  unfolding each_map_chunk
  map_each_done h =
      ap (λ (x : Framed). x.state) (each_done level (framed_chunk f (chunk_map m (region at end) frame)) at end (framed frame s) h)

  pub map-each-step : at < end
      → each_map_chunk level f (chunk_map m (region at end) frame) s
      ≡ each_map_chunk level f (chunk_map m (region (chunk_end level at end) end) (frame + (chunk_end level at end - at)))
      (f (chunk_map m (region at (chunk_end level at end)) frame) s)
  unfolding each_map_chunk framed_chunk
  map-each-step h = ap (λ (x : Framed). x.state) (each_step level (framed_chunk f m) at end (framed frame s) h)

-- ---- one chunk, by its rule

module _ (h : Handle) (k level : ℕ) (m : Map) (s : St) {i : ℕ} (index : i ≡ entry_index level m.region.start.0) {r : Rule}
    (is : r ≡ rule_of level m (word_at s k i)) where
  chosen : (q : Rule) → r ≡ q → by_rule (λ j t. map_below h level j m t) h k level i q s ≡ map_step h k level m s
  unfolding map_step map_chunk
  chosen q e =
      ap (λ (x : Rule). by_rule (λ j t. map_below h level j m t) h k level i x s) (sym e ∙ is)
      ∙ ap (λ (x : ℕ). by_rule (λ j t. map_below h level j m t) h k level x (rule_of level m (word_at s k x)) s) index

  pub chunk_write : (x : ℕ) → r ≡ Write x → store_at k i x s ≡ map_step h k level m s
  unfolding by_rule
  chunk_write x e = chosen (Write x) e

  pub chunk_keep : r ≡ Keep → s ≡ map_step h k level m s
  unfolding by_rule
  chunk_keep e = chosen Keep e

  pub chunk-drop : (x : ℕ) → r ≡ Drop x → drop_entry h level (word_at s k i) (store_at k i x s) ≡ map_step h k level m s
  unfolding by_rule
  chunk-drop x e = chosen (Drop x) e

  -- any rule that goes no lower
  pub chunk_here : (r ≡ Down → ⊥) → by_rule (λ j t. t) h k level i r s ≡ map_step h k level m s
  chunk_here n = put_here (λ j t. t) (λ j t. map_below h level j m t) h k level i s r n ∙ chosen r refl

  module _ (e : r ≡ Down) {f : Option ℕ} {t : St} (found : taken f t ≡ below h k level i s) where
    gone-down : in_found (λ j u. map_below h level j m u) f t ≡ map_step h k level m s
    unfolding by_rule into
    gone-down = ap (λ (x : Taken). in_found (λ j u. map_below h level j m u) x.table x.state) found ∙ chosen Down e

    pub chunk_none : f ≡ None → t ≡ map_step h k level m s
    unfolding in_found
    chunk_none q = ap (λ (x : Option ℕ). in_found (λ j u. map_below h level j m u) x t) (sym q) ∙ gone-down

    pub chunk-into : (j : ℕ) → f ≡ Some j → level < 3 → map_range (3 - (level + 1)) h j m t ≡ map_step h k level m s
    unfolding in_found
    chunk-into j q l = rec-down h j level m t l ∙ ap (λ (x : Option ℕ). in_found (λ j u. map_below h level j m u) x t) (sym q) ∙ gone-down
