-- A region that lies in one entry, whose link the map goes down by, is mapped in the table below alone.
use Rattle.std.specs.Prelude.{◌≡◌, refl, ℕ, ◌+◌, ◌-◌, ◌≤◌, ◌<◌}
use Rattle.std.proofs.Common.{sym, ap, ◌∙◌, arith}
use Rattle.entry.specs.Sub.{sub_of}
use Rattle.entry.specs.declared.Sub.{Sub}
use Rattle.entry.specs.declared.Sub.TheVariants.{Table}
use Rattle.address_slot.specs.Slot.{entry_index, chunk_end}
use Rattle.region.specs.Region.{region}
use Rattle.pool.specs.State.{St, tables, word_at}
use Rattle.pool.specs.declared.Handle.{Handle}
use Rattle.map_rules.specs.declared.Map.{Map}
use Rattle.map_rules.specs.declared.Rule.{Rule}
use Rattle.map_rules.specs.declared.Rule.TheVariants.{Down}
use Rattle.map_rules.specs.Rules.{rule_of, chunk_map}
use Rattle.map_split.specs.Split.{below-table}
use Rattle.map_put.specs.Put.{each_map_chunk, map_range}
use Rattle.map_put.specs.Range.{map_step, map_open, map_each_done, map-each-step, chunk-into}
use Rattle.std.specs.Prelude.{None, Option, Some}

-- a table of this level from which the map does what it does from the root
abbrev pub Serves : Handle → Map → St → ℕ → ℕ → Type 0
Serves h m s k level = (map_range (3 - level) h k m s ≡ map_range (3 - h.level) h 0 m s) × (k < tables s) × (level ≤ 3)

-- a table below table k in which the map does what it does in table k
abbrev pub LeadsTo : Handle → ℕ → ℕ → Map → St → Option ℕ → Type 0
LeadsTo h k level m s f = (j : ℕ) → f ≡ Some j → (map_range (3 - (level + 1)) h j m s ≡ map_range (3 - level) h k m s) × (j < tables s)

-- a region in one entry is one chunk
one_chunk : (level : ℕ) (f : Map → St → St) (m : Map) (s : St) → m.region.start.0 < m.region.end.0
    → chunk_end level m.region.start.0 m.region.end.0 ≡ m.region.end.0 → each_map_chunk level f m s ≡ f m s
one_chunk level f m s some one =
    let at = m.region.start.0 in
    let end = m.region.end.0 in
    let frame = m.frame.0 in
    map-each-step level f m at end frame s some
    ∙ ap (λ (x : ℕ). each_map_chunk level f (chunk_map m (region x end) (frame + (x - at))) (f (chunk_map m (region at x) frame) s)) one
    ∙ map_each_done level f m end end (frame + (end - at)) (f (chunk_map m (region at end) frame) s) (omega arith)

module _ (h : Handle) (k level : ℕ) (m : Map) (s : St) where
  pub map_below_lem : level < 3 → m.region.start.0 < m.region.end.0
      → chunk_end level m.region.start.0 m.region.end.0 ≡ m.region.end.0
      → {i : ℕ} → i ≡ entry_index level m.region.start.0
      → {r : Rule} → r ≡ rule_of level m (word_at s k i) → r ≡ Down
      → {x : Sub} → x ≡ sub_of h.base.0 (tables s) level (word_at s k i) → (j : ℕ) → x ≡ Table j
      → map_range (3 - (level + 1)) h j m s ≡ map_range (3 - level) h k m s
  map_below_lem low some one {i} index is down kind j table =
      chunk-into h k level m s index is down (below-table h k level i s kind j table) j refl low
      ∙ sym (one_chunk level (map_step h k level) m s some one)
      ∙ map_open h k level m s (omega arith)

  pub none_leads : LeadsTo h k level m s None
  none_leads j e = let z : ◌≡◌ {A = ℕ} 0 1 = cc in absurd (omega arith)

  pub some_leads : {j : ℕ} → map_range (3 - (level + 1)) h j m s ≡ map_range (3 - level) h k m s → j < tables s
      → LeadsTo h k level m s (Some j)
  some_leads {j} same below i e = let q : j ≡ i = cc in (ap (λ (x : ℕ). map_range (3 - (level + 1)) h x m s) (sym q) ∙ same, omega arith)
