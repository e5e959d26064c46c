-- Theorems about the definitions of specs/Count.
use Rattle.std.specs.Prelude.{◌≡◌, refl, ℕ, zero, suc, ◌+◌, ◌-◌, ◌≤◌}
use Rattle.std.proofs.Common.{sym, ap, ◌∙◌, arith}
use Rattle.address_slot.specs.Slot.{entry_index}
use Rattle.entry.specs.Sub.{sub_of}
use Rattle.entry.specs.declared.Sub.{Sub}
use Rattle.entry.specs.declared.Sub.TheVariants.{Table, Outside, Leaf}
use Rattle.pool.specs.State.{St, tables, word_at}
use Rattle.pool.specs.declared.Handle.{Handle}
use Rattle.map_rules.specs.declared.Map.{Map}
use Rattle.map_rules.specs.Rules.{rule_of}
use Rattle.map_count_spec.specs.Needed.{if_down, needed_leaf, need_below, need_chunk, need_table, needed, sum_chunks, first_chunk}
use Rattle.map_count_spec.specs.Needed.{after_first, sum_none, sum_first, sum_is, slot_below}
use Rattle.map_count_spec.specs.Closed.{start_of, closed_leaf, closed}
use Rattle.map_count_spec.specs.Count.{Chunk, first_chunk_lem, closed_leaf_lem, LawfulTable}

-- sums are the same where each chunk's summand is
sum_same : (level : ℕ) (f g : Map → ℕ) (m : Map) → ((c : Map) → Chunk level c → f c ≡ g c) → sum_chunks level f m ≡ sum_chunks level g m
sum_same level f g m each =
    sum_is level f (sum_chunks level g) (λ c. ℕ) (λ c i h. sum_none level g c h)
    (λ c i h. (
      sum_first level g c h
          ∙ ap (λ (x : ℕ). x + sum_chunks level g (after_first level c)) (sym (each (first_chunk level c) (first_chunk_lem level c h))),
      0,
    )) m 0

-- one chunk
chunk-same : (rec rec' : ℕ → Map → ℕ) (leaf leaf' : Map → ℕ → ℕ) (h : Handle) (s : St) (k level : ℕ) (c : Map)
    → ((j : ℕ) → sub_of h.base.0 (tables s) level (word_at s k (entry_index level (start_of c))) ≡ Table j → rec j c ≡ rec' j c)
    → (sub_of h.base.0 (tables s) level (word_at s k (entry_index level (start_of c))) ≡ Leaf
    → leaf c (word_at s k (entry_index level (start_of c))) ≡ leaf' c (word_at s k (entry_index level (start_of c))))
    → need_chunk rec leaf h s k level c ≡ need_chunk rec' leaf' h s k level c
unfolding need_chunk need_below
chunk-same rec rec' leaf leaf' h s k level c table plain = ap (if_down (rule_of level c w)) (go (sub_of h.base.0 (tables s) level w) refl)
  where
    w : ℕ
    w = word_at s k (entry_index level (start_of c))

    go : (x : Sub) → sub_of h.base.0 (tables s) level w ≡ x
        → need_below (λ j. rec j c) (λ v. leaf c v) w x ≡ need_below (λ j. rec' j c) (λ v. leaf' c v) w x
    go (Table j) e = table j e
    go Outside e = refl
    go Leaf e = plain e

pub closed-table : (depth : ℕ) (h : Handle) (s : St) (k : ℕ) (m : Map) → depth ≤ 3 → LawfulTable depth h s k
    → closed depth h s k m ≡ needed depth h s k m
unfolding closed needed need_table LawfulTable
closed-table zero h s k m l law = refl
closed-table (suc depth) h s k m l law =
    sum_same (3 - suc depth) (λ c. need_chunk (λ j n. need_table closed_leaf depth h s j n) (closed_leaf (suc depth)) h s k (3 - suc depth) c)
    (λ c. need_chunk (λ j n. need_table needed_leaf depth h s j n) (needed_leaf (suc depth)) h s k (3 - suc depth) c) m
    (λ c one.
    let slot = law (entry_index (3 - suc depth) (start_of c)) (slot_below (3 - suc depth) (start_of c)) in
    chunk-same (λ j n. need_table closed_leaf depth h s j n) (λ j n. need_table needed_leaf depth h s j n) (closed_leaf (suc depth))
    (needed_leaf (suc depth)) h s k (3 - suc depth) c
    (λ j e. closed-table depth h s j c (omega arith) (slot.1 j e)) (λ e. closed_leaf_lem (suc depth) c _ l one (λ pos. slot.0 e)))
