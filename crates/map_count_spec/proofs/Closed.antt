-- Theorems about the definitions of specs/Closed.
use Rattle.std.specs.Prelude.{◌≡◌, refl, ◌⊎◌, ℕ, zero, suc, ◌*◌, ◌-◌, ◌≤◌, ◌<◌}
use Rattle.std.proofs.Common.{inl, inr, arith}
use Rattle.laws.specs.Test.{le_or}
use Rattle.entry.specs.Sub.{sub_of}
use Rattle.entry.specs.declared.Sub.{Sub}
use Rattle.entry.specs.declared.Sub.TheVariants.{Table, Outside, Leaf}
use Rattle.address_slot.specs.Slot.{entry_index, chunk_end}
use Rattle.region.specs.Chunks.{met, met-step, chunk-fits, chunk_stops}
use Rattle.pool.specs.State.{St, tables, word_at}
use Rattle.pool.specs.declared.Handle.{Handle}
use Rattle.map_rules.specs.declared.Map.{Map}
use Rattle.map_rules.specs.Rules.{rule_of}
use Rattle.map_count_spec.specs.Needed.{need_below, need_chunk, need_table, sum_chunks, first_chunk, after_first}
use Rattle.map_count_spec.specs.Needed.{sum_none, sum_first}
use Rattle.map_count_spec.specs.Closed.{start_of, end_of, mets, closed_leaf, closed, mets_cut, mets_most, down_most, leaf_met}

-- a sum over chunks, where no summand passes what its chunk meets
sum-met : (depth : ℕ) (f : Map → ℕ) → depth ≤ 3 → ((c : Map) → start_of c < end_of c → f c ≤ mets depth (start_of c) (end_of c)) → (m : Map)
    → sum_chunks (3 - depth) f m ≤ mets depth (start_of m) (end_of m)
sum-met depth f l each m = go (met (3 - depth) (start_of m) (end_of m)) m refl
  where
    none : (m : Map) → end_of m ≤ start_of m → sum_chunks (3 - depth) f m ≤ mets depth (start_of m) (end_of m)
    none m h = let z = sum_none (3 - depth) f m h in omega arith

    go : (n : ℕ) (m : Map) → met (3 - depth) (start_of m) (end_of m) ≡ n → sum_chunks (3 - depth) f m ≤ mets depth (start_of m) (end_of m)
    go zero m e = first (le_or (end_of m) (start_of m))
      where
        first : (end_of m ≤ start_of m) ⊎ (start_of m < end_of m) → sum_chunks (3 - depth) f m ≤ mets depth (start_of m) (end_of m)
        first (inl h) = none m h
        first (inr h) = absurd (let k = met-step (3 - depth) (start_of m) (end_of m) h in omega arith)
    go (suc n) m e = more (le_or (end_of m) (start_of m)) (go n (after_first (3 - depth) m))
      where
        more : (end_of m ≤ start_of m) ⊎ (start_of m < end_of m)
            → (met (3 - depth) (start_of (after_first (3 - depth) m)) (end_of m) ≡ n
            → sum_chunks (3 - depth) f (after_first (3 - depth) m) ≤ mets depth (start_of (after_first (3 - depth) m)) (end_of m))
            → sum_chunks (3 - depth) f m ≤ mets depth (start_of m) (end_of m)
        more (inl h) ih = none m h
        more (inr h) ih =
            let s = chunk-fits (3 - depth) (start_of m) (end_of m) h in
            let stop = chunk_end (3 - depth) (start_of m) (end_of m) in
            let k = met-step (3 - depth) (start_of m) (end_of m) h in
            let a = each (first_chunk (3 - depth) m) s.0 in
            let b = ih (omega arith) in
            let t = mets_cut depth (start_of m) stop (end_of m) l s.0 (chunk_stops (3 - depth) (start_of m) (end_of m)) in
            let e = sum_first (3 - depth) f m h in
            omega arith

chunk-met : (most : ℕ) (rec : ℕ → Map → ℕ) (leaf : Map → ℕ → ℕ) (h : Handle) (s : St) (k level : ℕ) (c : Map)
    → ((j : ℕ) → rec j c ≤ most) → ((w : ℕ) → leaf c w ≤ most) → need_chunk rec leaf h s k level c ≤ most
unfolding need_chunk need_below
chunk-met most rec leaf h s k level c table plain =
    let d = down_most (rule_of level c w) (need_below (λ j. rec j c) (λ v. leaf c v) w (sub_of h.base.0 (tables s) level w)) in
    let r = go (sub_of h.base.0 (tables s) level w) in
    omega arith
  where
    w : ℕ
    w = word_at s k (entry_index level (start_of c))

    go : (x : Sub) → need_below (λ j. rec j c) (λ v. leaf c v) w x ≤ most
    go (Table j) = table j
    go Outside = omega arith
    go Leaf = plain w

pub closed-met : (depth : ℕ) (h : Handle) (s : St) (k : ℕ) (m : Map) → depth ≤ 3 → closed depth h s k m ≤ mets depth (start_of m) (end_of m)
unfolding closed need_table mets
closed-met zero h s k m l = omega arith
closed-met (suc depth) h s k m l =
    sum-met (suc depth) (λ c. need_chunk (λ j n. need_table closed_leaf depth h s j n) (closed_leaf (suc depth)) h s k (3 - suc depth) c) l
    (λ c some.
    chunk-met (mets (suc depth) (start_of c) (end_of c)) (λ j n. need_table closed_leaf depth h s j n) (closed_leaf (suc depth)) h s k
    (3 - suc depth) c
    (λ j. let r = closed-met depth h s j c (omega arith) in omega arith) (λ w. leaf_met (suc depth) c w l some)) m

pub closed_most : (depth : ℕ) (h : Handle) (s : St) (k : ℕ) (m : Map) → depth ≤ 3 → closed depth h s k m ≤ depth * (end_of m - start_of m)
closed_most depth h s k m l = let a = closed-met depth h s k m l in let b = mets_most depth (start_of m) (end_of m) in omega arith
