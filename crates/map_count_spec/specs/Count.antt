-- The closed form is the count: for an entry that is no table, and for a table whose words are lawful, with all below it. Leans on `Closed`
-- and `Missed`.
use Rattle.std.specs.Prelude.{◌≡◌, refl, true, false, ◌⊎◌, ℕ, zero, suc, ◌+◌, ◌-◌, ◌%◌, ◌≤◌, ◌<◌}
use Rattle.std.proofs.Common.{sym, ap, ap₂, subst, ◌∙◌, true≢false, inl, inr, arith}
use Rattle.laws.specs.Size.{size_at}
use Rattle.laws.specs.Test.{by_bool, eq_or}
use Rattle.entry.specs.Word.{address_of, flags_of}
use Rattle.address_slot.specs.Slot.{entry_last, chunk_end}
use Rattle.region.specs.Chunks.{chunk-fits, chunk_stops}
use Rattle.entry.specs.Sub.{sub_of}
use Rattle.entry.specs.declared.Sub.TheVariants.{Table, Leaf}
use Rattle.pool.specs.State.{St, tables, word_at}
use Rattle.pool.specs.declared.Handle.{Handle}
use Rattle.map_rules.specs.declared.Map.{Map}
use Rattle.map_rules.specs.declared.Rule.{Rule}
use Rattle.map_rules.specs.declared.Rule.TheVariants.{Down}
use Rattle.map_rules.specs.Rules.{rule2, rule_of}
use Rattle.map_count_spec.specs.Needed.{if_down, child_word, needed_leaf, sum_chunks, first_chunk}
use Rattle.map_count_spec.specs.Needed.{after_first, sum_first, sum_is}
use Rattle.map_count_spec.specs.Closed.{start_of, end_of, first_frame, rests, closed_leaf, rest_one, level_next, left_next}
use Rattle.map_count_spec.specs.Closed.{rests_none, rests_blocks, rests_cut}
use Rattle.map_count_spec.specs.Missed.{says_same, Blocks, Barred, blocks_or, fits_block, barred_block, rule_none, rule-whole}
use Rattle.map_count_spec.specs.Missed.{rule-down, Lawful, child_lawful, Missed, missed_lawful, missed_plain, missed_rule2, Part}
use Rattle.map_count_spec.specs.Missed.{missed_block, missed_part, missed_later}

-- ---- a region that begins with an entry, chunk by chunk

-- a chunk, in one entry of the level
pub record Chunk (level : ℕ) (m : Map) : Type 0 where
  pub some : start_of m < end_of m
  pub within : end_of m ≤ entry_last level (start_of m) + 1

-- the first chunk of a region
pub first_chunk_lem : (level : ℕ) (m : Map) → start_of m < end_of m → Chunk level (first_chunk level m)
first_chunk_lem level m h = let f = chunk-fits level (start_of m) (end_of m) h in record { some = f.0; within = f.2 }

-- what remains of m, from where an entry of the level begins
record Along (level : ℕ) (m c : Map) : Type 0 where
  from : start_of m ≤ start_of c
  ends : end_of c ≡ end_of m
  frame : first_frame c ≡ first_frame m + (start_of c - start_of m)
  flags : c.flags ≡ m.flags
  begins : (start_of c % size_at level ≡ 0) ⊎ (end_of c ≤ start_of c)

sum-rests : (depth : ℕ) (f : Map → ℕ) (m : Map) → depth ≤ 3 → (start_of m % size_at (3 - depth) ≡ 0) ⊎ (end_of m ≤ start_of m)
    → ((c : Map) → Part m c → Chunk (3 - depth) c → start_of c % size_at (3 - depth) ≡ 0 → f c ≡ rests depth c)
    → sum_chunks (3 - depth) f m ≡ rests depth m
sum-rests depth f m l start each =
    sum_is (3 - depth) f (rests depth) (Along (3 - depth) m) (λ c i h. rests_none depth c h) (λ c i h. step c i h i.begins)
    m (record { from = omega arith; ends = refl; frame = omega arith; flags = refl; begins = start })
  where
    step : (c : Map) → Along (3 - depth) m c → start_of c < end_of c → (start_of c % size_at (3 - depth) ≡ 0) ⊎ (end_of c ≤ start_of c)
        → (rests depth c ≡ f (first_chunk (3 - depth) c) + rests depth (after_first (3 - depth) c))
        × Along (3 - depth) m (after_first (3 - depth) c)
    step c i h (inr past) = absurd (omega arith)
    step c i h (inl z) =
        let fit = chunk-fits (3 - depth) (start_of c) (end_of c) h in
        let stop = chunk_end (3 - depth) (start_of c) (end_of c) in
        let part : Part m (first_chunk (3 - depth) c) =
        record { from = i.from; below = omega (arith, i.ends); frame = i.frame; flags = i.flags } in
        let one = each (first_chunk (3 - depth) c) part (first_chunk_lem (3 - depth) c h) z in (
          rests_cut depth c stop l fit.0 z (chunk_stops (3 - depth) (start_of c) (end_of c))
              ∙ ap (λ (x : ℕ). x + rests depth (after_first (3 - depth) c)) (sym one),
          record {
            from = omega (arith, i.from, fit.0);
            ends = i.ends;
            frame = omega (arith, i.frame, i.from, fit.0);
            flags = i.flags;
            begins = begins (chunk_stops (3 - depth) (start_of c) (end_of c));
          },
        )
      where
        begins : (chunk_end (3 - depth) (start_of c) (end_of c) ≡ end_of c)
            ⊎ ((chunk_end (3 - depth) (start_of c) (end_of c) < end_of c)
            × (chunk_end (3 - depth) (start_of c) (end_of c) % size_at (3 - depth) ≡ 0))
            → (chunk_end (3 - depth) (start_of c) (end_of c) % size_at (3 - depth) ≡ 0)
            ⊎ (end_of c ≤ chunk_end (3 - depth) (start_of c) (end_of c))
        begins (inl e) = inr (omega arith)
        begins (inr d) = inl d.1

-- ---- a chunk of which rule 2 fits no part

-- a part of it is such a chunk too
missed_below : (depth : ℕ) (m c : Map) (w : ℕ) → suc depth ≤ 3 → Chunk (3 - suc depth) m → Part m c → Missed (3 - suc depth) m w
    → 0 < depth → Missed (3 - depth) c (child_word (3 - suc depth) w (start_of c))
missed_below depth m c w l one p x pos =
    subst (λ (n : ℕ). Missed n c (child_word (3 - suc depth) w (start_of c))) (level_next depth l)
    (missed_part (3 - suc depth) m c w (omega arith) one.within p x)

missed_rests : (depth : ℕ) (m : Map) (w : ℕ) → depth ≤ 2 → Chunk (3 - depth) m → start_of m % size_at (3 - depth) ≡ 0
    → (0 < depth → Missed (3 - depth) m w) → needed_leaf depth m w ≡ rests depth m
unfolding needed_leaf rests
missed_rests zero m w l one z x = refl
missed_rests (suc depth) m w l one z x = go (blocks_or (3 - suc depth) m) (λ c v o a y. missed_rests depth c v (omega arith) o a y)
  where
    go : Blocks (3 - suc depth) m ⊎ Barred (3 - suc depth) m
        → ((c : Map) (v : ℕ) → Chunk (3 - depth) c → start_of c % size_at (3 - depth) ≡ 0 → (0 < depth → Missed (3 - depth) c v)
        → needed_leaf depth c v ≡ rests depth c)
        → needed_leaf (suc depth) m w ≡ rests (suc depth) m
    go (inl b) ih =
        rule-whole (3 - suc depth) m w _ (omega arith) (missed_rule2 (3 - suc depth) m w (x (omega arith)))
        (fits_block (3 - suc depth) m w (omega arith) (missed_plain (x (omega arith))) z b)
        ∙ sym (rests_blocks (suc depth) m (omega arith) b.allowed b.frame b.ends)
    go (inr n) ih =
        let below = sum-rests depth (λ c. needed_leaf depth c (child_word (3 - suc depth) w (start_of c))) m (omega arith)
        (inl (left_next depth (start_of m) (omega arith) z))
        (λ c p o a. ih c (child_word (3 - suc depth) w (start_of c)) o a (missed_below depth m c w (omega arith) one p (x (omega arith)))) in
        rule-down (3 - suc depth) m w _ (omega arith) (missed_rule2 (3 - suc depth) m w (x (omega arith)))
        (barred_block (3 - suc depth) m w n) (missed_plain (x (omega arith)))
        ∙ ap₂ (λ (a b : ℕ). a + b) (sym (rest_one (3 - suc depth) m one.some one.within n)) below

-- ---- an entry that is no table

-- where rule 2 doesn't fit, it fits nothing past the first chunk below
later_missed : (level : ℕ) (m c : Map) (w : ℕ) → level + 1 < 3 → Chunk level m → Lawful level w → rule2 level m w ≡ false → Part m c
    → start_of m < start_of c
    → start_of c % size_at (level + 1) ≡ 0 → Missed (level + 1) c (child_word level w (start_of c))
later_missed level m c w h one law misses p after z = go (eq_or (w % 2) 1)
  where
    go : (w % 2 ≡ 1) ⊎ (w % 2 ≡ 1 → ⊥) → Missed (level + 1) c (child_word level w (start_of c))
    go (inl v) = missed_block level m c w h one.within p (odd law.plain) (law.aligned v) not_same
      where
        odd : (w % 4 ≡ 3 → ⊥) → w % 4 ≡ 1
        odd n = omega arith

        not_same : flags_of w ≡ m.flags → first_frame m ≡ address_of w + start_of m % size_at level → ⊥
        not_same f e =
            let t = says_same level m w (record { plain = law.plain; flags = f; place = e }) in
            let q : true ≡ false = sym t ∙ misses in
            true≢false q
    go (inr n) = missed_later level c w (omega arith) z (omega (arith, p.frame))

pub closed_leaf_lem : (depth : ℕ) (m : Map) (w : ℕ) → depth ≤ 3 → Chunk (3 - depth) m → (0 < depth → Lawful (3 - depth) w)
    → closed_leaf depth m w ≡ needed_leaf depth m w
unfolding closed_leaf needed_leaf
closed_leaf_lem zero m w l one law = refl
closed_leaf_lem (suc depth) m w l one law =
    go
    (closed_leaf_lem depth (first_chunk (3 - depth) m) (child_word (3 - suc depth) w (start_of m)) (omega arith)
    (first_chunk_lem (3 - depth) m one.some))
  where
    f : Map → ℕ
    f c = needed_leaf depth c (child_word (3 - suc depth) w (start_of c))

    next : 3 - suc depth + 1 ≡ 3 - depth
    next = level_next depth (omega arith)

    begins : (chunk_end (3 - depth) (start_of m) (end_of m) ≡ end_of m)
        ⊎ ((chunk_end (3 - depth) (start_of m) (end_of m) < end_of m)
        × (chunk_end (3 - depth) (start_of m) (end_of m) % size_at (3 - depth) ≡ 0))
        → (chunk_end (3 - depth) (start_of m) (end_of m) % size_at (3 - depth) ≡ 0)
        ⊎ (end_of m ≤ chunk_end (3 - depth) (start_of m) (end_of m))
    begins (inl e) = inr (omega arith)
    begins (inr d) = inl d.1

    each : rule2 (3 - suc depth) m w ≡ false → (c : Map) → Part (after_first (3 - depth) m) c → Chunk (3 - depth) c
        → start_of c % size_at (3 - depth) ≡ 0 → f c ≡ rests depth c
    each misses c p o z =
        let fit = chunk-fits (3 - depth) (start_of m) (end_of m) one.some in
        let part : Part m c =
        record {
          from = omega (arith, p.from, fit.0);
          below = p.below;
          frame = omega (arith, p.frame, p.from, fit.0);
          flags = p.flags;
        } in
        missed_rests depth c (child_word (3 - suc depth) w (start_of c)) (omega arith) o z
        (λ pos. subst (λ (n : ℕ). Missed n c (child_word (3 - suc depth) w (start_of c))) next
        (later_missed (3 - suc depth) m c w (omega arith) one (law (omega arith)) misses part (omega (arith, p.from, fit.0))
        (ap (λ (n : ℕ). start_of c % size_at n) next ∙ z)))

    go : ((0 < depth → Lawful (3 - depth) (child_word (3 - suc depth) w (start_of m)))
        → closed_leaf depth (first_chunk (3 - depth) m) (child_word (3 - suc depth) w (start_of m))
        ≡ needed_leaf depth (first_chunk (3 - depth) m) (child_word (3 - suc depth) w (start_of m)))
        → closed_leaf (suc depth) m w ≡ needed_leaf (suc depth) m w
    go ih = by_bool (rule2 (3 - suc depth) m w)
        (λ fits. rule_none (3 - suc depth) m w _ (omega arith) fits ∙ sym (rule_none (3 - suc depth) m w _ (omega arith) fits))
        (λ misses. ap (λ (x : ℕ). if_down (rule_of (3 - suc depth) m w) x) (same misses))
      where
        same : rule2 (3 - suc depth) m w ≡ false
            → 1 + closed_leaf depth (first_chunk (3 - depth) m) (child_word (3 - suc depth) w (start_of m))
            + rests depth (after_first (3 - depth) m)
            ≡ 1 + sum_chunks (3 - depth) f m
        same misses =
            let first = ih
            (λ pos. subst (λ (n : ℕ). Lawful n (child_word (3 - suc depth) w (start_of m))) next
            (child_lawful (3 - suc depth) w (start_of m) (omega arith) (law (omega arith)))) in
            let rest = sum-rests depth f (after_first (3 - depth) m) (omega arith) (begins (chunk_stops (3 - depth) (start_of m) (end_of m)))
            (each misses) in
            let both = sum_first (3 - depth) f m one.some in
            omega arith

-- where rule 5 fits a chunk of which rule 2 fits no part, and that begins with an entry of the next level: its table, and what is split in
-- that
missed_split : (depth : ℕ) (m : Map) (w : ℕ) → depth ≤ 2 → Chunk (3 - suc depth) m → start_of m % size_at (3 - depth) ≡ 0
    → Missed (3 - suc depth) m w
    → rule_of (3 - suc depth) m w ≡ Down → 1 + rests depth m ≡ closed_leaf (suc depth) m w
unfolding needed_leaf if_down
missed_split depth m w l one z x down =
    let f : Map → ℕ = λ c. needed_leaf depth c (child_word (3 - suc depth) w (start_of c)) in
    let below = sum-rests depth f m (omega arith) (inl z)
    (λ c p o a. missed_rests depth c (child_word (3 - suc depth) w (start_of c)) l o a (missed_below depth m c w (omega arith) one p x)) in
    sym
    (closed_leaf_lem (suc depth) m w (omega arith) one (λ pos. missed_lawful x)
    ∙ ap (λ (r : Rule). if_down r (1 + sum_chunks (3 - depth) f m)) down
    ∙ ap (λ (n : ℕ). 1 + n) below)

pub leaf_missed : (level : ℕ) (m : Map) (w : ℕ) → level < 2 → Chunk level m → start_of m % size_at (level + 1) ≡ 0 → Missed level m w
    → rule_of level m w ≡ Down
    → 1 + rests (3 - (level + 1)) m ≡ closed_leaf (3 - level) m w
leaf_missed zero m w h one z x down = missed_split 2 m w (omega arith) one z x down
leaf_missed (suc zero) m w h one z x down = missed_split 1 m w (omega arith) one z x down
leaf_missed (suc (suc l)) m w h one z x down = absurd (omega arith)

-- ---- a table, and all below it

-- every word of table k that is no table is lawful at its level, and so it is in the tables below
unfoldable pub LawfulTable : ℕ → Handle → St → ℕ → Type 0
LawfulTable zero h s k = ℕ
LawfulTable (suc depth) h s k =
    (i : ℕ) → i < 512
    → (sub_of h.base.0 (tables s) (3 - suc depth) (word_at s k i) ≡ Leaf → Lawful (3 - suc depth) (word_at s k i))
    × ((j : ℕ) → sub_of h.base.0 (tables s) (3 - suc depth) (word_at s k i) ≡ Table j → LawfulTable depth h s j)
