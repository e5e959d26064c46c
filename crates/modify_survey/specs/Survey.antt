-- What an edit would do, entry by entry, ascending (document 01, "Putting down a map", Modify, and refusals 9, 10 and 11). Leans on
-- `House`.
use Rattle.std.specs.Prelude.{◌≡◌, Option, Some, None, true, false, ◌⊎◌, eqb, ltb}
use Rattle.std.proofs.Common.{sym, ◌∙◌, inl, inr, ⊎_elim}
use Rattle.std.proofs.Math.Path.{ap, ap₂}
use Rattle.std.proofs.Math.Bool.{cond}
use Prim.Native.Nat.{ℕ, zero, suc, ◌+◌, ◌-◌, ◌≤◌, ◌<◌}
use native.Mathlib.Omega.{arith}
use borrow.Author.Tests.{eq-eqb, ne_eqb, lt-ltb}
use Rattle.laws.specs.Test.{le_or}
use Rattle.entry.specs.Word.{kind_of}
use Rattle.entry.specs.Sub.{sub_of}
use Rattle.entry.specs.declared.Kind.{Kind}
use Rattle.entry.specs.declared.Kind.TheVariants.{Table as table, Block, Page, Hole}
use Rattle.entry.specs.declared.Sub.{Sub}
use Rattle.entry.specs.declared.Sub.TheVariants.{Table, Outside, Leaf}
use Rattle.address_slot.specs.Slot.{entry_index}
use Rattle.region.specs.Region.{whole}
use Rattle.region.specs.Each.{each_chunk}
use Rattle.region.specs.declared.MemoryRegion.{MemoryRegion}
use Rattle.pool.specs.State.{St, tables, word_at}
use Rattle.pool.specs.declared.Handle.{Handle}
use Rattle.modify_entry.specs.declared.Edit.{Edit}
use Rattle.modify_entry.specs.Word.{chunk_edit, edit_word}
use Rattle.modify_survey.specs.declared.Survey.{Survey}
use Rattle.modify_survey.specs.House.{may_change}

-- the splits for a chunk of an entry that is no table, with `depth` levels below the entry's: none if it is the whole entry; else the
-- entry's own, and those of the chunks in the new table
unfoldable pub adding : (MemoryRegion → ℕ) → MemoryRegion → ℕ → ℕ
adding f c n = n + f c

unfoldable pub splits_in : ℕ → MemoryRegion → ℕ
splits_in zero r = 0
splits_in (suc depth) r = let more = each_chunk (3 - depth) (adding (λ c. splits_in depth c)) r 1 in cond (whole (3 - suc depth) r) 0 more

-- refusal 10: "live house rule broken; lowest address" carries the old word, so the first one stays
abbrev pub first_broken : Option ℕ → ℕ → Option ℕ
first_broken (Some old) w = Some old
first_broken None w = Some w

unfoldable pub breach : ℕ → Survey → Survey
breach w v = record { splits = v.splits; numbers = v.numbers; broken = first_broken v.broken w }

-- "a partly covered entry is split first, hole or not"; live, "no valid entry is split"
unfoldable pub if_block : Kind → Survey → Survey → Survey
if_block table v x = x
if_block Block v x = v
if_block Page v x = x
if_block Hole v x = x

unfoldable pub survey_part : ℕ → MemoryRegion → ℕ → Survey → Survey
survey_part level r w v =
    let x : Survey = record { splits = v.splits + splits_in (3 - level) r; numbers = v.numbers; broken = v.broken } in
    if_block (kind_of level w) (breach w x) x

-- a whole entry: a number if its word changes, and a breach if the house rule doesn't allow the change
unfoldable pub survey_whole : Handle → ℕ → Edit → ℕ → Survey → Survey
survey_whole h level e w v =
    let new = edit_word level e w in
    let x : Survey = record { splits = v.splits; numbers = v.numbers + 1; broken = v.broken } in
    cond (eqb new w) v (cond (may_change h w new) x (breach w x))

-- a chunk of an entry that is no table; at level 3 a chunk of whole pages is its entry
unfoldable pub survey_entry : Handle → ℕ → Edit → ℕ → Survey → Survey
survey_entry h level e w v = cond (whole level e.region) (survey_whole h level e w v) (survey_part level e.region w v)

-- a table goes down; a sound pool has no table word that leads outside
unfoldable pub survey_sub : Sub → (ℕ → Survey) → Survey → Survey → Survey
survey_sub (Table j) rec x v = rec j
survey_sub Outside rec x v = v
survey_sub Leaf rec x v = x

unfoldable pub survey_chunk : (ℕ → Edit → Survey → Survey) → Handle → St → ℕ → ℕ → Edit → MemoryRegion → Survey → Survey
survey_chunk rec h s k level e c v =
    let w = word_at s k (entry_index level c.start.0) in
    survey_sub (sub_of h.base.0 (tables s) level w) (λ j. rec j (chunk_edit e c) v) (survey_entry h level (chunk_edit e c) w v) v

-- an edit of table k with `depth` levels below its own
unfoldable pub survey_range : ℕ → Handle → St → ℕ → Edit → Survey → Survey
survey_range zero h s k e v = each_chunk 3 (survey_chunk (λ j n x. x) h s k 3 e) e.region v
survey_range (suc depth) h s k e v =
    each_chunk (3 - suc depth) (survey_chunk (λ j n x. survey_range depth h s j n x) h s k (3 - suc depth) e) e.region v

-- ---- laws: one for each way through the code

pub adding_is : (f : MemoryRegion → ℕ) (c : MemoryRegion) (n : ℕ) {x : ℕ} → x ≡ f c → n + x ≡ adding f c n
unfolding adding
adding_is f c n e = ap (λ (y : ℕ). n + y) e

module _ (level : ℕ) (r : MemoryRegion) where
  pub splits_page : 3 ≤ level → 0 ≡ splits_in (3 - level) r
  unfolding splits_in
  splits_page h = let e : 0 ≡ 3 - level = omega arith in ap (λ (x : ℕ). splits_in x r) e

  -- the level below
  splits_open : level < 3
      → splits_in (3 - level) r ≡ cond (whole level r) 0 (each_chunk (level + 1) (adding (splits_in (3 - (level + 1)))) r 1)
  unfolding splits_in
  splits_open h =
      let e : 3 - level ≡ suc (3 - (level + 1)) = omega arith in
      let p : 3 - suc (3 - (level + 1)) ≡ level = omega arith in
      let q : 3 - (3 - (level + 1)) ≡ level + 1 = omega arith in
      ap (λ (x : ℕ). splits_in x r) e ∙ ap₂ (λ (x y : ℕ). cond (whole x r) 0 (each_chunk y (adding (splits_in (3 - (level + 1)))) r 1)) p q

  pub splits-whole : level < 3 → whole level r ≡ true → 0 ≡ splits_in (3 - level) r
  splits-whole h e = rw (splits_open h, e)

  pub splits_part : level < 3 → whole level r ≡ false
      → each_chunk (level + 1) (adding (splits_in (3 - (level + 1)))) r 1 ≡ splits_in (3 - level) r
  splits_part h e = rw (splits_open h, e)

module _ (w : ℕ) (v : Survey) where
  pub breach_kept : (old : ℕ) → v.broken ≡ Some old → v ≡ breach w v
  unfolding breach
  breach_kept old e =
      let same : v.broken ≡ first_broken v.broken w = rw e in
      ap with_broken same
    where
      with_broken : Option ℕ → Survey
      with_broken b = record { splits = v.splits; numbers = v.numbers; broken = b }

  pub breach-first : v.broken ≡ None
      → ◌≡◌ {A = Survey} (record { splits = v.splits; numbers = v.numbers; broken = Some w }) (breach w v)
  unfolding breach
  breach-first e = rw e

module _ (level : ℕ) (r : MemoryRegion) (w : ℕ) (v : Survey) {n : ℕ} (counts : n ≡ splits_in (3 - level) r) {x : Kind}
    (is : x ≡ kind_of level w) where
  abbrev split : Survey
  split = record { splits = v.splits + n; numbers = v.numbers; broken = v.broken }

  pub part_block : x ≡ Block → breach w split ≡ survey_part level r w v
  unfolding survey_part if_block
  part_block e = rw (← is, e, ← counts)

  pub part_other : (x ≡ table) ⊎ ((x ≡ Page) ⊎ (x ≡ Hole)) → split ≡ survey_part level r w v
  unfolding survey_part if_block
  part_other (inl e) = rw (← is, e, ← counts)
  part_other (inr (inl e)) = rw (← is, e, ← counts)
  part_other (inr (inr e)) = rw (← is, e, ← counts)

module _ (h : Handle) (level : ℕ) (e : Edit) (w : ℕ) (v : Survey) where
  abbrev changed : Survey
  changed = record { splits = v.splits; numbers = v.numbers + 1; broken = v.broken }

  module _ {new : ℕ} (is : new ≡ edit_word level e w) where
    pub whole_same : new ≡ w → v ≡ survey_whole h level e w v
    unfolding survey_whole
    whole_same q = rw (← is, eq-eqb new w q)

    module _ (q : new ≡ w → ⊥) where
      pub whole_allowed : may_change h w new ≡ true → changed ≡ survey_whole h level e w v
      unfolding survey_whole
      whole_allowed m = rw (← is, ne_eqb new w q, m)

      pub whole-breach : may_change h w new ≡ false → breach w changed ≡ survey_whole h level e w v
      unfolding survey_whole
      whole-breach m = rw (← is, ne_eqb new w q, m)

  pub entry_whole : whole level e.region ≡ true → survey_whole h level e w v ≡ survey_entry h level e w v
  unfolding survey_entry
  entry_whole q = rw q

  pub entry_part : whole level e.region ≡ false → survey_part level e.region w v ≡ survey_entry h level e w v
  unfolding survey_entry
  entry_part q = rw q

-- at level 3 there is nothing below
unfoldable pub survey_below : Handle → St → ℕ → ℕ → Edit → Survey → Survey
survey_below h s level = cond (ltb level 3) (λ j n x. survey_range (3 - (level + 1)) h s j n x) (λ j n x. x)

-- one chunk of table k
unfoldable pub survey_step : Handle → St → ℕ → ℕ → Edit → MemoryRegion → Survey → Survey
survey_step h s k level e = survey_chunk (survey_below h s level) h s k level e

pub survey_open : (h : Handle) (s : St) (k level : ℕ) (e : Edit) (v : Survey) → level ≤ 3
    → each_chunk level (survey_step h s k level e) e.region v ≡ survey_range (3 - level) h s k e v
unfolding survey_step survey_below survey_range
survey_open h s k level e v l = ⊎_elim
    (λ ge.
    let q : 3 ≡ level = omega arith in
    ap
    (λ (x : ℕ). each_chunk x (survey_chunk (cond (ltb x 3) (λ j n y. survey_range (3 - (x + 1)) h s j n y) (λ j n y. y)) h s k x e)
    e.region v)
    (sym q)
    ∙ ap (λ (x : ℕ). survey_range (3 - x) h s k e v) q)
    (λ lt.
    let p : suc (3 - (level + 1)) ≡ 3 - level = omega arith in
    let q : level ≡ 3 - suc (3 - (level + 1)) = omega arith in
    rw (lt-ltb level 3 lt)
    (ap (λ (x : ℕ). each_chunk x (survey_chunk (λ j n y. survey_range (3 - (level + 1)) h s j n y) h s k x e) e.region v) q
    ∙ ap (λ (x : ℕ). survey_range x h s k e v) p))
    (le_or 3 level)

module _ (h : Handle) (s : St) (k level : ℕ) (e : Edit) (c : MemoryRegion) (v : Survey) {i : ℕ} (index : i ≡ entry_index level c.start.0)
    {x : Sub} (is : x ≡ sub_of h.base.0 (tables s) level (word_at s k i)) where
  found : (y : Sub) → x ≡ y
      → survey_sub y (λ j. survey_below h s level j (chunk_edit e c) v) (survey_entry h level (chunk_edit e c) (word_at s k i) v) v
      ≡ survey_step h s k level e c v
  unfolding survey_step survey_chunk
  found y q = rw (← index, ← is, q)

  pub step-table : (j : ℕ) → x ≡ Table j → level < 3
      → survey_range (3 - (level + 1)) h s j (chunk_edit e c) v ≡ survey_step h s k level e c v
  unfolding survey_sub survey_below
  step-table j q l = rw (← found (Table j) q, lt-ltb level 3 l)

  pub step-entry : x ≡ Leaf → survey_entry h level (chunk_edit e c) (word_at s k i) v ≡ survey_step h s k level e c v
  unfolding survey_sub
  step-entry q = found Leaf q

  pub step_outside : x ≡ Outside → v ≡ survey_step h s k level e c v
  unfolding survey_sub
  step_outside q = found Outside q
