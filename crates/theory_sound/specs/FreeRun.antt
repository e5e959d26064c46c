-- The recursion that frees a subtree zeroes exactly the tables under its top, in words and ledger, and leaves every other table as it was.
use Rattle.std.specs.Prelude.{◌≡◌, refl, ◌⊎◌, ◌≢◌}
use Rattle.std.proofs.Common.{sym, ap, ◌∙◌, subst, inl, inr, arith}
use Prim.Native.Nat.{ℕ, zero, suc, ◌-◌, ◌%◌, ◌≤◌, ◌<◌}
use Rattle.laws.specs.Slot.{iter}
use Rattle.laws.specs.Test.{eq_or}
use Rattle.entry.specs.Sub.{sub_leaf, sub_link}
use Rattle.pool.specs.State.{St, tables, word_at, number_at, used_in}
use Rattle.pool.specs.Refuse.{Shaped}
use Rattle.pool_table.specs.Table.{clear, free_slot, free_tree, slot_table, slot_leaf}
use Rattle.pool.specs.declared.Handle.{Handle}
use Rattle.theory_forest.specs.Sound.{Codec, Refers, Sound}
use Rattle.theory_forest.specs.Under.{Under, NotUnder, LevelsLeft, under_self, under-zero}
use Rattle.theory_forest.proofs.Under.{under_via, refers_level, refers_table}
use Rattle.theory_forest.proofs.Under.{refers_child, refers_under, refers_over, refers_one}
use Rattle.theory_sound.specs.Codec.{shaped_placed, codec_of, slot_word, view, word_in}
use Rattle.theory_sound.specs.Clauses.{InUse, level_at}
use Rattle.theory_sound.specs.Lists.{TableInside, SameSize, size_refl, size_trans, clear-size, clear-number, clear_number_other}
use Rattle.theory_sound.specs.Lists.{clear-word, clear_word_other}

-- table j of q is zeroed
pub record Zeroed (q : St) (j : ℕ) : Type 0 where
  pub number : number_at q j ≡ 0
  pub words : (i : ℕ) → slot_word q j i ≡ 0

-- table j of q' is as in q
pub record Kept (q q' : St) (j : ℕ) : Type 0 where
  pub number : number_at q' j ≡ number_at q j
  pub words : (i : ℕ) → slot_word q' j i ≡ slot_word q j i

kept_self : {q : St} {j : ℕ} → Kept q q j
kept_self = record { number = refl; words = λ i. refl }

kept_trans : {q q' q'' : St} {j : ℕ} → Kept q q' j → Kept q' q'' j → Kept q q'' j
kept_trans a b = record { number = b.number ∙ a.number; words = λ i. b.words i ∙ a.words i }

zeroed_kept : {q q' : St} {j : ℕ} → Zeroed q j → Kept q q' j → Zeroed q' j
zeroed_kept a b = record { number = b.number ∙ a.number; words = λ i. b.words i ∙ a.words i }

-- s is the sound pool that the run is measured by; the run itself goes over other states, whose words under the top are those of s
module _ {h : Handle} {s : St} (shape : Shaped h s) (S : Sound (codec_of h (shaped_placed shape)) (view s)) where
  abbrev C : Codec
  C = codec_of h (shaped_placed shape)

  -- what a run at table d does
  pub record Freed (d : ℕ) (q q' : St) : Type 0 where
    pub gone : (j m : ℕ) → Under C (view s) d m j → Zeroed q' j
    pub rest : (j : ℕ) → NotUnder C (view s) d j → Kept q q' j
    pub size : SameSize q q'

  -- what the loop at table d has done after n slots
  record Done (d n : ℕ) (q q' : St) : Type 0 where
    gone : (j i e m : ℕ) → Refers C (view s) d i e → i < n → Under C (view s) e m j → Zeroed q' j
    rest : (j : ℕ) → ((i e m : ℕ) → Refers C (view s) d i e → i < n → ¬ (Under C (view s) e m j)) → Kept q q' j
    size : SameSize q q'

  -- a run at d starts from here: the lists are as long as those of s, and the words under d are those of s
  pub record Starts (d : ℕ) (q : St) : Type 0 where
    pub size : SameSize s q
    pub words : (j m : ℕ) → Under C (view s) d m j → (i : ℕ) → slot_word q j i ≡ slot_word s j i

  inside : (d : ℕ) {q : St} → InUse s d → SameSize s q → TableInside q d
  inside d used size = omega (arith, used_in s d used, shape.sized, size.same-words)

  -- ---- after the loop the table itself is cleared

  clear-freed : (d : ℕ) (q q₁ : St) → InUse s d → SameSize s q₁ → Done d 512 q q₁ → Freed d q (clear d q₁)
  clear-freed d q q₁ used size done = record {
    gone = gone;
    rest =
        λ j off. kept_trans (done.rest j (λ i e m r l under. off (suc m) (refers_under r under)))
        (kept j (λ same. off 0 (rw same (under_self used))));
    size = size_trans done.size (clear-size d q₁ at);
  }
    where
      at : TableInside q₁ d
      at = inside d used size

      kept : (j : ℕ) → j ≢ d → Kept q₁ (clear d q₁) j
      kept j other = record { number = clear_number_other d q₁ j other; words = λ i. clear_word_other d q₁ at j i other }

      gone : (j m : ℕ) → Under C (view s) d m j → Zeroed (clear d q₁) j
      gone j zero under = rw (under-zero under) (record { number = clear-number d q₁; words = clear-word d q₁ at })
      gone j (suc m) under =
          let via = under_via S under in
          let r = via.refers in
          let slot : via.slot < 512 = rw (← r.at) (C.slot_lt (number_at s via.top)) in
          zeroed_kept (done.gone j via.slot via.top via.deep r slot via.under)
          (kept j (λ same. omega (arith, under.deep, ap (level_at s) same)))

  -- ---- one slot more

  -- what is still to be shown of a table one level down
  abbrev Below : ℕ → Type 0
  Below depth = (e : ℕ) (q : St) → InUse s e → LevelsLeft C (view s) e depth → Starts e q → Freed e q (free_tree depth h e q)

  module _ (depth d n : ℕ) (q q₁ : St) (used : InUse s d) (low : LevelsLeft C (view s) d (suc depth)) (start : Starts d q) (slot : n < 512)
      (done : Done d n q q₁) (below : Below depth) where
    abbrev step : St
    step = free_slot (λ j t. free_tree depth h j t) h d (3 - suc depth) n q₁

    size : SameSize s q₁
    size = size_trans start.size done.size

    -- d's own words still stand
    reads : word_at q₁ d n ≡ slot_word s d n
    reads =
        sym (word_in q₁ d n slot) ∙ (done.rest d (λ i e m r l under. refers_over r m under)).words n ∙ start.words d 0 (under_self used) n

    -- the slot refers to no table
    slot_plain : slot_word s d n % 4 ≢ 3 → Done d (suc n) q step
    slot_plain other =
        let stays : q₁ ≡ step = slot_leaf (λ j t. free_tree depth h j t) h d (3 - suc depth) n q₁ refl
        (sym
        (sub_leaf h.base.0 (tables q₁) (3 - suc depth) (word_at q₁ d n)
        (λ table. other (ap (λ (w : ℕ). w % 4) (sym reads) ∙ table.1)))) in
        subst (Done d (suc n) q) stays (record {
          gone = λ j i e m r l under. done.gone j i e m r (before i e r l) under;
          rest = λ j off. done.rest j (λ i e m r l under. off i e m r (omega arith) under);
          size = done.size;
        })
      where
        before : (i e : ℕ) → Refers C (view s) d i e → i < suc n → i < n
        before i e r l = let ne : i ≢ n = λ same. other (rw same at (refers_table r).1) in omega arith

    -- a slot that refers to table e
    slot_refers : (e : ℕ) → Refers C (view s) d n e → Done d (suc n) q step
    slot_refers e r = subst (Done d (suc n) q) goes (record {
      gone = λ j i c m rc l under. gone j i c m rc l under (eq_or i n);
      rest =
          λ j off. kept_trans (done.rest j (λ i c m rc l under. off i c m rc (omega arith) under))
          (run.rest j (λ m under. off n e m r (omega arith) under));
      size = size_trans done.size run.size;
    })
      where
        run : Freed e q₁ (free_tree depth h e q₁)
        run = below e q₁ r.used (omega (arith, low, refers_level r)) (record {
          size = size;
          words = λ j m under i.
              (done.rest j (λ i' c m' rc l under'. omega (arith, l, refers_one rc r under' under))).words i
              ∙ start.words j (suc m) (refers_under r under) i;
        })

        goes : free_tree depth h e q₁ ≡ step
        goes = slot_table (λ j t. free_tree depth h j t) h d (3 - suc depth) n q₁ refl e
            (rw (reads ∙ r.says)
            (sub_link h.base.0 (tables q₁) e (3 - suc depth) (omega arith) shape.paged
            (omega (arith, shape.ended, size.same_tables))
            (omega (arith, used_in s e r.used, size.same_tables))))

        gone : (j i c m : ℕ) → Refers C (view s) d i c → i < suc n → Under C (view s) c m j → (i ≡ n) ⊎ (i ≢ n)
            → Zeroed (free_tree depth h e q₁) j
        gone j i c m rc l under (inl same) =
            let one : c ≡ e = sym (refers_child rc) ∙ ap (λ (i : ℕ). C.child (slot_word s d i)) same ∙ refers_child r in
            run.gone j m (rw (← one) under)
        gone j i c m rc l under (inr other) =
            zeroed_kept (done.gone j i c m rc (omega arith) under) (run.rest j (λ m' under'. other (refers_one rc r under under')))

    slot_more : Done d (suc n) q step
    slot_more = go (eq_or (slot_word s d n % 4) 3)
      where
        go : (slot_word s d n % 4 ≡ 3) ⊎ (slot_word s d n % 4 ≢ 3) → Done d (suc n) q step
        go (inl both) = let at = S.names d n used (omega (arith, low), both) in slot_refers at.0 at.1
        go (inr other) = slot_plain other

  -- ---- the loop, and the whole

  loop : (depth d n : ℕ) (q : St) → InUse s d → LevelsLeft C (view s) d (suc depth) → Starts d q → n ≤ 512 → Below depth
      → Done d n q (iter (free_slot (λ j t. free_tree depth h j t) h d (3 - suc depth)) n q)
  unfolding iter
  loop depth d zero q used low start small below = record {
    gone = λ j i e m r l under. absurd (omega arith);
    rest = λ j off. kept_self;
    size = size_refl;
  }
  loop depth d (suc n) q used low start small below =
      slot_more depth d n q (iter (free_slot (λ j t. free_tree depth h j t) h d (3 - suc depth)) n q) used low start (omega arith)
      (loop depth d n q used low start (omega arith) below) below

  -- FREE: the run zeroes exactly the tables under d
  pub tree_freed : (depth d : ℕ) (q : St) → InUse s d → LevelsLeft C (view s) d depth → Starts d q → Freed d q (free_tree depth h d q)
  unfolding free_tree
  tree_freed zero d q used low start = clear-freed d q q used start.size (record {
    gone = λ j i e m r l under. absurd (omega (arith, refers_level r, low, C.level_le (number_at s e)));
    rest = λ j off. kept_self;
    size = size_refl;
  })
  tree_freed (suc depth) d q used low start =
      let done = loop depth d 512 q used low start (omega arith) (λ e q used low start. tree_freed depth e q used low start) in
      clear-freed d q _ used (size_trans start.size done.size) done
