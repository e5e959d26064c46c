-- One table of the pool: its words replaced as a whole, zeroed, taken, freed.
use Rattle.std.specs.Prelude.{◌≡◌, refl, List, [], ◌∷◌, ◌⊎◌, ℕ, zero, suc, ◌+◌, ◌*◌, ◌-◌, ◌≤◌, ◌<◌, length, get_or, set, replicate}
use Rattle.std.proofs.Common.{sym, ◌∙◌, inl, inr, suc-mul, arith}
use Rattle.std.proofs.Math.Path.{ap}
use Rattle.std.proofs.lemmas.List.{length-replicate, get_or-replicate}
use Rattle.std.proofs.Math.ListN.{get_or-eq_default}
use Rattle.laws.specs.Part.{put_part, length-put}
use Rattle.laws.specs.Slot.{iter}
use Rattle.laws.specs.Test.{le_or}
use Rattle.entry.specs.Word.{link_of}
use Rattle.entry.specs.Sub.{sub_of}
use Rattle.entry.specs.declared.Sub.{Sub}
use Rattle.entry.specs.declared.Sub.TheVariants.{Table, Outside, Leaf}
use Rattle.pool.specs.State.{St, st, tables, word_at}
use Rattle.pool.specs.Number.{number_of, lowest_free}
use Rattle.pool.specs.declared.Handle.{Handle}
use Rattle.std.specs.Prelude.{None, Option, Some}

-- table k with the words t
unfoldable pub put_table : ℕ → List ℕ → List ℕ → List ℕ
put_table k t w = put_part (512 * k) t w

-- 512 zeros. Shut, since it would be written out wherever it stands.
unfoldable pub zeros : List ℕ
zeros = replicate 512 0

-- "a freed table is zeroed and entered as 0"
unfoldable pub clear : ℕ → St → St
clear k s = st (put_table k zeros s.words) (set s.ledger k 0)

-- n words: first, and one step more each
unfoldable pub rising : ℕ → ℕ → ℕ → List ℕ
rising zero first step = []
rising (suc n) first step = first ∷ rising n (first + step) step

-- table j taken for slot i of table p, at this level: filled with t, entered, then linked
unfoldable pub take_at : Handle → ℕ → ℕ → ℕ → List ℕ → ℕ → St → St
take_at h p level i t j s =
    st (set (put_table j t s.words) (512 * p + i) (link_of h.base.0 j)) (set s.ledger j (number_of p level i))

-- "a new table is always the lowest free number at that moment"
pub record Taken : Type 0 where
  pub table : Option ℕ
  pub state : St

abbrev pub taken : (Option ℕ) → St → Taken
taken f s = record { table = f; state = s }

unfoldable pub take_found : Handle → ℕ → ℕ → ℕ → List ℕ → St → Option ℕ → Taken
take_found h p level i t s (Some j) = taken (Some j) (take_at h p level i t j s)
take_found h p level i t s None = taken None s

unfoldable pub take_table : Handle → ℕ → ℕ → ℕ → List ℕ → St → Taken
take_table h p level i t s = take_found h p level i t s (lowest_free s.ledger)

-- ---- a whole subtree: what its slots lead to, one level down, and then the table itself

-- one slot's tables, freed by `rec`
unfoldable pub free_sub : (ℕ → St → St) → Sub → St → St
free_sub rec (Table j) s = rec j s
free_sub rec Outside s = s
free_sub rec Leaf s = s

unfoldable pub free_slot : (ℕ → St → St) → Handle → ℕ → ℕ → ℕ → St → St
free_slot rec h k level i s = free_sub rec (sub_of h.base.0 (tables s) level (word_at s k i)) s

-- table k with `depth` levels below its own
unfoldable pub free_tree : ℕ → Handle → ℕ → St → St
free_tree zero h k s = clear k s
free_tree (suc depth) h k s = clear k (iter (free_slot (λ j t. free_tree depth h j t) h k (3 - suc depth)) 512 s)

-- ---- laws: one for each way through the code

pub clear_is : (k : ℕ) (s : St) → st (put_table k zeros s.words) (set s.ledger k 0) ≡ clear k s
unfolding clear
clear_is k s = refl

pub take_none : (h : Handle) (p level i : ℕ) (t : List ℕ) (s : St) {f : Option ℕ} → f ≡ lowest_free s.ledger → f ≡ None
    → taken None s ≡ take_table h p level i t s
unfolding take_table take_found
take_none h p level i t s e q = ap (take_found h p level i t s) (sym q ∙ e)

pub take_some : (h : Handle) (p level i : ℕ) (t : List ℕ) (s : St) {f : Option ℕ} (j : ℕ) → f ≡ lowest_free s.ledger → f ≡ Some j
    → taken (Some j) (take_at h p level i t j s) ≡ take_table h p level i t s
unfolding take_table take_found
take_some h p level i t s j e q = ap (take_found h p level i t s) (sym q ∙ e)

module _ (rec : ℕ → St → St) (h : Handle) (k level i : ℕ) (s : St) {x : Sub}
    (is : x ≡ sub_of h.base.0 (tables s) level (word_at s k i)) where
  chosen : (y : Sub) → x ≡ y → free_sub rec y s ≡ free_slot rec h k level i s
  unfolding free_slot
  chosen y e = ap (λ (z : Sub). free_sub rec z s) (sym e ∙ is)

  pub slot_table : (j : ℕ) → x ≡ Table j → rec j s ≡ free_slot rec h k level i s
  unfolding free_sub
  slot_table j e = chosen (Table j) e

  pub slot_outside : x ≡ Outside → s ≡ free_slot rec h k level i s
  unfolding free_sub
  slot_outside e = chosen Outside e

  pub slot_leaf : x ≡ Leaf → s ≡ free_slot rec h k level i s
  unfolding free_sub
  slot_leaf e = chosen Leaf e

pub free-down : (h : Handle) (k level : ℕ) (s : St) → level < 3
    → clear k (iter (free_slot (λ j t. free_tree (3 - (level + 1)) h j t) h k level) 512 s) ≡ free_tree (3 - level) h k s
unfolding free_tree
free-down h k level s low =
    let e : suc (3 - (level + 1)) ≡ 3 - level = omega arith in
    let q : level ≡ 3 - suc (3 - (level + 1)) = omega arith in
    ap (λ (l : ℕ). clear k (iter (free_slot (λ j t. free_tree (3 - (level + 1)) h j t) h k l) 512 s)) q
    ∙ ap (λ (d : ℕ). free_tree d h k s) e

pub free_last : (h : Handle) (k level : ℕ) (s : St) → 3 ≤ level → clear k s ≡ free_tree (3 - level) h k s
unfolding free_tree
free_last h k level s high =
    let e : 0 ≡ 3 - level = omega arith in
    ap (λ (d : ℕ). free_tree d h k s) e

-- ---- lists of words

pub length-zeros : length zeros ≡ 512
unfolding zeros
length-zeros = length-replicate {A = ℕ} 512 0

pub zeros_at : (i : ℕ) → get_or zeros i 0 ≡ 0
unfolding zeros
zeros_at i = go (le_or 512 i)
  where
    go : (512 ≤ i) ⊎ (i < 512) → get_or zeros i 0 ≡ 0
    go (inl h) =
        let e = length-replicate {A = ℕ} 512 0 in
        let past : length (replicate {A = ℕ} 512 0) ≤ i = omega arith in
        get_or-eq_default (replicate 512 0) 0 past
    go (inr h) = get_or-replicate 512 i 0 0 h

pub length-rising : (n first step : ℕ) → length (rising n first step) ≡ n
unfolding rising
length-rising zero first step = refl
length-rising (suc n) first step = ap suc (length-rising n (first + step) step)

pub rising_at : (n first step i : ℕ) → i < n → get_or (rising n first step) i 0 ≡ first + i * step
unfolding rising
rising_at zero first step i h = absurd (omega arith)
rising_at (suc n) first step zero h = omega arith
rising_at (suc n) first step (suc i) h =
    rising_at n (first + step) step i (omega arith)
    ∙ (let e : first + step + i * step ≡ first + suc i * step = omega (arith, suc-mul i step) in e)

pub length-table : (k : ℕ) (t w : List ℕ) → length t ≡ 512 → 512 * k + 512 ≤ length w → length (put_table k t w) ≡ length w
unfolding put_table
length-table k t w e h = length-put (512 * k) t w (omega arith)
