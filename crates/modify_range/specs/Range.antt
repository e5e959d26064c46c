-- Modify in a table and those below it (document 01, "Putting down a map", Modify). Leans on `Own` of crates/modify_entry.
use Rattle.std.specs.Prelude.{◌≡◌, Bool, true, false, not, cond, ◌&&◌, List, ℕ, zero, suc, ◌+◌, ◌-◌, ◌%◌, ◌≤◌, ◌<◌}
use Rattle.std.proofs.Common.{sym, ap, ◌∙◌, arith, eq-eqb, ne_eqb}
use Rattle.address_slot.specs.Slot.{entry_index}
use Rattle.region.specs.Region.{whole}
use Rattle.region.specs.Each.{each_chunk}
use Rattle.region.specs.declared.MemoryRegion.{MemoryRegion}
use Rattle.pool.specs.State.{St, st, word_at}
use Rattle.pool.specs.Number.{in_found}
use Rattle.pool.specs.declared.Handle.{Handle}
use Rattle.pool_table.specs.Table.{Taken, taken}
use Rattle.map_rules.specs.Rules.{table_word}
use Rattle.map_split.specs.Split.{below}
use Rattle.modify_entry.specs.declared.Edit.{Edit}
use Rattle.modify_entry.specs.Word.{chunk_edit}
use Rattle.modify_entry.specs.Own.{Noted, noted, own_range}
use Rattle.std.specs.Prelude.{None, Option, Some}

-- the lent pool with the lent list
pub record Work : Type 0 where
  pub state : St
  pub list : List ℕ
  pub count : ℕ

abbrev pub work : St → List ℕ → ℕ → Work
work s l n = record { state = s; list = l; count = n }

-- a chunk's entry is edited where it stands: a whole entry that is no table
unfoldable pub own : ℕ → MemoryRegion → ℕ → Bool
own level c w = not (table_word w) && whole level c

-- a chunk of table k that goes down: to the table that is there, or to a new one ("a partly covered entry is split first, hole or not")
unfoldable pub down_chunk : (ℕ → MemoryRegion → Work → Work) → Handle → ℕ → ℕ → MemoryRegion → Work → Work
down_chunk rec h k level c w =
    let i = entry_index level c.start.0 in
    let t = below h k level i w.state in
    let done = in_found (λ j. rec j c) t.table (work t.state w.list w.count) in
    cond (own level c (word_at w.state k i)) w done

-- a table's own entries
unfoldable pub own_work : ℕ → ℕ → Edit → Work → Work
own_work k level e w =
    let n = own_range k level e (noted w.state.words w.list w.count) in
    work (st n.words w.state.ledger) n.list n.count

-- an edit of table k with `depth` levels below its own: "a lower table's numbers when that table is finished, a table's own last", so first
-- the chunks that go down, then the table's own entries
unfoldable pub modify_range : ℕ → Handle → ℕ → Edit → Work → Work
modify_range zero h k e w = own_work k 3 e w
modify_range (suc depth) h k e w =
    let lower = each_chunk (3 - suc depth) (down_chunk (λ j c. modify_range depth h j (chunk_edit e c)) h k (3 - suc depth)) e.region w in
    own_work k (3 - suc depth) e lower

-- ---- laws: one for each way through the code

pub own-table : (level : ℕ) (c : MemoryRegion) (w : ℕ) → w % 4 ≡ 3 → false ≡ own level c w
unfolding own table_word
own-table level c w e = rw (eq-eqb (w % 4) 3 e)

pub own_leaf : (level : ℕ) (c : MemoryRegion) (w : ℕ) → (w % 4 ≡ 3 → ⊥) → whole level c ≡ own level c w
unfolding own table_word
own_leaf level c w n = rw (ne_eqb (w % 4) 3 n)

pub own_done : (k level : ℕ) (e : Edit) (w : Work) {words list : List ℕ} {count : ℕ}
    → noted words list count ≡ own_range k level e (noted w.state.words w.list w.count)
    → work (st words w.state.ledger) list count ≡ own_work k level e w
unfolding own_work
own_done k level e w q = ap (λ (n : Noted). work (st n.words w.state.ledger) n.list n.count) q

-- one chunk that goes down
unfoldable pub down_step : Handle → ℕ → ℕ → Edit → MemoryRegion → Work → Work
down_step h k level e = down_chunk (λ j c. modify_range (3 - (level + 1)) h j (chunk_edit e c)) h k level

pub modify_pages_lem : (h : Handle) (k level : ℕ) (e : Edit) (w : Work) → level ≤ 3 → 3 ≤ level
    → own_work k level e w ≡ modify_range (3 - level) h k e w
unfolding modify_range
modify_pages_lem h k level e w l m =
    let q : level ≡ 3 = omega arith in
    ap (λ (x : ℕ). own_work k x e w) q ∙ ap (λ (x : ℕ). modify_range (3 - x) h k e w) (sym q)

pub modify_open : (h : Handle) (k level : ℕ) (e : Edit) (w : Work) → level < 3
    → own_work k level e (each_chunk level (down_step h k level e) e.region w) ≡ modify_range (3 - level) h k e w
unfolding modify_range down_step
modify_open h k level e w l =
    let p : suc (3 - (level + 1)) ≡ 3 - level = omega arith in
    let q : level ≡ 3 - suc (3 - (level + 1)) = omega arith in
    ap (λ (x : ℕ). own_work k x e (each_chunk x (down_chunk (λ j c. modify_range (3 - (level + 1)) h j (chunk_edit e c)) h k x) e.region w)) q
    ∙ ap (λ (x : ℕ). modify_range x h k e w) p

module _ (h : Handle) (k level : ℕ) (e : Edit) (c : MemoryRegion) (w : Work) {i : ℕ} (index : i ≡ entry_index level c.start.0) where
  pub step-own : own level c (word_at w.state k i) ≡ true → w ≡ down_step h k level e c w
  unfolding down_step down_chunk
  step-own q = rw (← index, q)

  module _ (q : own level c (word_at w.state k i) ≡ false) {f : Option ℕ} {t : St} (found : taken f t ≡ below h k level i w.state) where
    gone-down : in_found (λ j. modify_range (3 - (level + 1)) h j (chunk_edit e c)) f (work t w.list w.count) ≡ down_step h k level e c w
    unfolding down_step down_chunk
    gone-down =
        rw (← index, q)
        (ap
        (λ (x : Taken). in_found (λ j. modify_range (3 - (level + 1)) h j (chunk_edit e c)) x.table
        (work x.state w.list w.count)) found)

    pub step_none : f ≡ None → work t w.list w.count ≡ down_step h k level e c w
    unfolding in_found
    step_none z = rw (← gone-down, z)

    pub step-into : (j : ℕ) → f ≡ Some j
        → modify_range (3 - (level + 1)) h j (chunk_edit e c) (work t w.list w.count) ≡ down_step h k level e c w
    unfolding in_found
    step-into j z = rw (← gone-down, z)
