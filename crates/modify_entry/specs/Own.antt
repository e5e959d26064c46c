-- A table's own entries (document 01, "Putting down a map", Modify): the words that change, and the numbers that are listed. Leans on
-- `Word`, and on `Each` of crates/region.
use Rattle.std.specs.Prelude.{◌≡◌, refl, Bool, true, false, cond, ◌&&◌, List, ℕ, ◌+◌}
use Rattle.std.specs.Prelude.{◌*◌, ◌/◌, ◌%◌, ◌^◌, ◌≤◌, ◌<◌, eqb, ltb, length, get_or, set}
use Rattle.std.proofs.Common.{ap}
use borrow.Author.Tests.{eq-eqb, ne_eqb, lt-ltb, le-ltb}
use Rattle.address_slot.specs.Slot.{entry_index}
use Rattle.region.specs.Each.{each_chunk}
use Rattle.region.specs.declared.MemoryRegion.{MemoryRegion}
use Rattle.modify_entry.specs.declared.Edit.{Edit}
use Rattle.modify_entry.specs.Word.{edit_word}

-- a lent list, and how many numbers stand at its front
pub record Numbered : Type 0 where
  pub count : ℕ
  pub list : List ℕ

abbrev pub numbered : ℕ → List ℕ → Numbered
numbered n l = record { count = n; list = l }

-- live, a number goes after the others, if the list has room; "not live, the list stays untouched"
unfoldable pub put_number : Bool → ℕ → ℕ → List ℕ → Numbered
put_number live number count list =
    cond (live && ltb count (length list)) (numbered (count + 1) (set list count number)) (numbered count list)

-- the words of a pool with a lent list
pub record Noted : Type 0 where
  pub words : List ℕ
  pub list : List ℕ
  pub count : ℕ

abbrev pub noted : List ℕ → List ℕ → ℕ → Noted
noted w l n = record { words = w; list = l; count = n }

-- "the page number (address / 4096 mod 2^44) of each valid entry whose word changed"
unfoldable pub own_chunk : ℕ → ℕ → Edit → MemoryRegion → Noted → Noted
own_chunk k level e c n =
    let x = 512 * k + entry_index level c.start.0 in
    let w = get_or n.words x 0 in
    let new = edit_word level e w in
    let l = put_number e.live (c.start.0 / 4096 % 2 ^ 44) n.count n.list in
    cond (eqb new w) n (noted (set n.words x new) l.list l.count)

-- "ascending". A table's word is no leaf and stays; a chunk that is part of an entry has had a table since the entry was split.
unfoldable pub own_range : ℕ → ℕ → Edit → Noted → Noted
own_range k level e n = each_chunk level (own_chunk k level e) e.region n

-- ---- laws: one for each way through the code

module _ (number count : ℕ) (list : List ℕ) where
  pub number_off : (live : Bool) → live ≡ false → numbered count list ≡ put_number live number count list
  unfolding put_number
  number_off live e = rw e

  pub number_full : (live : Bool) → live ≡ true → length list ≤ count → numbered count list ≡ put_number live number count list
  unfolding put_number
  number_full live e h = rw (e, le-ltb count (length list) h)

  pub number_put : (live : Bool) → live ≡ true → count < length list
      → numbered (count + 1) (set list count number) ≡ put_number live number count list
  unfolding put_number
  number_put live e h = rw (e, lt-ltb count (length list) h)

module _ (k level : ℕ) (e : Edit) (c : MemoryRegion) (n : Noted) {i : ℕ} (index : i ≡ entry_index level c.start.0)
    {new : ℕ} (is : new ≡ edit_word level e (get_or n.words (512 * k + i) 0)) where
  pub own_same : new ≡ get_or n.words (512 * k + i) 0 → n ≡ own_chunk k level e c n
  unfolding own_chunk
  own_same q = rw (← index, ← is, eq-eqb new (get_or n.words (512 * k + i) 0) q)

  pub own-changed : (new ≡ get_or n.words (512 * k + i) 0 → ⊥) → {number : ℕ} → number ≡ c.start.0 / 4096 % 2 ^ 44
      → {count : ℕ} {list : List ℕ} → numbered count list ≡ put_number e.live number n.count n.list
      → noted (set n.words (512 * k + i) new) list count ≡ own_chunk k level e c n
  unfolding own_chunk
  own-changed q at put =
      rw (← index, ← is, ne_eqb new (get_or n.words (512 * k + i) 0) q, ← at)
      (ap (λ (l : Numbered). noted (set n.words (512 * k + i) new) l.list l.count) put)

pub own_all : (k level : ℕ) (e : Edit) (n : Noted) → each_chunk level (own_chunk k level e) e.region n ≡ own_range k level e n
unfolding own_range
own_all k level e n = refl
