-- Document 01, "Putting down a map", on trees: the five rules for an entry. A map stays whole on the way down, no chunk is cut and no frame
-- rises; `Document` proves that this is the document's loop.
use Rattle.std.specs.Prelude.{◌≡◌, Bool, true, not, cond, ◌&&◌, eqb, leb}
use Prim.Native.Nat.{ℕ, zero, suc, ◌+◌, ◌-◌, ◌%◌, ◌^◌, ◌≤◌, ◌<◌, min, max}
use native.Mathlib.Omega.{arith}
use Rattle.std.proofs.Math.Dec.{ltb}
use borrow.Author.Tests.{ltb-true, lt-ltb, leb-true, le-leb}
use Rattle.laws.specs.Test.{both}
use Rattle.entry.specs.Word.{flags_of, valid, Plain}
use Rattle.theory_forest.specs.Tree.{Tree, leaf, node}
use Rattle.theory_tree.specs.Page.{pages_in, span-zero}
use Rattle.theory_tree.specs.Word.{frame_in, leaf_word_of}
use Rattle.theory_tree.specs.Visit.{Rule, keep, write, down}

-- A call of map: the pages from `from` up to `upto`, to the frames from `frame` on, with the flags; `blocks` says that NO_BLOCK_MAPPINGS is
-- unset. Pages and frames are addresses / 4096.
pub record Map : Type 0 where
  pub from : ℕ
  pub upto : ℕ
  pub frame : ℕ
  pub flags : ℕ
  pub blocks : Bool

-- what the refusals leave of a call: flags that may be given (3 and 4), frame + length at most 2^48 (7)
pub record Given (m : Map) : Type 0 where
  pub plain : Plain m.flags
  pub ends : m.frame + (m.upto - m.from) ≤ 2 ^ 36

-- ---- tests, at an entry with `depth` levels below whose first page is b

-- region and entry share a page
unfoldable pub meets : ℕ → ℕ → Map → Bool
meets depth b m = ltb (max m.from b) (min m.upto (b + pages_in depth))

-- the chunk is the whole entry
unfoldable pub whole : ℕ → ℕ → Map → Bool
whole depth b m = leb m.from b && leb (b + pages_in depth) m.upto

-- the frame of the entry's first page
unfoldable pub frame_at : ℕ → Map → ℕ
frame_at b m = m.frame + (b - m.from)

-- rule 2: same flags, and frame at least the chunk's offset in the entry with difference equal to the entry's address
unfoldable pub same : ℕ → Map → ℕ → Bool
same b m w = eqb (flags_of w) m.flags && eqb (m.frame + b) (frame_in w + m.from)

-- rule 3: whole entry, frame aligned to the entry, blocks allowed, level above 0
unfoldable pub fits : ℕ → ℕ → Map → Bool
fits depth b m = whole depth b m && (eqb (frame_at b m % pages_in depth) 0 && (m.blocks && ltb depth 3))

-- rule 4: whole entry, not VALID
unfoldable pub drops : ℕ → ℕ → Map → Bool
drops depth b m = whole depth b m && not (valid m.flags)

-- the first rule that fits; below the lowest level no table stands
unfoldable pub map_rule : Map → ℕ → ℕ → Tree → Rule
map_rule m zero b (leaf w) = cond (meets zero b m) (write (leaf_word_of zero (frame_at b m) m.flags)) keep
map_rule m zero b (node f) = keep
map_rule m (suc depth) b (leaf w) =
    cond (meets (suc depth) b m)
    (cond (same b m w) keep (cond (fits (suc depth) b m) (write (leaf_word_of (suc depth) (frame_at b m) m.flags)) down)) keep
map_rule m (suc depth) b (node f) = cond (meets (suc depth) b m) (cond (drops (suc depth) b m) (write m.flags) down) keep

-- ---- what the tests say

module _ (depth b : ℕ) (m : Map) where
  pub meets_yes : meets depth b m ≡ true → (m.from < b + pages_in depth) × (b < m.upto) × (m.from < m.upto)
  unfolding meets
  meets_yes e = let h = ltb-true (max m.from b) (min m.upto (b + pages_in depth)) e in (omega arith, omega arith, omega arith)

  pub yes_meets : (page : ℕ) → m.from ≤ page → page < m.upto → b ≤ page → page < b + pages_in depth → meets depth b m ≡ true
  unfolding meets
  yes_meets page p q r s = lt-ltb (max m.from b) (min m.upto (b + pages_in depth)) (omega arith)

  pub whole_yes : whole depth b m ≡ true → (m.from ≤ b) × (b + pages_in depth ≤ m.upto)
  unfolding whole
  whole_yes e =
      let h = both (leb m.from b) (leb (b + pages_in depth) m.upto) e in
      (leb-true m.from b h.0, leb-true (b + pages_in depth) m.upto h.1)

  pub yes_whole : m.from ≤ b → b + pages_in depth ≤ m.upto → whole depth b m ≡ true
  unfolding whole
  yes_whole p q = rw (le-leb m.from b p, le-leb (b + pages_in depth) m.upto q)

module _ (b : ℕ) (m : Map) where
  -- a page that a region meets lies in it
  pub page_in : meets zero b m ≡ true → (m.from ≤ b) × (b < m.upto)
  page_in e = let h = meets_yes zero b m e in let z = span-zero in (omega arith, omega arith)
