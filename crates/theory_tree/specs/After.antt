-- Demand 2's walk: what each page shows after a map.
use Rattle.std.specs.Prelude.{◌≡◌, Bool, true, false, cond, ◌&&◌, ℕ, ◌+◌, ◌-◌, ◌%◌, ◌≤◌, ◌<◌, leb, ltb}
use Rattle.std.proofs.Math.Path.{sym}
use Rattle.std.proofs.Common.{◌∙◌, true≢false}
use native.Mathlib.Omega.{arith}
use borrow.Author.Tests.{leb-true, le-leb, ltb-true, lt-ltb}
use Rattle.laws.specs.Test.{by_bool, both}
use Rattle.entry.specs.Word.{valid}
use Rattle.theory_tree.specs.Page.{pages_in, first, In, in_from, in_rest}
use Rattle.theory_tree.specs.Walk.{Seen, mapped, hole}
use Rattle.theory_tree.specs.Rules.{Map, meets, whole, frame_at, yes_meets, whole_yes}

-- the page is one of the region
unfoldable pub covers : Map → ℕ → Bool
covers m page = leb m.from page && ltb page m.upto

-- what it then shows: its frame and the flags; "after a map without VALID the region's pages are holes with its flags"
unfoldable pub asked : Map → ℕ → Seen
asked m page = cond (valid m.flags) (mapped m.flags (m.frame + (page - m.from))) (hole m.flags)

-- what a page shows after the map, from what it showed before
unfoldable pub after : Map → ℕ → Seen → Seen
after m page old = cond (covers m page) (asked m page) old

module _ (m : Map) (page : ℕ) where
  pub yes_covers : m.from ≤ page → page < m.upto → covers m page ≡ true
  unfolding covers
  yes_covers p q = rw (le-leb m.from page p, lt-ltb page m.upto q)

  pub covers_yes : covers m page ≡ true → (m.from ≤ page) × (page < m.upto)
  unfolding covers
  covers_yes e =
      let h = both (leb m.from page) (ltb page m.upto) e in (leb-true m.from page h.0, ltb-true page m.upto h.1)

  pub after_in : (old : Seen) → covers m page ≡ true → after m page old ≡ asked m page
  unfolding after
  after_in old e = rw e

  pub after-out : (old : Seen) → covers m page ≡ false → after m page old ≡ old
  unfolding after
  after-out old e = rw e

  pub asked-valid : valid m.flags ≡ true → asked m page ≡ mapped m.flags (m.frame + (page - m.from))
  unfolding asked
  asked-valid v = rw v

  pub asked_hole : valid m.flags ≡ false → asked m page ≡ hole m.flags
  unfolding asked
  asked_hole v = rw v

-- ---- the pages of an entry

module _ (m : Map) (depth q page : ℕ) (at : In depth q page) where
  -- an entry that the region does not meet has none of its pages
  pub off_out : meets depth (first depth q) m ≡ false → covers m page ≡ false
  off_out e = by_bool (covers m page)
      (λ c. let x = covers_yes m page c in let y = in_from depth q page at in
      absurd (true≢false (sym (yes_meets depth (first depth q) m page x.0 x.1 y.0 y.1) ∙ e)))
      (λ c. c)

  -- of a whole entry it has all
  pub whole_in : whole depth (first depth q) m ≡ true → covers m page ≡ true
  whole_in e =
      let x = whole_yes depth (first depth q) m e in let y = in_from depth q page at in yes_covers m page (omega arith) (omega arith)

  -- the frame of the entry's first page, and the page's offset
  pub frame_page_lem : m.from ≤ first depth q → frame_at (first depth q) m + page % pages_in depth ≡ m.frame + (page - m.from)
  unfolding frame_at
  frame_page_lem h = let r = in_rest depth q page at in omega arith
