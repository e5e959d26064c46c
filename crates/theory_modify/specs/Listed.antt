-- Exactly the entries that change are listed: for a page of the region, the number of the entry that shows it afterwards stands in the list
-- once if the page was mapped and its flags change, and else not at all. On trees.
use Rattle.std.specs.Prelude.{◌≡◌, cond, eqb}
use Prim.Native.Nat.{ℕ, ◌<◌}
use native.Mathlib.Omega.{arith}
use Rattle.entry.specs.Word.{edited}
use Rattle.theory_tree.specs.Page.{child, slot_of_page, In}
use Rattle.theory_tree.specs.Walk.{Seen, mapped, hole}

-- the page of a chunk's entry stands in the chunk's slot
pub slot_in_lem : (depth q i y : ℕ) → i < 512 → In depth (child q i) y → slot_of_page y depth ≡ i
unfolding slot_of_page child
slot_in_lem depth q i y inside at = omega arith

module _ (set clear : ℕ) where
  -- 1 for a page that is mapped and whose flags change
  unfoldable pub changes : Seen → ℕ
  changes (mapped f p) = cond (eqb (edited set clear f) f) 0 1
  changes (hole f) = 0
