-- The words in which the demands on the call are said: the call and its answer, its region, the root's span, the tables that a map makes
-- and frees. Definitions alone.
use Rattle.std.specs.Prelude.{◌≡◌, true, List, [], ◌∷◌, ℕ, ◌+◌, ◌-◌, ◌%◌, ◌^◌, ◌<◌, Ok}
use Rattle.laws.specs.Size.{down}
use Rattle.region.specs.Region.{rounded}
use Rattle.region.specs.Chunks.{Holds}
use Rattle.pool.specs.State.{St}
use Rattle.pool.specs.Refuse.{Shaped, Out, out, granted, Counted}
use Rattle.pool.specs.declared.Handle.{Handle}
use Rattle.pool.specs.declared.VaRange.{VaRange}
use Rattle.pool.specs.declared.VaRange.TheVariants.{Lower, Upper}
use Rattle.map_rules.specs.declared.Map.{Map}
use Rattle.map_verify.specs.Verify.{asked_map, verify_map}
use Rattle.map_spec.specs.Call.{map_call}
use Rattle.theory_forest.specs.Tree.{Tree}
use Rattle.theory_sound.specs.Clauses.{SoundPool}
use Rattle.theory_sound.specs.Codec.{root_tree}
use Rattle.look_up.specs.Call.{spanned}
use Rattle.theory_tree.specs.Rules.{Map as TreeMap}
use Rattle.theory_tree.specs.Chunks.{in_pages}
use Rattle.theory_tree.specs.Root.{lower_root, upper_root, map_tree, map_made, map_freed}

-- ---- the call

-- the numbers that a call of map gives
pub record MapArguments : Type 0 where
  pub start : ℕ
  pub end : ℕ
  pub frame : ℕ
  pub flags : ℕ
  pub constraints : ℕ

-- answer and state, as the contract of the public call has them
abbrev pub map_answer : Handle → MapArguments → St → Out Counted
map_answer h c s = map_call h c.start c.end c.frame c.flags c.constraints s

-- the call is accepted: it answers n and leaves s'
pub record Maps (h : Handle) (c : MapArguments) (s : St) (n : ℕ) (s' : St) : Type 0 where
  pub answers : map_answer h c s ≡ out (Ok n) s'

-- VALID, bit 0 of the flags
abbrev pub Valid : MapArguments → Type 0
Valid c = c.flags % 2 ≡ 1

-- the map that it asks for
abbrev pub map_asked : MapArguments → Map
map_asked c = asked_map c.start c.end c.frame c.flags c.constraints

-- refusals 2 to 7 are not given
abbrev pub Asks : Handle → MapArguments → Type 0
Asks h c = verify_map h c.end (map_asked c) ≡ granted

-- refusals 1 and 8 are not given
pub record ShapedSound (h : Handle) (s : St) : Type 0 where
  pub shape : Shaped h s
  pub pool : SoundPool h s

-- refusals 1 to 8 are not given
pub record MapPassed (h : Handle) (c : MapArguments) (s : St) : Type 0 where
  pub shape : Shaped h s
  pub asks : Asks h c
  pub pool : SoundPool h s

-- the address lies in the call's region: "start is rounded down and end up to 4096"
abbrev pub InMapRegion : MapArguments → ℕ → Type 0
InMapRegion c va = Holds (rounded c.start c.end) va

-- the frame that the call gives to the page of an address
abbrev pub frame_for : MapArguments → ℕ → ℕ
frame_for c va = c.frame + (down va 4096 - (rounded c.start c.end).start.0)

-- ---- several calls

-- the regions share no page
abbrev pub RegionsApart : MapArguments → MapArguments → Type 0
RegionsApart c d = (va : ℕ) → InMapRegion c va → ¬ (InMapRegion d va)

-- the calls of a list, one after the other, are all accepted, and leave s'
pub data InTurn (h : Handle) : List MapArguments → St → St → Type 0 where
  none : {s : St} → InTurn h [] s s
  next : {c : MapArguments} {cs : List MapArguments} {s t s' : St} {n : ℕ} → Maps h c s n t → InTurn h cs t s' → InTurn h (c ∷ cs) s s'

-- ---- the span

-- the address lies in the root's span
pub record InSpan (h : Handle) (va : ℕ) : Type 0 where
  pub spans : spanned h.range h.level va ≡ true
  pub word : va < 2 ^ 64

-- ---- the root's tree

-- the levels below the root's entries, and the root's number in its range
abbrev pub depth_of : Handle → ℕ
depth_of h = 3 - h.level

unfoldable pub root_of : VaRange → ℕ → ℕ
root_of Lower depth = lower_root
root_of Upper depth = upper_root depth

abbrev pub root_in : Handle → ℕ
root_in h = root_of h.range (depth_of h)

-- the call in pages
abbrev pub map_pages_of : MapArguments → TreeMap
map_pages_of c = let m = map_asked c in in_pages m.flags m.blocks m.region.start.0 m.region.end.0 m.frame.0

-- the tree after the map, the tables that it makes (splits), those that it frees (subtrees that are written over)
abbrev pub tree_after_map : Handle → MapArguments → St → Tree
tree_after_map h c s = map_tree (depth_of h) (root_in h) (map_pages_of c) (root_tree h s)

abbrev pub made_by : Handle → MapArguments → St → ℕ
made_by h c s = map_made (depth_of h) (root_in h) (map_pages_of c) (root_tree h s)

abbrev pub freed_by : Handle → MapArguments → St → ℕ
freed_by h c s = map_freed (depth_of h) (root_in h) (map_pages_of c) (root_tree h s)
