-- The words in which document 01's Modify is said of the call: the call and its answer, its region, the flags after it, the tree after it
-- and the tables that it makes. Definitions alone; the walk and the root's span are those of `theory_map`.
use Rattle.std.specs.Prelude.{◌≡◌, Bool, cond, List, ℕ, Ok}
use Rattle.entry.specs.Word.{edited}
use Rattle.region.specs.Region.{rounded}
use Rattle.region.specs.Chunks.{Holds}
use Rattle.pool.specs.State.{St}
use Rattle.pool.specs.Refuse.{Shaped, granted}
use Rattle.pool.specs.declared.Handle.{Handle}
use Rattle.modify_entry.specs.declared.Edit.{Edit}
use Rattle.modify_survey.specs.declared.Survey.{Survey}
use Rattle.modify.specs.declared.Modified.TheVariants.{Tables, Live}
use Rattle.modify_verify.specs.Verify.{asked_edit, verify_edit}
use Rattle.modify.specs.Call.{ModifyAnswer, Modifying, modifying, modify_call, survey_of}
use Rattle.theory_forest.specs.Tree.{Tree}
use Rattle.theory_sound.specs.Clauses.{SoundPool}
use Rattle.theory_sound.specs.Codec.{root_tree}
use Rattle.theory_tree.specs.Modify.{Modify, modify_tree, modify_made}
use Rattle.theory_tree.specs.DocumentModify.{modify_pages}
use Rattle.theory_map.specs.Terms.{depth_of, root_in}
use Rattle.theory_modify.specs.Numbers.{table_numbers}

-- ---- the call

-- what a call of modify gives: two addresses, the bits to set and to clear, and whether the tables are in use meanwhile
pub record ModifyArguments : Type 0 where
  pub start : ℕ
  pub end : ℕ
  pub set : ℕ
  pub clear : ℕ
  pub live : Bool

-- answer, state and list, as the contract of the public call has them
abbrev pub modify_answer : Handle → ModifyArguments → St → List ℕ → Modifying
modify_answer h c s list = modify_call h c.start c.end c.set c.clear c.live s list

-- "live modify adds its count of numbers"
unfoldable pub modify_accepted : Bool → ℕ → ℕ → ModifyAnswer
modify_accepted live tables numbers = Ok (cond live (Live tables numbers) (Tables tables))

-- the call is accepted: it answers n tables and, live, k numbers, and leaves the state s' and the list list'
pub record Modifies (h : Handle) (c : ModifyArguments) (s : St) (list : List ℕ) (n k : ℕ) (s' : St) (list' : List ℕ) : Type 0 where
  pub answers : modify_answer h c s list ≡ modifying (modify_accepted c.live n k) s' list'

-- the edit that it asks for
abbrev pub edit_asked : ModifyArguments → Edit
edit_asked c = asked_edit c.start c.end c.set c.clear c.live

-- refusals 1 to 8 are not given
pub record ModifyPassed (h : Handle) (c : ModifyArguments) (s : St) : Type 0 where
  pub shape : Shaped h s
  pub asks : verify_edit h c.end (edit_asked c) ≡ granted
  pub pool : SoundPool h s

-- what the call finds before anything is written
abbrev pub surveyed : Handle → ModifyArguments → St → Survey
surveyed h c s = survey_of h (edit_asked c) s

-- the address lies in the call's region: "start is rounded down and end up to 4096"
abbrev pub InModifyRegion : ModifyArguments → ℕ → Type 0
InModifyRegion c va = Holds (rounded c.start c.end) va

-- the flags f after the edit: "bits to set and to clear"
abbrev pub flags_after : ModifyArguments → ℕ → ℕ
flags_after c f = edited c.set c.clear f

-- ---- the root's tree

-- the call in pages
abbrev pub modify_pages_of : ModifyArguments → Modify
modify_pages_of c = let e = edit_asked c in modify_pages e.set e.clear e.region.start.0 e.region.end.0

-- the tree after the modify, and the tables that it makes (splits); it frees none
abbrev pub tree_after_modify : Handle → ModifyArguments → St → Tree
tree_after_modify h c s = modify_tree (depth_of h) (root_in h) (modify_pages_of c) (root_tree h s)

abbrev pub made_by_modify : Handle → ModifyArguments → St → ℕ
made_by_modify h c s = modify_made (depth_of h) (root_in h) (modify_pages_of c) (root_tree h s)

-- the numbers of the entries whose words change: "a lower table's numbers when that table is finished, a table's own last, ascending"
abbrev pub numbers_of : Handle → ModifyArguments → St → List ℕ
numbers_of h c s = let e = edit_asked c in table_numbers e.set e.clear (depth_of h) e.region (root_tree h s)
