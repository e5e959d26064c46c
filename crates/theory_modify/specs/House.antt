-- The house rule for live edits (document 01, "Putting down a map", Modify, and refusal 10), by the Arm walk of the words: where a call
-- breaks it, and the lowest such address; and what refusals 9 to 11 leave. Definitions alone; `Change.house_rule_bits` says bit by bit what
-- `may_change` allows.
use Rattle.std.specs.Prelude.{◌≡◌, true, false, List, ◌⊎◌, ℕ, ◌+◌, ◌%◌, ◌≤◌, ◌<◌, length}
use Rattle.laws.specs.Size.{size_at, down}
use Rattle.region.specs.Region.{rounded}
use Rattle.pool.specs.State.{St, tables}
use Rattle.pool.specs.declared.Handle.{Handle}
use Rattle.pool.specs.Number.{free}
use Rattle.modify_entry.specs.Word.{edit_word}
use Rattle.modify_survey.specs.House.{may_change}
use Rattle.arm.specs.Arm.{Reached, at, reach}
use Rattle.theory_modify.specs.Terms.{ModifyArguments, edit_asked, InModifyRegion, made_by_modify, numbers_of}

-- where the lookups of an address end
abbrev pub reach_of : Handle → St → ℕ → Reached
reach_of h s va = reach h.base.0 (tables s) s.words va h.level

-- an address of the call's region whose lookups end at a valid word w of this level
pub record ValidEntry (h : Handle) (c : ModifyArguments) (s : St) (va level w : ℕ) : Type 0 where
  pub region : InModifyRegion c va
  pub ends : reach_of h s va ≡ at level w
  pub valid : w % 2 ≡ 1

-- the entry of this level that holds the address lies in the call's region as a whole: the call does not split it
pub record Covered (c : ModifyArguments) (level va : ℕ) : Type 0 where
  pub from : (rounded c.start c.end).start.0 ≤ down va (size_at level)
  pub upto : down va (size_at level) + size_at level ≤ (rounded c.start c.end).end.0

-- "only bits 0 (clearing), 7, 10, 11, 51, 53, 54 and 55 to 58 may change, and no valid entry is split": the call breaks this at the
-- address, where w stands
pub record Breaks (h : Handle) (c : ModifyArguments) (s : St) (va w : ℕ) : Type 0 where
  pub level : ℕ
  pub stands : ValidEntry h c s va level w
  pub rule : (¬ (Covered c level va)) ⊎ (may_change h w (edit_word level (edit_asked c) w) ≡ false)

-- "lowest address": the call breaks it at an address where w stands, and at no lower one
pub record LowestBreach (h : Handle) (c : ModifyArguments) (s : St) (w : ℕ) : Type 0 where
  pub address : ℕ
  pub breaks : Breaks h c s address w
  pub least : (b u : ℕ) → b < address → ¬ (Breaks h c s b u)

-- the call breaks the house rule nowhere
abbrev pub Keeps : Handle → ModifyArguments → St → Type 0
Keeps h c s = (va w : ℕ) → ¬ (Breaks h c s va w)

-- refusals 9 to 11 are not given: the tables that are made are free; a live call keeps the house rule and its numbers fit the list
pub record ModifyFits (h : Handle) (c : ModifyArguments) (s : St) (list : List ℕ) : Type 0 where
  pub room : made_by_modify h c s ≤ free s.ledger
  pub kept : c.live ≡ true → Keeps h c s
  pub enough : c.live ≡ true → length (numbers_of h c s) ≤ length list
