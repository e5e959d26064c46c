-- The call of modify on a pool that refusals 1 to 8 leave: it is refused 9 exactly when the tree's count exceeds what is free, and where it
-- is accepted it leaves a sound pool whose root shows the tree after the modify.
use Rattle.std.specs.Prelude.{◌≡◌, true, List, ℕ, ◌≤◌, ◌<◌, length, None, Some}
use Rattle.pool.specs.State.{St}
use Rattle.pool.specs.Number.{free}
use Rattle.pool.specs.declared.Handle.{Handle}
use Rattle.modify_range.specs.Range.{Work, work, modify_range}
use Rattle.theory_map.specs.Terms.{depth_of}
use Rattle.theory_modify.specs.Terms.{ModifyArguments, edit_asked, surveyed, made_by_modify, numbers_of}

-- the pool and the list that an accepted call leaves
abbrev pub work_after : Handle → ModifyArguments → St → List ℕ → Work
work_after h c s list = modify_range (depth_of h) h 0 (edit_asked c) (work s list 0)

-- ---- what the call answers

-- none of refusals 9 to 11 is given, by the survey
pub record Clear (h : Handle) (c : ModifyArguments) (s : St) (list : List ℕ) : Type 0 where
  pub room : made_by_modify h c s ≤ free s.ledger
  pub kept : c.live ≡ true → (surveyed h c s).broken ≡ None
  pub enough : c.live ≡ true → length (numbers_of h c s) ≤ length list

-- refusals 9, 10 and 11, or none of them
pub data Judged (h : Handle) (c : ModifyArguments) (s : St) (list : List ℕ) : Type 0 where
  is_full : free s.ledger < made_by_modify h c s → Judged h c s list
  is_broken : made_by_modify h c s ≤ free s.ledger → c.live ≡ true → (w : ℕ) → (surveyed h c s).broken ≡ Some w → Judged h c s list
  is_short : made_by_modify h c s ≤ free s.ledger → c.live ≡ true → (surveyed h c s).broken ≡ None
      → length list < length (numbers_of h c s) → Judged h c s list
  is_clear : Clear h c s list → Judged h c s list
