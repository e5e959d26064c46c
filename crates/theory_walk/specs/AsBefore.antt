-- Document 01, "What a word says": what "as before" compares of a walk's answer. Definitions alone.
use Rattle.std.specs.Prelude.{ℕ}
use Rattle.pool.specs.State.{St, tables}
use Rattle.pool.specs.declared.Handle.{Handle}
use Rattle.arm.specs.Arm.{Walked, hole as armHole, block as armBlock, page as armPage, outside, walk}

-- the Arm walk of an address in the pool s
abbrev pub walk_of : Handle → St → ℕ → Walked
walk_of h s va = walk h.base.0 (tables s) s.words va h.level

-- "kind of answer (mapped or hole), frame and flags"; `away` where a table word leads away from the pool. "A split may change the level."
pub data Shown : Type 0 where
  mapped : (flags frame : ℕ) → Shown
  hole : (flags : ℕ) → Shown
  away : Shown

unfoldable pub shown : Walked → Shown
shown (armHole level flags) = hole flags
shown (armBlock level flags frame) = mapped flags frame
shown (armPage level flags frame) = mapped flags frame
shown outside = away
