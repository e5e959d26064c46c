-- Document 01, "The refusal slip", as a table of its own: when each refusal is given and what it carries, call by call. Definitions alone,
-- in the slip's order and words. Refusals 1 to 8 and 10 cite no test of the code; 9 and 11 cite the counts that they are about (`needed`,
-- `lines_of`, `survey_of`).
use Rattle.std.specs.Prelude.{◌≡◌, Bool, true, List, ◌⊎◌, ◌≢◌, ℕ, ◌+◌, ◌*◌, ◌-◌, ◌/◌, ◌%◌, ◌^◌, ◌≤◌, ◌<◌, length}
use Rattle.std.specs.Int.Bits.{bit_and}
use Rattle.laws.specs.Size.{span}
use Rattle.address.specs.declared.VirtualAddress.{VirtualAddress}
use Rattle.region.specs.Region.{rounded}
use Rattle.region.specs.declared.MemoryRegion.{MemoryRegion}
use Rattle.pool.specs.State.{St, tables}
use Rattle.pool.specs.Number.{free}
use Rattle.pool.specs.Refuse.{max_tables}
use Rattle.pool.specs.Sound.{flag_set}
use Rattle.pool.specs.declared.Handle.{Handle}
use Rattle.pool.specs.declared.VaRange.{VaRange}
use Rattle.pool.specs.declared.VaRange.TheVariants.{Lower, Upper}
use Rattle.pool.specs.declared.Refusal.{Refusal}
use Rattle.pool.specs.declared.Refusal.TheVariants.{Shape, End, InvalidFlags, FlagSet, RegionBackwards, AddressRange, Frame, Unsound}
use Rattle.pool.specs.declared.Refusal.TheVariants.{WantOfRoom, HouseRule, Short}
use Rattle.theory_sound.specs.Clauses.{SoundPool}
use Rattle.arm.specs.Arm.{walk, outside}
use Rattle.list_lines.specs.Lines.{lines_of}
use Rattle.map_count_spec.specs.Needed.{needed}
use Rattle.map_verify.specs.Verify.{asked_map}
use Rattle.modify_verify.specs.Verify.{asked_edit}
use Rattle.modify.specs.Call.{survey_of}
use Rattle.theory_modify.specs.House.{LowestBreach}

-- ---- "Given exactly when"

-- 1: "n is 0 or above 4096, lengths disagree, base not a multiple of 4096 or its end above 2^48, root level above 3"
abbrev pub Misshaped : Handle → St → Type 0
Misshaped h s =
    (tables s ≡ 0) ⊎ ((max_tables < tables s) ⊎ ((length s.words ≢ 512 * tables s)
    ⊎ ((h.base.0 % 4096 ≢ 0) ⊎ ((2 ^ 48 < h.base.0 + 4096 * tables s) ⊎ (3 < h.level)))))

-- 2: "end is 0 or above 2^64 - 4096"
abbrev pub BadEnd : ℕ → Type 0
BadEnd end = (end ≡ 0) ⊎ (2 ^ 64 - 4096 < end)

-- 3: "a flag argument has bit 1"
abbrev pub HasBit1 : ℕ → Type 0
HasBit1 flags = flags / 2 % 2 ≡ 1

-- 4: "a flag outside the set"
abbrev pub OutsideSet : Handle → ℕ → Type 0
OutsideSet h flags = bit_and flags (flag_set h) ≢ flags

-- 5: "rounded end below rounded start"
abbrev pub Backwards : MemoryRegion → Type 0
Backwards r = r.end.0 < r.start.0

-- 6: "`AddressRange`, as `verify_region` tests it", and the address that it names
abbrev pub BeyondRange : VaRange → ℕ → MemoryRegion → VirtualAddress → Type 0
BeyondRange Lower level r a =
    ((2 ^ 63 ≤ r.start.0) × (a ≡ r.start)) ⊎ ((r.start.0 < 2 ^ 63) × (span level < r.end.0) × (a ≡ r.end))
BeyondRange Upper level r a = ((r.start.0 < 2 ^ 63) ⊎ (r.start.0 < 2 ^ 64 - span level)) × (a ≡ r.start)

-- "look up: address outside the root's span"
abbrev pub BeyondSpan : VaRange → ℕ → ℕ → Type 0
BeyondSpan Lower level va = span level ≤ va
BeyondSpan Upper level va = va < 2 ^ 64 - span level

-- 7: "frame not a multiple of 4096, or frame + length above 2^48"
abbrev pub BadFrame : ℕ → MemoryRegion → Type 0
BadFrame frame r = (frame % 4096 ≢ 0) ⊎ (2 ^ 48 < frame + (r.end.0 - r.start.0))

-- ---- the calls, each with its lines of the slip

-- "Making has 1"
unfoldable pub MakeSlip : Handle → St → Refusal → Type 0
MakeSlip h s Shape = Misshaped h s
MakeSlip h s (End e) = ⊥
MakeSlip h s (InvalidFlags f) = ⊥
MakeSlip h s (FlagSet f) = ⊥
MakeSlip h s (RegionBackwards r) = ⊥
MakeSlip h s (AddressRange a) = ⊥
MakeSlip h s (Frame f) = ⊥
MakeSlip h s Unsound = ⊥
MakeSlip h s (WantOfRoom n f) = ⊥
MakeSlip h s (HouseRule w) = ⊥
MakeSlip h s (Short n) = ⊥

-- "the pool check, compact 1, 8"
unfoldable pub CheckSlip : Handle → St → Refusal → Type 0
CheckSlip h s Shape = Misshaped h s
CheckSlip h s (End e) = ⊥
CheckSlip h s (InvalidFlags f) = ⊥
CheckSlip h s (FlagSet f) = ⊥
CheckSlip h s (RegionBackwards r) = ⊥
CheckSlip h s (AddressRange a) = ⊥
CheckSlip h s (Frame f) = ⊥
CheckSlip h s Unsound = ¬ (SoundPool h s)
CheckSlip h s (WantOfRoom n f) = ⊥
CheckSlip h s (HouseRule w) = ⊥
CheckSlip h s (Short n) = ⊥

-- "look up 1, 6, 8": 8 where "a table word on its path points outside the pool"
unfoldable pub LookUpSlip : Handle → St → ℕ → Refusal → Type 0
LookUpSlip h s va Shape = Misshaped h s
LookUpSlip h s va (End e) = ⊥
LookUpSlip h s va (InvalidFlags f) = ⊥
LookUpSlip h s va (FlagSet f) = ⊥
LookUpSlip h s va (RegionBackwards r) = ⊥
LookUpSlip h s va (AddressRange a) = (a.0 ≡ va) × BeyondSpan h.range h.level va
LookUpSlip h s va (Frame f) = ⊥
LookUpSlip h s va Unsound = walk h.base.0 (tables s) s.words va h.level ≡ outside
LookUpSlip h s va (WantOfRoom n f) = ⊥
LookUpSlip h s va (HouseRule w) = ⊥
LookUpSlip h s va (Short n) = ⊥

-- "page image 1, 11": of 1 also "table number not below n"
unfoldable pub ImageSlip : Handle → St → ℕ → List ℕ → Refusal → Type 0
ImageSlip h s k page Shape = Misshaped h s ⊎ (tables s ≤ k)
ImageSlip h s k page (End e) = ⊥
ImageSlip h s k page (InvalidFlags f) = ⊥
ImageSlip h s k page (FlagSet f) = ⊥
ImageSlip h s k page (RegionBackwards r) = ⊥
ImageSlip h s k page (AddressRange a) = ⊥
ImageSlip h s k page (Frame f) = ⊥
ImageSlip h s k page Unsound = ⊥
ImageSlip h s k page (WantOfRoom n f) = ⊥
ImageSlip h s k page (HouseRule w) = ⊥
ImageSlip h s k page (Short n) = (n ≡ 4096) × (length page ≢ 4096)

-- "list 1, 2, 5, 6, 8, 11": "needed length in the buffer's own numbers (four a line)"
unfoldable pub ListSlip : Handle → St → ℕ → ℕ → List ℕ → Refusal → Type 0
ListSlip h s start end list Shape = Misshaped h s
ListSlip h s start end list (End e) = (e ≡ end) × BadEnd end
ListSlip h s start end list (InvalidFlags f) = ⊥
ListSlip h s start end list (FlagSet f) = ⊥
ListSlip h s start end list (RegionBackwards r) = (r ≡ rounded start end) × Backwards r
ListSlip h s start end list (AddressRange a) = BeyondRange h.range h.level (rounded start end) a
ListSlip h s start end list (Frame f) = ⊥
ListSlip h s start end list Unsound = ¬ (SoundPool h s)
ListSlip h s start end list (WantOfRoom n f) = ⊥
ListSlip h s start end list (HouseRule w) = ⊥
ListSlip h s start end list (Short n) = (n ≡ 4 * length (lines_of h s (rounded start end))) × (length list < n)

-- "map 1 to 9": 9 where "new tables needed exceed those free at entry"
unfoldable pub MapSlip : Handle → St → ℕ → ℕ → ℕ → ℕ → ℕ → Refusal → Type 0
MapSlip h s start end frame flags constraints Shape = Misshaped h s
MapSlip h s start end frame flags constraints (End e) = (e ≡ end) × BadEnd end
MapSlip h s start end frame flags constraints (InvalidFlags f) = (f ≡ flags) × HasBit1 flags
MapSlip h s start end frame flags constraints (FlagSet f) = (f ≡ flags) × OutsideSet h flags
MapSlip h s start end frame flags constraints (RegionBackwards r) = (r ≡ rounded start end) × Backwards r
MapSlip h s start end frame flags constraints (AddressRange a) = BeyondRange h.range h.level (rounded start end) a
MapSlip h s start end frame flags constraints (Frame f) = (f.0 ≡ frame) × BadFrame frame (rounded start end)
MapSlip h s start end frame flags constraints Unsound = ¬ (SoundPool h s)
MapSlip h s start end frame flags constraints (WantOfRoom n f) =
    (n ≡ needed (3 - h.level) h s 0 (asked_map start end frame flags constraints)) × (f ≡ free s.ledger) × (f < n)
MapSlip h s start end frame flags constraints (HouseRule w) = ⊥
MapSlip h s start end frame flags constraints (Short n) = ⊥

-- 3, modify: "that argument, set before clear"
abbrev pub BadBit : ℕ → ℕ → ℕ → Type 0
BadBit set clear f = ((f ≡ set) × HasBit1 set) ⊎ ((f ≡ clear) × (¬ (HasBit1 set)) × HasBit1 clear)

-- 4, modify: "a flag outside the set; bit 0 to set, or a bit both set and cleared"; "for a clash, set"
abbrev pub BadToSet : Handle → ℕ → ℕ → Type 0
BadToSet h set clear = OutsideSet h set ⊎ ((set % 2 ≡ 1) ⊎ (bit_and set clear ≢ 0))

abbrev pub BadFlags : Handle → ℕ → ℕ → ℕ → Type 0
BadFlags h set clear f = ((f ≡ set) × BadToSet h set clear) ⊎ ((f ≡ clear) × (¬ (BadToSet h set clear)) × OutsideSet h clear)

-- "modify 1 to 6, 8, 9 and, live, 10, 11": the survey of an edit counts its splits and its numbers; 10 names the word at the lowest
-- address, by the Arm walk, where the call breaks the house rule
unfoldable pub ModifySlip : Handle → St → ℕ → ℕ → ℕ → ℕ → Bool → List ℕ → Refusal → Type 0
ModifySlip h s start end set clear live list Shape = Misshaped h s
ModifySlip h s start end set clear live list (End e) = (e ≡ end) × BadEnd end
ModifySlip h s start end set clear live list (InvalidFlags f) = BadBit set clear f
ModifySlip h s start end set clear live list (FlagSet f) = BadFlags h set clear f
ModifySlip h s start end set clear live list (RegionBackwards r) = (r ≡ rounded start end) × Backwards r
ModifySlip h s start end set clear live list (AddressRange a) = BeyondRange h.range h.level (rounded start end) a
ModifySlip h s start end set clear live list (Frame f) = ⊥
ModifySlip h s start end set clear live list Unsound = ¬ (SoundPool h s)
ModifySlip h s start end set clear live list (WantOfRoom n f) =
    (n ≡ (survey_of h (asked_edit start end set clear live) s).splits) × (f ≡ free s.ledger) × (f < n)
ModifySlip h s start end set clear live list (HouseRule w) =
    (live ≡ true) × LowestBreach h (record { start = start; end = end; set = set; clear = clear; live = live }) s w
ModifySlip h s start end set clear live list (Short n) =
    (live ≡ true) × (n ≡ (survey_of h (asked_edit start end set clear live) s).numbers) × (length list < n)
