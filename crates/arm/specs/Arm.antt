-- The table walk of the Arm Architecture Reference Manual (VMSAv8-64, stage 1, 4 KB granule, 48-bit addresses), over the words of a pool.
-- This is the page to believe: it cites no helper of the code and reads any words, sound or not.
use Rattle.std.specs.Prelude.{cond, ◌&&◌, ◌||◌, List, ℕ, zero, suc, ◌+◌, ◌*◌, ◌-◌, ◌/◌, ◌%◌, ◌^◌, eqb, leb, ltb, get_or}

-- x[hi:lo], a field of bits as the manual writes it
unfoldable pub bits : ℕ → ℕ → ℕ → ℕ
bits hi lo x = x / 2 ^ lo % 2 ^ (suc hi - lo)

-- The manual's n: the lowest address bit that a lookup at this level resolves. One entry spans 2^n bytes: 2^39, 2^30, 2^21, 2^12.
unfoldable pub low_bit : ℕ → ℕ
low_bit zero = 39
low_bit (suc zero) = 30
low_bit (suc (suc zero)) = 21
low_bit (suc (suc (suc level))) = 12

-- The index into a table, from the input address: IA[47:39] at level 0, IA[38:30] at level 1, IA[29:21] at level 2, IA[20:12] at level 3.
unfoldable pub index : ℕ → ℕ → ℕ
index level va = bits (low_bit level + 8) (low_bit level) va

-- Next-level table address, bits[47:12] of a Table descriptor.
unfoldable pub table_address : ℕ → ℕ
table_address w = bits 47 12 w * 2 ^ 12

-- Frame of the address's page (document 01, "What a word says"): output address bits[47:n] of a Block or Page descriptor, then IA[n-1:12].
unfoldable pub frame_of : ℕ → ℕ → ℕ → ℕ
frame_of level w va = bits 47 (low_bit level) w * 2 ^ low_bit level + bits (low_bit level - 1) 12 va * 2 ^ 12

-- Flags (document 01, "What a word says"): every bit but the address field, bits 47 to 12, and bit 1. The manual's attributes and bit 0;
-- bit 52 is a plain flag.
unfoldable pub flags_in : ℕ → ℕ
flags_in w = w - (bits 47 12 w * 2 ^ 12 + bits 1 1 w * 2)

-- The descriptor that a lookup at this level fetches from table k: word i of table k stands at 512·k + i of the pool's words.
unfoldable pub fetch : List ℕ → ℕ → ℕ → ℕ → ℕ
fetch words va k level = get_or words (512 * k + index level va) 0

-- Where the lookups end: at a descriptor of a level that is no Table descriptor, or away from the pool, where a Table descriptor on the
-- path refers to a table that the pool doesn't have.
pub data Reached : Type 0 where
  at : (level word : ℕ) → Reached
  away : Reached

-- On from table k, with so many levels below its own. Level 3 holds no Table descriptors; at levels 0 to 2 bits[1:0] = 0b11 is one, and
-- leads on to the table at its address. The pool has n tables, table k at physical address base + 4096·k (document 01, "Pool and ledger").
module _ (base n : ℕ) (words : List ℕ) (va : ℕ) where
  unfoldable pub reach_from : ℕ → ℕ → Reached
  reach_from zero k = at 3 (fetch words va k 3)
  reach_from (suc depth) k =
      let w = fetch words va k (2 - depth) in
      let a = table_address w in
      let next = reach_from depth ((a - base) / 4096) in
      cond (eqb (bits 1 0 w) 3) (cond (leb base a && ltb a (base + 4096 * n)) next away) (at (2 - depth) w)

  -- from the root, table 0, whose level is the initial lookup level
  unfoldable pub reach : ℕ → Reached
  reach root = reach_from (3 - root) 0

-- What the walk of an address answers: kind, level, flags and, for a block or a page, the frame.
pub data Walked : Type 0 where
  hole : (level flags : ℕ) → Walked
  block : (level flags frame : ℕ) → Walked
  page : (level flags frame : ℕ) → Walked
  outside : Walked

-- By its bits[1:0] a descriptor that is no Table descriptor is: 0b11, at level 3, a Page descriptor; 0b01, at levels 1 and 2, a Block
-- descriptor; 0b01 at levels 0 and 3 reserved, and like 0bx0 invalid: a translation fault, our hole.
unfoldable pub says : ℕ → Reached → Walked
says va (at level w) =
    cond (eqb (bits 1 0 w) 3) (page level (flags_in w) (frame_of level w va))
    (cond (eqb (bits 1 0 w) 1 && (eqb level 1 || eqb level 2)) (block level (flags_in w) (frame_of level w va))
    (hole level (flags_in w)))
says va away = outside

-- The walk of an address in a pool of n tables from base on, down from a root of this level.
unfoldable pub walk : ℕ → ℕ → List ℕ → ℕ → ℕ → Walked
walk base n words va root = says va (reach base n words va root)
