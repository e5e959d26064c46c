-- Document 01, "Bench cases": base 0x8000_0000, root level 1, lower, n = 8, flags 0x401. The starred cases of map, by computing the
-- definitions.
use Rattle.std.specs.Prelude.{List, ◌≡◌, refl, ℕ, ◌+◌, ◌*◌, set, replicate, Err, Ok}
use Rattle.pool.specs.Number.{root_number}
use Rattle.pool.specs.State.{St, st}
use Rattle.pool_table.specs.Table.{put_table, zeros, rising}
use Rattle.pool.specs.Refuse.{out, granted, Counted}
use Rattle.make.specs.Call.{make_call, fresh as freshly}
use Rattle.pool.specs.declared.Handle.{Handle}
use Rattle.pool.specs.declared.Refusal.TheVariants.{WantOfRoom}
use Rattle.pool.specs.declared.VaRange.TheVariants.{Lower}
use Rattle.map_spec.specs.Call.{map_call}
use Rattle.theory_case_rows.specs.Computes.{checks, regions, takes, maps}

unfoldable pub handle : ℕ → Handle
handle level = record { base = record { 0 = 0x8000_0000 }; level = level; range = Lower }

-- n tables, made for a root of this level
unfoldable pub fresh_row : ℕ → ℕ → St
fresh_row level n = st (replicate (512 * n) 0) (set (replicate n 0) 0 (root_number level))

-- make gives it of whatever words and numbers were lent: here all 9
unfoldable pub Makes : ℕ → ℕ → Type 0
Makes level n = make_call (handle level) (st (replicate (512 * n) 9) (replicate n 9)) ≡ out granted (fresh_row level n)

-- the word w in slot i of table k; the table t, with its number, as table k; all else as in s
unfoldable pub word : ℕ → ℕ → ℕ → St → St
word k i w s = st (set s.words (512 * k + i) w) s.ledger

unfoldable pub table : ℕ → List ℕ → ℕ → St → St
table k t number s = st (put_table k t s.words) (set s.ledger k number)

-- one map: before it, what is asked, and what document 01 says of it: the answer, and every word and number afterwards
pub record Row : Type 0 where
  pub level : ℕ
  pub before : St
  pub start : ℕ
  pub end : ℕ
  pub frame : ℕ
  pub flags : ℕ
  pub answer : Counted
  pub after : St

unfoldable pub RowHolds : Row → Type 0
RowHolds r = map_call (handle r.level) r.start r.end r.frame r.flags 0 r.before ≡ out r.answer r.after

-- ---- what the document says stands in the pool

-- A: root word 0 is 0x4000_0401
unfoldable pub pool_a : St
pool_a = word 0 0 0x4000_0401 (fresh_row 1 8)

-- B: root word 0 is 0x8000_1003, table 1 word 0 is 0x8000_2003, table 2 words 1 and 2 are 0x9403 and 0xA403; ledger starts 5, 14, 4111
unfoldable pub pool_b : ℕ → St
pool_b n =
    word 0 0 0x8000_1003 (word 1 0 0x8000_2003 (word 2 1 0x9403 (word 2 2 0xA403 (table 1 zeros 14 (table 2 zeros 4111 (fresh_row 1 n))))))

-- D: table 1 words 1 and 2 are 0x8000_2003 and 0x4040_0401, table 2 words 0 and 1 are 0x5000_0403 and 0x4020_1403: the block of A, cut
-- twice
unfoldable pub pool_d : St
pool_d =
    word 0 0 0x8000_1003 (word 1 1 0x8000_2003 (word 2 0 0x5000_0403
    (table 1 (rising 512 0x4000_0401 0x20_0000) 14 (table 2 (rising 512 0x4020_0403 0x1000) 4119 (fresh_row 1 8)))))

-- F: table 2 word 0 is 0x4000_0403, table 1 word 1 is 0x4020_0401
unfoldable pub pool_f : St
pool_f =
    word 0 0 0x8000_1003 (word 1 0 0x8000_2003
    (table 1 (rising 512 0x4000_0401 0x20_0000) 14 (table 2 (rising 512 0x4000_0403 0x1000) 4111 (fresh_row 1 8))))

-- G: two empty tables
unfoldable pub pool_g : St
pool_g = word 0 0 0x8000_1003 (word 1 0 0x8000_2003 (table 1 zeros 14 (table 2 zeros 4111 (fresh_row 1 8))))

-- H: no block in the root, 512 blocks below it
unfoldable pub pool_h : St
pool_h = word 0 0 0x8000_1003 (table 1 (rising 512 0x401 0x4000_0000) 13 (fresh_row 0 8))

-- ---- the rows

unfoldable pub A : Row
A =
    record {
      level = 1;
      before = fresh_row 1 8;
      start = 0;
      end = 0x4000_0000;
      frame = 0x4000_0000;
      flags = 0x401;
      answer = Ok 1;
      after = pool_a;
    }

-- B with n tables
unfoldable pub B : ℕ → Counted → St → Row
B n answer after =
    record { level = 1; before = fresh_row 1 n; start = 0x1000; end = 0x3000; frame = 0x9000; flags = 0x401; answer = answer; after = after }

-- beside the document's cases: the next GiB after A
unfoldable pub pool_aA : St
pool_aA = word 0 1 0x8000_0401 pool_a

unfoldable pub AA : Row
AA =
    record {
      level = 1;
      before = pool_a;
      start = 0x4000_0000;
      end = 0x8000_0000;
      frame = 0x8000_0000;
      flags = 0x401;
      answer = Ok 1;
      after = pool_aA;
    }

-- C, D: one page after A, to the frame that it has, and to another
unfoldable pub CD : ℕ → ℕ → St → Row
CD frame count after =
    record {
      level = 1;
      before = pool_a;
      start = 0x20_0000;
      end = 0x20_1000;
      frame = frame;
      flags = 0x401;
      answer = Ok count;
      after = after;
    }

-- E, F: the whole GiB after B, without VALID and with A's map
unfoldable pub EF : ℕ → ℕ → ℕ → St → Row
EF frame flags count after =
    record { level = 1; before = pool_b 8; start = 0; end = 0x4000_0000; frame = frame; flags = flags; answer = Ok count; after = after }

-- G: one page without VALID, by its frame
unfoldable pub G : ℕ → ℕ → St → Row
G frame count after =
    record {
      level = 1;
      before = fresh_row 1 8;
      start = 0x1000;
      end = 0x2000;
      frame = frame;
      flags = 0;
      answer = Ok count;
      after = after;
    }

unfoldable pub H : Row
H = record { level = 0; before = fresh_row 0 8; start = 0; end = 0x80_0000_0000; frame = 0; flags = 0x401; answer = Ok 2; after = pool_h }

-- the rows and their pools, written out
unfoldable pub rows : Unit {0}
unfolding handle fresh_row word table RowHolds pool_a pool_aA pool_b pool_d pool_f pool_g pool_h A AA B CD EF G H
rows = tt

-- ---- the rows that hold

-- the pools that the rows start from
abbrev pub Made : Type 0
Made = Makes 1 8 × Makes 1 3 × Makes 1 2 × Makes 0 8

pub made : Made
unfolding checks rows make_call freshly Makes
made = (refl, refl, refl, refl)

-- the starred cases of map that compute in a second: A, B with 8, 3 and 2 tables, C, D, both of G, and the next GiB after A
abbrev pub Quick : Type 0
Quick =
    RowHolds A
    × RowHolds (B 8 (Ok 3) (pool_b 8)) × RowHolds (B 3 (Ok 3) (pool_b 3))
    × RowHolds (B 2 (Err (WantOfRoom 2 1)) (fresh_row 1 2))
    × RowHolds (CD 0x4020_0000 1 pool_a) × RowHolds (CD 0x5000_0000 3 pool_d)
    × RowHolds (G 0 3 pool_g) × RowHolds (G 0x1000 1 (fresh_row 1 8))
    × RowHolds AA

pub quick : Quick
unfolding checks regions takes maps rows
quick = (refl, refl, refl, refl, refl, refl, refl, refl, refl)
