-- The lines of a list: every entry that a region meets (`visit_range` of the crate), and a law for each way through the code.
use Rattle.std.specs.Prelude.{◌≡◌, Some, None, List, [], ◌∷◌, ◌++◌, ◌⊎◌, ◌≢◌, length, set, take, drop}
use Rattle.std.proofs.Math.Path.{refl, sym}
use Rattle.std.proofs.Common.{ap, ap₂, ◌∙◌, append_assoc, inl, inr, length-append, take-append-drop, take_at, drop-drop, length-take-le}
use Prim.Native.Nat.{ℕ, zero, suc, ◌+◌, ◌*◌, ◌-◌, ◌≤◌, ◌<◌}
use native.Mathlib.Omega.{arith}
use Rattle.std.proofs.Math.Seq.{drop-append-add}
use Rattle.laws.specs.Part.{put_part}
use Rattle.laws.specs.Test.{eq_or, le_or}
use Rattle.address_slot.specs.Slot.{chunk_end}
use Rattle.region.specs.Region.{region, parted, next_chunk}
use Rattle.region.specs.Chunks.{chunks, met, met_none, met-step, chunks_none, chunks-step, Tiles, none, more}
use Rattle.region.specs.Chunks.{chunks_tile, chunks_of, next_gives}
use Rattle.region.specs.declared.ChunkedIterator.{ChunkedIterator}
use Rattle.region.specs.declared.MemoryRegion.{MemoryRegion}
use Rattle.entry.specs.Sub.{sub_of, sub_leaf}
use Rattle.entry.specs.declared.Sub.{Sub}
use Rattle.entry.specs.declared.Sub.TheVariants.{Table, Outside, Leaf}
use Rattle.pool.specs.State.{St, tables}
use Rattle.pool.specs.declared.Handle.{Handle}
use Rattle.arm.specs.Arm.{fetch}

-- "start, end, word, level for each"
pub record Line : Type 0 where
  pub start : ℕ
  pub end : ℕ
  pub word : ℕ
  pub level : ℕ

abbrev pub line : MemoryRegion → ℕ → ℕ → Line
line r w level = record { start = r.start.0; end = r.end.0; word = w; level = level }

-- four numbers a line
unfoldable pub numbers : List Line → List ℕ
numbers [] = []
numbers (l ∷ ls) = l.start ∷ l.end ∷ l.word ∷ l.level ∷ numbers ls

-- the lines of each chunk, one after the other
unfoldable pub each : (MemoryRegion → List Line) → List MemoryRegion → List Line
each f [] = []
each f (r ∷ rs) = f r ++ each f rs

each_same : (f g : MemoryRegion → List Line) → ((r : MemoryRegion) → f r ≡ g r) → (rs : List MemoryRegion) → each f rs ≡ each g rs
unfolding each
each_same f g same [] = refl
each_same f g same (r ∷ rs) = ap₂ (λ (a b : List Line). a ++ b) (same r) (each_same f g same rs)

-- a table goes down, any other entry is one line
unfoldable pub sub_lines : Sub → (ℕ → List Line) → Line → List Line
sub_lines (Table j) below l = below j
sub_lines Outside below l = l ∷ []
sub_lines Leaf below l = l ∷ []

module _ (base n : ℕ) (words : List ℕ) where
  -- the lines of one chunk in table k, which stands at this level; `below` are those of a table one level down
  unfoldable pub chunk_lines : (ℕ → MemoryRegion → List Line) → ℕ → ℕ → MemoryRegion → List Line
  chunk_lines below k level r =
      let w = fetch words r.start.0 k level in
      sub_lines (sub_of base n level w) (λ j. below j r) (line r w level)

  -- the lines of the region r in table k, with so many levels below its own: its chunks, ascending. At level 3 each entry is one line.
  unfoldable pub lines_from : ℕ → ℕ → MemoryRegion → List Line
  lines_from zero k r = each (λ q. line q (fetch words q.start.0 k 3) 3 ∷ []) (chunks 3 r.start.0 r.end.0)
  lines_from (suc depth) k r = each (chunk_lines (λ j q. lines_from depth j q) k (2 - depth)) (chunks (2 - depth) r.start.0 r.end.0)

  -- ---- laws

  -- the lines of one chunk, as the code finds them
  unfoldable pub lines_at : ℕ → ℕ → MemoryRegion → List Line
  lines_at k level r = chunk_lines (λ j q. lines_from (3 - (level + 1)) j q) k level r

  module _ (k level : ℕ) (r : MemoryRegion) {w : ℕ} (is : w ≡ fetch words r.start.0 k level) {x : Sub}
      (sub : x ≡ sub_of base n level w) where
    found : (y : Sub) → x ≡ y → lines_at k level r ≡ sub_lines y (λ j. lines_from (3 - (level + 1)) j r) (line r w level)
    unfolding lines_at chunk_lines
    found y e = rw (← is, ← sub, e)

    pub lines-table : (j : ℕ) → x ≡ Table j → lines_at k level r ≡ lines_from (3 - (level + 1)) j r
    unfolding sub_lines
    lines-table j e = found (Table j) e

    pub lines_other : (x ≡ Outside) ⊎ (x ≡ Leaf) → lines_at k level r ≡ line r w level ∷ []
    unfolding sub_lines
    lines_other (inl e) = found Outside e
    lines_other (inr e) = found Leaf e

  -- the whole region: the lines of its chunks
  pub lines-each : (k level : ℕ) (r : MemoryRegion) → level ≤ 3
      → lines_from (3 - level) k r ≡ each (lines_at k level) (chunks level r.start.0 r.end.0)
  unfolding lines_from lines_at
  lines-each k level r h = go (eq_or level 3)
    where
      go : (level ≡ 3) ⊎ (level ≢ 3) → lines_from (3 - level) k r ≡ each (lines_at k level) (chunks level r.start.0 r.end.0)
      go (inl e) =
          rw e
          (each_same _ _
          (λ q. sym
          (lines_other k 3 q refl (sub_leaf base n 3 (fetch words q.start.0 k 3) (λ p. omega (arith, p.0))) (inr refl))) _)
      go (inr m) =
          let up : 3 - level ≡ suc (3 - (level + 1)) = omega arith in
          let same : 2 - (3 - (level + 1)) ≡ level = omega arith in
          rw (up, same)

-- the lines of a region down from the root
unfoldable pub lines_of : Handle → St → MemoryRegion → List Line
lines_of h s r = lines_from h.base.0 (tables s) s.words (3 - h.level) 0 r

-- ---- chunk by chunk

pub next_chunk_lem : (c : ChunkedIterator) (r : MemoryRegion) (a : ChunkedIterator) → parted (Some r) a ≡ next_chunk c
    → chunks_of c ≡ r ∷ chunks_of a
next_chunk_lem c r a e = next_gives c a e

pub next_none : (c a : ChunkedIterator) → parted None a ≡ next_chunk c → chunks_of c ≡ []
next_none c a e = (next_gives c a e).0

-- ---- numbers in a lent list

pub length-numbers : (ls : List Line) → length (numbers ls) ≡ 4 * length ls
unfolding numbers
length-numbers [] = refl
length-numbers (l ∷ ls) = let r = length-numbers ls in omega arith

pub numbers-append : (ls ms : List Line) → numbers (ls ++ ms) ≡ numbers ls ++ numbers ms
unfolding numbers
numbers-append [] ms = refl
numbers-append (l ∷ ls) ms = ap (λ (t : List ℕ). l.start ∷ l.end ∷ l.word ∷ l.level ∷ t) (numbers-append ls ms)

-- the lines in a lent list, from a place on, and the place after them
pub record Written : Type 0 where
  pub to : ℕ
  pub list : List ℕ

abbrev pub written : ℕ → List ℕ → Written
written to list = record { to = to; list = list }

unfoldable pub write_lines : ℕ → List Line → List ℕ → Written
write_lines from ls list = written (from + 4 * length ls) (put_part from (numbers ls) list)

four : (l : List ℕ) (to a b c d : ℕ) → to + 4 ≤ length l
    → set (set (set (set l to a) (suc to) b) (suc (suc to)) c) (suc (suc (suc to))) d ≡ take to l ++ (a ∷ b ∷ c ∷ d ∷ drop (to + 4) l)
four [] to a b c d h = absurd (omega arith)
four (x ∷ []) zero a b c d h = absurd (omega arith)
four (x ∷ y ∷ []) zero a b c d h = absurd (omega arith)
four (x ∷ y ∷ z ∷ []) zero a b c d h = absurd (omega arith)
four (x ∷ y ∷ z ∷ w ∷ l) zero a b c d h = refl
four (x ∷ l) (suc to) a b c d h =
    ap (λ (t : List ℕ). x ∷ t) (four l to a b c d (omega arith))
    ∙ ap (λ (i : ℕ). x ∷ (take to l ++ (a ∷ b ∷ c ∷ d ∷ drop i (x ∷ l)))) (let e : suc (to + 4) ≡ suc to + 4 = omega arith in e)

-- four stores are one line
pub put_four : (l : List ℕ) (to a b c d : ℕ) → to + 4 ≤ length l
    → set (set (set (set l to a) (to + 1) b) (to + 2) c) (to + 3) d ≡ put_part to (a ∷ b ∷ c ∷ d ∷ []) l
unfolding put_part
put_four l to a b c d h =
    let one : to + 1 ≡ suc to = omega arith in
    let two : to + 2 ≡ suc (suc to) = omega arith in
    let three : to + 3 ≡ suc (suc (suc to)) = omega arith in
    rw (one, two, three) (four l to a b c d h)

-- lines after lines
put-append : (from : ℕ) (p q l : List ℕ) → from + length p + length q ≤ length l
    → put_part (from + length p) q (put_part from p l) ≡ put_part from (p ++ q) l
unfolding put_part
put-append from p q l h =
    let long : length (take from l ++ p) ≡ from + length p =
    length-append (take from l) p ∙ ap (λ (x : ℕ). x + length p) (length-take-le from l (omega arith)) in
    let front = take from l ++ p in
    let back = drop (from + length p) l in
    ap (λ (t : List ℕ). take (from + length p) t ++ (q ++ drop (from + length p + length q) t)) (sym (append_assoc (take from l) p back))
    ∙ ap₂ (λ (a b : List ℕ). a ++ (q ++ b)) (take_at front back (from + length p) long)
    (ap (λ (x : ℕ). drop (x + length q) (front ++ back)) (sym long) ∙ drop-append-add front back (length q)
    ∙ drop-drop (length q) (from + length p) l)
    ∙ append_assoc (take from l) p (q ++ drop (from + length p + length q) l)
    ∙ ap (λ (t : List ℕ). take from l ++ t) (sym (append_assoc p q (drop (from + length p + length q) l)))
    ∙ ap (λ (x : ℕ). take from l ++ ((p ++ q) ++ drop x l))
    (let e : from + length p + length q ≡ from + (length p + length q) = omega arith in
    e ∙ ap (λ (x : ℕ). from + x) (sym (length-append p q)))

-- nothing is written
put_none : (to : ℕ) (l : List ℕ) → put_part to [] l ≡ l
unfolding put_part
put_none to l = let e : to + 0 ≡ to = omega arith in rw e (take-append-drop to l)

-- ---- a loop over chunks: what was done, and what remains

module _ (f : MemoryRegion → List Line) {rs rest : List MemoryRegion} {r : MemoryRegion} (ls : List Line) (cut : rs ≡ r ∷ rest)
    (lines : f r ≡ ls) where
  each_step : each f rs ≡ ls ++ each f rest
  unfolding each
  each_step = rw (cut, lines)

  pub count-step : length (each f rs) ≡ length ls + length (each f rest)
  count-step = ap length each_step ∙ length-append ls (each f rest)

  pub write_step : (to : ℕ) (list : List ℕ) {next : ℕ} {after : List ℕ} → to + 4 * length (each f rs) ≤ length list
      → next ≡ to + 4 * length ls
      → after ≡ put_part to (numbers ls) list → put_part next (numbers (each f rest)) after ≡ put_part to (numbers (each f rs)) list
  write_step to list h q e =
      let long = length-numbers ls in
      let more = length-numbers (each f rest) in
      let both = count-step in
      rw (e, q) (ap (λ (x : ℕ). put_part (to + x) (numbers (each f rest)) (put_part to (numbers ls) list)) (sym long)
      ∙ put-append to (numbers ls) (numbers (each f rest)) list (omega arith)
      ∙ ap (λ (t : List ℕ). put_part to t list) (sym (numbers-append ls (each f rest)) ∙ ap numbers (sym each_step)))

pub each_none : (f : MemoryRegion → List Line) {rs : List MemoryRegion} → rs ≡ [] → each f rs ≡ []
unfolding each
each_none f e = rw e

pub write_done : (f : MemoryRegion → List Line) {rs : List MemoryRegion} (to : ℕ) (list : List ℕ) → rs ≡ []
    → put_part to (numbers (each f rs)) list ≡ list
unfolding numbers
write_done f to list e = rw (each_none f e) (put_none to list)

-- ---- a table of pages has a line for each page met

length-chunks : (m level s e : ℕ) → met level s e ≡ m → length (chunks level s e) ≡ m
length-chunks zero level s e q = go (le_or e s)
  where
    go : (e ≤ s) ⊎ (s < e) → length (chunks level s e) ≡ 0
    go (inl h) = rw (chunks_none level s e h)
    go (inr h) = absurd (let k = met-step level s e h in omega arith)
length-chunks (suc m) level s e q = go (le_or e s) (length-chunks m level (chunk_end level s e) e)
  where
    go : (e ≤ s) ⊎ (s < e) → (met level (chunk_end level s e) e ≡ m → length (chunks level (chunk_end level s e) e) ≡ m)
        → length (chunks level s e) ≡ suc m
    go (inl h) ih = absurd (let k = met_none level s e h in omega arith)
    go (inr h) ih = let k = met-step level s e h in rw (chunks-step level s e h) (ap suc (ih (omega arith)))

each-one : (g : MemoryRegion → Line) (rs : List MemoryRegion) → length (each (λ q. g q ∷ []) rs) ≡ length rs
unfolding each
each-one g [] = refl
each-one g (r ∷ rs) = ap suc (each-one g rs)

pub lines_pages : (base n : ℕ) (words : List ℕ) (k level : ℕ) (r : MemoryRegion) → 3 ≤ level
    → met 3 r.start.0 r.end.0 ≡ length (lines_from base n words (3 - level) k r)
unfolding lines_from
lines_pages base n words k level r h =
    let last : 3 - level ≡ 0 = omega arith in
    rw last
    (sym
    (each-one (λ q. line q (fetch words q.start.0 k 3) 3) (chunks 3 r.start.0 r.end.0)
    ∙ length-chunks (met 3 r.start.0 r.end.0) 3 r.start.0 r.end.0 refl))

-- ---- no more lines than bytes

each_bound : {level e s : ℕ} {rs : List MemoryRegion} (f : MemoryRegion → List Line)
    → ((r : MemoryRegion) → r.start.0 < r.end.0 → length (f r) ≤ r.end.0 - r.start.0) → Tiles level e s rs
    → length (each f rs) ≤ e - s
unfolding each
each_bound f h (none l) = omega arith
each_bound f h (more {s = s} {m = m} {l = rest} a b c t) =
    let here = h (region s m) a in
    let more = each_bound f h t in
    let both = length-append (f (region s m)) (each f rest) in
    omega arith

pub lines_bound : (base n : ℕ) (words : List ℕ) (depth k : ℕ) (r : MemoryRegion)
    → length (lines_from base n words depth k r) ≤ r.end.0 - r.start.0
unfolding lines_from chunk_lines sub_lines
lines_bound base n words zero k r = each_bound _ (λ q h. omega arith) (chunks_tile 3 r.start.0 r.end.0)
lines_bound base n words (suc depth) k r =
    each_bound (chunk_lines base n words (λ j q. lines_from base n words depth j q) k (2 - depth))
    (λ q h. go q h (sub_of base n (2 - depth) (fetch words q.start.0 k (2 - depth))) (λ j. lines_bound base n words depth j q))
    (chunks_tile (2 - depth) r.start.0 r.end.0)
  where
    go : (q : MemoryRegion) → q.start.0 < q.end.0 → (x : Sub)
        → ((j : ℕ) → length (lines_from base n words depth j q) ≤ q.end.0 - q.start.0)
        → length (sub_lines x (λ j. lines_from base n words depth j q) (line q (fetch words q.start.0 k (2 - depth)) (2 - depth)))
        ≤ q.end.0 - q.start.0
    go q h (Table j) ih = ih j
    go q h Outside ih = omega arith
    go q h Leaf ih = omega arith
