-- The chunks of a region at a level, as a list: ascending, each in one entry, together the region and nothing else. Leans on `Region`.
use Rattle.std.specs.Prelude.{◌≡◌, refl, cond, Option, Some, None, ⊤, List, [], ◌∷◌, ◌⊎◌, ℕ, zero, suc}
use Rattle.std.specs.Prelude.{◌+◌, ◌*◌, ◌-◌, ◌/◌, ◌%◌, ◌≤◌, ◌<◌, min, ltb, length, get_or}
use Rattle.std.proofs.Common.{ap, sym, subst, ◌∙◌, inl, inr, mul-div_cancel, le-div_iff_mul-le, div-lt_iff_lt-mul, div-add-mod'}
use Rattle.std.proofs.Common.{mod-lt, add-mul, suc-mul, mul-le-mul_left, mul-le-mul_right, arith, lt-ltb, le-ltb}
use Rattle.std.proofs.Math.Nat.{div-eq_of_lt-le, mul-mod_left}
use Rattle.laws.specs.Size.{size_at, size_pos, down, down_rest, multiple_is, next_multiple}
use Rattle.laws.specs.Test.{le_or}
use Rattle.region.specs.declared.MemoryRegion.{MemoryRegion}
use Rattle.region.specs.declared.ChunkedIterator.{ChunkedIterator}
use Rattle.address_slot.specs.Slot.{entry_last, chunk_end}
use Rattle.region.specs.Region.{region_of, Parted, parted, next_chunk, next_done, next_cut, ChunkStep}
use Rattle.std.specs.Iterator.{MakesProgress, item_count}

-- the entries of this level that the region meets
unfoldable pub met : ℕ → ℕ → ℕ → ℕ
met level s e = cond (ltb s e) ((e - 1) / size_at level - s / size_at level + 1) 0

-- at most n chunks
unfoldable pub chunks_in : ℕ → ℕ → ℕ → ℕ → List MemoryRegion
chunks_in zero level s e = []
chunks_in (suc n) level s e =
    let more = region_of s (chunk_end level s e) ∷ chunks_in n level (chunk_end level s e) e in
    cond (ltb s e) more []

-- the chunks, one for each entry met
unfoldable pub chunks : ℕ → ℕ → ℕ → List MemoryRegion
chunks level s e = chunks_in (met level s e) level s e

-- ---- the numbers

-- the entry of s, by its number
entry_around : (level s : ℕ) → (s / size_at level * size_at level ≤ s) × (s < (s / size_at level + 1) * size_at level)
entry_around level s =
    let d = div-add-mod' s (size_at level) in
    let m = mod-lt s (size_pos level) in
    (omega arith, omega arith)

last_number : (level s : ℕ) → entry_last level s + 1 ≡ (s / size_at level + 1) * size_at level
unfolding entry_last down
last_number level s = let p = size_pos level in omega arith

-- a chunk is not empty, ends with the region at the latest, and in the entry of its start
pub chunk-fits : (level s e : ℕ) → s < e
    → (s < chunk_end level s e) × (chunk_end level s e ≤ e) × (chunk_end level s e ≤ entry_last level s + 1)
unfolding chunk_end
chunk-fits level s e h =
    let a = entry_around level s in
    let l = last_number level s in
    (omega (arith, a.1), omega arith, omega arith)

-- the same of a chunk that `next` gave
pub step_fits : {c d : ChunkedIterator} {r : MemoryRegion} → ChunkStep c r d
    → (r.start.0 < r.end.0) × (r.end.0 ≤ c.range.end.0) × (r.end.0 ≤ entry_last c.level r.start.0 + 1)
step_fits {c} t = rw (t.starts, t.stops) (chunk-fits c.level c.range.start.0 c.range.end.0 t.left)

pub met_none : (level s e : ℕ) → e ≤ s → met level s e ≡ 0
unfolding met
met_none level s e h = rw (le-ltb s e h)

pub met_some : (level s e : ℕ) → s < e → met level s e ≡ (e - 1) / size_at level - s / size_at level + 1
unfolding met
met_some level s e h = rw (lt-ltb s e h)

-- after a chunk one entry less is left to meet
pub met-step : (level s e : ℕ) → s < e → met level s e ≡ suc (met level (chunk_end level s e) e)
unfolding chunk_end
met-step level s e h = go (le_or e (entry_last level s + 1))
  where
    -- the region ends in this entry, or goes on
    go : (e ≤ entry_last level s + 1) ⊎ (entry_last level s + 1 < e) → met level s e ≡ suc (met level (min e (entry_last level s + 1)) e)
    go (inl l) =
        let n = last_number level s in
        let a = entry_around level s in
        let same : (e - 1) / size_at level ≡ s / size_at level = div-eq_of_lt-le (size_at level) (omega (arith, a.0)) (omega arith) in
        let here : min e (entry_last level s + 1) ≡ e = omega arith in
        let m = met_some level s e h in
        rw here (let z = met_none level e e (omega arith) in omega arith)
    go (inr l) =
        let n = last_number level s in
        let here : min e (entry_last level s + 1) ≡ entry_last level s + 1 = omega arith in
        let next : (entry_last level s + 1) / size_at level ≡ s / size_at level + 1 =
        ap (λ (x : ℕ). x / size_at level) n ∙ mul-div_cancel (s / size_at level + 1) (size_pos level) in
        let far : s / size_at level + 1 ≤ (e - 1) / size_at level = (le-div_iff_mul-le (size_pos level)).1 (omega arith) in
        let m = met_some level s e h in
        let k = met_some level (entry_last level s + 1) e l in
        rw here (omega arith)

-- ---- the list, from the front

in_none : (n level s e : ℕ) → e ≤ s → chunks_in n level s e ≡ []
unfolding chunks_in
in_none zero level s e h = refl
in_none (suc n) level s e h = rw (le-ltb s e h)

in_step : (n level s e : ℕ) → s < e → chunks_in (suc n) level s e
    ≡ region_of s (chunk_end level s e) ∷ chunks_in n level (chunk_end level s e) e
unfolding chunks_in
in_step n level s e h = rw (lt-ltb s e h)

pub chunks_none : (level s e : ℕ) → e ≤ s → chunks level s e ≡ []
unfolding chunks
chunks_none level s e h = in_none (met level s e) level s e h

pub chunks-step : (level s e : ℕ) → s < e → chunks level s e ≡ region_of s (chunk_end level s e) ∷ chunks level (chunk_end level s e) e
unfolding chunks
chunks-step level s e h =
    ap (λ (n : ℕ). chunks_in n level s e) (met-step level s e h) ∙ in_step (met level (chunk_end level s e) e) level s e h

-- what an iterator gives from now on
abbrev pub chunks_of : ChunkedIterator → List MemoryRegion
chunks_of c = chunks c.level c.range.start.0 c.range.end.0

-- `next` takes the list apart: the head, with the iterator of the tail
abbrev pub Gives : Option MemoryRegion → ChunkedIterator → List MemoryRegion → Type 0
Gives (Some r) c l = l ≡ r ∷ chunks_of c
Gives None c l = (l ≡ []) × (chunks_of c ≡ [])

module _ (c d : ChunkedIterator) {x : Option MemoryRegion} (is : parted x d ≡ next_chunk c) where
  pub next_gives : Gives x d (chunks_of c)
  next_gives = subst (λ (n : Parted). Gives n.chunk n.rest (chunks_of c)) (sym is) (go (le_or c.range.end.0 c.range.start.0))
    where
      go : (c.range.end.0 ≤ c.range.start.0) ⊎ (c.range.start.0 < c.range.end.0)
          → let n = next_chunk c in Gives n.chunk n.rest (chunks_of c)
      go (inl h) = let none = chunks_none c.level c.range.start.0 c.range.end.0 h in rw (← next_done c h) (none, none)
      go (inr h) =
          rw (← next_cut c (chunk_end c.level c.range.start.0 c.range.end.0) h refl)
          (chunks-step c.level c.range.start.0 c.range.end.0 h)

  -- a loop over the chunks ends
  pub next_goes : MakesProgress (λ _. ⊤) (item_count chunks_of) c x d
  next_goes = go x next_gives
    where
      go : (y : Option MemoryRegion) → Gives y d (chunks_of c) → MakesProgress (λ _. ⊤) (item_count chunks_of) c y d
      go (Some r) e = let n = ap length e in record { on = λ _. (tt, tt, omega arith); keeps = tt; rests = λ _. tt }
      go None e = record { on = λ _. tt; keeps = tt; rests = λ _. tt }

-- ---- the chunks tile the region

-- a list of regions, end to end from s to e, none empty, each in one entry of the level
pub data Tiles (level e : ℕ) : ℕ → List MemoryRegion → Type 0 where
  none : {s : ℕ} → e ≤ s → Tiles level e s []
  more : {s m : ℕ} {l : List MemoryRegion} → s < m → m ≤ e → m ≤ entry_last level s + 1 → Tiles level e m l
      → Tiles level e s (region_of s m ∷ l)

tile : (n level s e : ℕ) → met level s e ≡ n → Tiles level e s (chunks level s e)
tile zero level s e q = go (le_or e s)
  where
    go : (e ≤ s) ⊎ (s < e) → Tiles level e s (chunks level s e)
    go (inl h) = rw (chunks_none level s e h) (none h)
    go (inr h) = absurd (let k = met-step level s e h in omega arith)
tile (suc n) level s e q = go (le_or e s) (tile n level (chunk_end level s e) e)
  where
    go : (e ≤ s) ⊎ (s < e)
        → (met level (chunk_end level s e) e ≡ n → Tiles level e (chunk_end level s e) (chunks level (chunk_end level s e) e))
        → Tiles level e s (chunks level s e)
    go (inl h) ih = rw (chunks_none level s e h) (none h)
    go (inr h) ih =
        let f = chunk-fits level s e h in
        let k = met-step level s e h in
        rw (chunks-step level s e h) (more f.0 f.1 f.2 (ih (omega arith)))

pub chunks_tile : (level s e : ℕ) → Tiles level e s (chunks level s e)
chunks_tile level s e = tile (met level s e) level s e refl

-- ---- what that says, chunk by chunk

-- the address a is in the region r
pub record Holds (r : MemoryRegion) (a : ℕ) : Type 0 where
  pub from : r.start.0 ≤ a
  pub below : a < r.end.0

abbrev pub nth : List MemoryRegion → ℕ → MemoryRegion
nth l i = get_or l i (region_of 0 0)

-- each chunk is not empty and lies in one entry
pub record OneEntry (level : ℕ) (r : MemoryRegion) : Type 0 where
  pub some : r.start.0 < r.end.0
  pub within : r.end.0 ≤ entry_last level r.start.0 + 1

pub in_one_entry : {level e s : ℕ} {l : List MemoryRegion} → Tiles level e s l → (i : ℕ) → i < length l → OneEntry level (nth l i)
in_one_entry (none h) i k = absurd (omega arith)
in_one_entry (more a b c t) zero k = record { some = a; within = c }
in_one_entry (more a b c t) (suc i) k = in_one_entry t i (omega arith)

-- nothing outside the region
pub inside_region : {level e s : ℕ} {l : List MemoryRegion} → Tiles level e s l → (i a : ℕ) → i < length l → Holds (nth l i) a
    → (s ≤ a) × (a < e)
inside_region (none h) i a k r = absurd (omega arith)
inside_region (more p q c t) zero a k r = (r.from, omega (arith, r.below))
inside_region (more p q c t) (suc i) a k r = let d = inside_region t i a (omega arith) r in (omega (arith, d.0), d.1)

-- every address of the region, in one chunk alone
pub record InOne (l : List MemoryRegion) (a : ℕ) : Type 0 where
  pub place : ℕ
  pub known : place < length l
  pub holds : Holds (nth l place) a
  pub only : (j : ℕ) → j < length l → Holds (nth l j) a → j ≡ place

pub covered : {level e s : ℕ} {l : List MemoryRegion} → Tiles level e s l → (a : ℕ) → s ≤ a → a < e → InOne l a
covered (none h) a p q = absurd (omega arith)
covered (more {s = s} {m = m} {l = l} b c d t) a p q = go (le_or m a) (λ h. covered t a h q)
  where
    first : a < m → (j : ℕ) → j < length (region_of s m ∷ l) → Holds (nth (region_of s m ∷ l) j) a → j ≡ 0
    first h zero k r = refl
    first h (suc j) k r = absurd (let z = inside_region t j a (omega arith) r in omega (arith, z.0))

    later : m ≤ a → (o : InOne l a) → (j : ℕ) → j < length (region_of s m ∷ l) → Holds (nth (region_of s m ∷ l) j) a → j ≡ suc o.place
    later h o zero k r = absurd (omega (arith, r.below))
    later h o (suc j) k r = ap suc (o.only j (omega arith) r)

    go : (m ≤ a) ⊎ (a < m) → (m ≤ a → InOne l a) → InOne (region_of s m ∷ l) a
    go (inl h) ih = let o = ih h in record { place = suc o.place; known = omega (arith, o.known); holds = o.holds; only = later h o }
    go (inr h) ih = record { place = 0; known = omega arith; holds = record { from = p; below = h }; only = first h }

-- ascending: a chunk ends where a later one begins, or before
pub ascending : {level e s : ℕ} {l : List MemoryRegion} → Tiles level e s l → (i j : ℕ) → i < j → j < length l
    → (nth l i).end.0 ≤ (nth l j).start.0
ascending (none h) i j k q = absurd (omega arith)
ascending (more a b c t) zero zero k q = absurd (omega arith)
ascending (more a b c t) (suc i) zero k q = absurd (omega arith)
ascending (more {m = m} {l = l} a b c t) zero (suc j) k q =
    let o = in_one_entry t j (omega arith) in
    (inside_region t j (nth l j).start.0 (omega arith) (record { from = omega arith; below = o.some })).0
ascending (more a b c t) (suc i) (suc j) k q = ascending t i j (omega arith) (omega arith)

-- a chunk that is a block is its whole entry
pub block_whole : (level : ℕ) (r : MemoryRegion) → OneEntry level r → r.start.0 % size_at level ≡ 0 → r.end.0 % size_at level ≡ 0
    → r.end.0 ≡ r.start.0 + size_at level
unfolding entry_last
block_whole level r o hs he = whole (size_at level) (size_pos level) r.start.0 r.end.0 o.some o.within hs he
  where
    whole : (size : ℕ) → 0 < size → (s e : ℕ) → s < e → e ≤ down s size + (size - 1) + 1 → s % size ≡ 0 → e % size ≡ 0 → e ≡ s + size
    whole size p s e h w hs he = go (le_or (e / size) (s / size))
      where
        from : s / size * size ≡ s
        from = let a = div-add-mod' s size in omega arith

        to : e / size * size ≡ e
        to = let a = div-add-mod' e size in omega arith

        go : (e / size ≤ s / size) ⊎ (s / size < e / size) → e ≡ s + size
        go (inl l) = absurd (omega (arith, mul-le-mul_right size l, from, to))
        go (inr l) =
            let d : (s / size + 1) * size ≤ e / size * size = mul-le-mul_right size (omega arith) in
            let r = down_rest s size in
            omega (arith, from, to)

-- ---- where a chunk ends, and the entries met, taken apart

-- with the region, or with its entry
pub chunk_stops : (level s e : ℕ) → (chunk_end level s e ≡ e) ⊎ ((chunk_end level s e < e) × (chunk_end level s e % size_at level ≡ 0))
unfolding chunk_end
chunk_stops level s e = go (le_or e (entry_last level s + 1))
  where
    go : (e ≤ entry_last level s + 1) ⊎ (entry_last level s + 1 < e)
        → (min e (entry_last level s + 1) ≡ e)
        ⊎ ((min e (entry_last level s + 1) < e) × (min e (entry_last level s + 1) % size_at level ≡ 0))
    go (inl l) = inl (omega arith)
    go (inr l) =
        let here : min e (entry_last level s + 1) ≡ (s / size_at level + 1) * size_at level = let n = last_number level s in omega arith in
        inr (omega arith, ap (λ (x : ℕ). x % size_at level) here ∙ mul-mod_left (s / size_at level + 1) (size_at level))

-- what ends in the entry of its start is one chunk
pub chunk_whole : (level s e : ℕ) → e ≤ entry_last level s + 1 → chunk_end level s e ≡ e
unfolding chunk_end
chunk_whole level s e h = omega arith

-- the addresses of one entry, by its number
pub in_entry : (level s a : ℕ) → a ≤ entry_last level s → a < (s / size_at level + 1) * size_at level
in_entry level s a h = let n = last_number level s in omega arith

pub met-one : (level s e : ℕ) → s < e → e ≤ entry_last level s + 1 → met level s e ≡ 1
met-one level s e h l =
    met-step level s e h ∙ ap suc (ap (λ (x : ℕ). met level x e) (chunk_whole level s e l) ∙ met_none level e e (omega arith))

-- no more entries than addresses
pub met_most : (level s e : ℕ) → met level s e ≤ e - s
met_most level s e = go (le_or e s)
  where
    go : (e ≤ s) ⊎ (s < e) → met level s e ≤ e - s
    go (inl h) = let z = met_none level s e h in omega arith
    go (inr h) =
        let m = met_some level s e h in
        let far : (e - 1) / size_at level ≤ s / size_at level + (e - 1 - s) =
        div_le_add (size_at level) s (e - 1) (size_pos level) (omega arith) in
        omega arith
      where
        div_le_add : (a x y : ℕ) → 0 < a → x ≤ y → y / a ≤ x / a + (y - x)
        div_le_add a x y p l =
            let d = div-add-mod' x a in
            let r = mod-lt x p in
            let t : (x / a + (y - x) + 1) * a ≡ x / a * a + (y - x) * a + a =
            add-mul (x / a + (y - x)) 1 a ∙ (let u = add-mul (x / a) (y - x) a in omega arith) in
            let one : (y - x) * 1 ≤ (y - x) * a = mul-le-mul_left (y - x) p in
            let below : y < (x / a + (y - x) + 1) * a = omega arith in
            let less = (div-lt_iff_lt-mul p).1 below in
            omega arith

-- cut where an entry begins
pub met-split : (level s m e : ℕ) → s < m → m < e → m % size_at level ≡ 0 → met level s e ≡ met level s m + met level m e
met-split level s m e h k z =
    let x = met_some level s e (omega arith) in
    let y = met_some level s m h in
    let w = met_some level m e k in
    let last = before (size_at level) (size_pos level) (multiple_is m (size_at level) z) in
    let one : s / size_at level ≤ (m - 1) / size_at level = (le-div_iff_mul-le (size_pos level)).1 (omega (arith, (entry_around level s).0)) in
    let two : m / size_at level ≤ (e - 1) / size_at level = (le-div_iff_mul-le (size_pos level)).1 (omega (arith, (entry_around level m).0)) in
    omega arith
  where
    before : (a : ℕ) → 0 < a → m / a * a ≡ m → (m - 1) / a + 1 ≡ m / a
    before a p q = go (m / a) q
      where
        go : (n : ℕ) → n * a ≡ m → (m - 1) / a + 1 ≡ n
        go zero e = absurd (omega arith)
        go (suc n) e =
            let t = suc-mul n a in
            let d : (m - 1) / a ≡ n = div-eq_of_lt-le a (omega arith) (let u = next_multiple n a in omega arith) in
            omega arith
