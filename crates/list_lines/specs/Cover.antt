-- The lines of a region are the walk: ascending, end to end from the region's start to its end, none empty; a line lies in one entry, and
-- at every address of it the walk ends in the line's word, at its level. Leans on `Lines`, `Page`.
use Rattle.std.specs.Prelude.{◌≡◌, List, [], ◌∷◌, ◌⊎◌, ◌≢◌, ℕ, zero, suc, ◌/◌, ◌≤◌, ◌<◌, length, get_or}
use Rattle.std.proofs.Common.{inl, inr, arith}
use Rattle.laws.specs.Size.{size_at}
use Rattle.laws.specs.Test.{le_or}
use Rattle.arm.specs.Arm.{at, away, reach_from}
use Rattle.list_lines.specs.Lines.{Line}

-- lines end to end from s to e, none empty, of each of which P says something
pub data Covers (P : Line → Type 0) (e : ℕ) : ℕ → List Line → Type 0 where
  done : {s : ℕ} → s ≡ e → Covers P e s []
  next : {s : ℕ} {l : Line} {ls : List Line} → l.start ≡ s → s < l.end → l.end ≤ e → P l → Covers P e l.end ls → Covers P e s (l ∷ ls)

-- what follows of each line between s and e
pub covers-map : {P Q : Line → Type 0} {e s from : ℕ} {ls : List Line} → from ≤ s → ((l : Line) → from ≤ l.start → l.end ≤ e → P l → Q l)
    → Covers P e s ls → Covers Q e s ls
covers-map h f (done q) = done q
covers-map h f (next {l = l} a b c p t) = next a b c (f l (omega arith) c p) (covers-map (omega arith) f t)

module _ (base n : ℕ) (words : List ℕ) where
  -- the line lies in one entry of its level, and at every address of it the walk ends in its word, at its level, unless it leaves the pool
  pub record Meets (depth k : ℕ) (l : Line) : Type 0 where
    pub entry : (a : ℕ) → l.start ≤ a → a < l.end → a / size_at l.level ≡ l.start / size_at l.level
    pub meets : (a : ℕ) → l.start ≤ a → a < l.end → reach_from base n words a depth k ≢ away
        → reach_from base n words a depth k ≡ at l.level l.word

-- ---- what that says, line by line

abbrev pub nth_line : List Line → ℕ → Line
nth_line ls i = get_or ls i (record { start = 0; end = 0; word = 0; level = 0 })

-- ascending and disjoint: a line ends where a later one begins, or before
pub inside : {P : Line → Type 0} {e s : ℕ} {ls : List Line} → Covers P e s ls → (i : ℕ) → i < length ls
    → (s ≤ (nth_line ls i).start) × ((nth_line ls i).start < (nth_line ls i).end) × ((nth_line ls i).end ≤ e)
inside (done q) i h = absurd (omega arith)
inside (next a b c p t) zero h = (omega arith, omega arith, c)
inside (next a b c p t) (suc i) h = let r = inside t i (omega arith) in (omega (arith, r.0), r.1, r.2)

pub ascending : {P : Line → Type 0} {e s : ℕ} {ls : List Line} → Covers P e s ls → (i j : ℕ) → i < j → j < length ls
    → (nth_line ls i).end ≤ (nth_line ls j).start
ascending (done q) i j k h = absurd (omega arith)
ascending (next a b c p t) i zero k h = absurd (omega arith)
ascending (next a b c p t) zero (suc j) k h = (inside t j (omega arith)).0
ascending (next a b c p t) (suc i) (suc j) k h = ascending t i j (omega arith) (omega arith)

pub holds : {P : Line → Type 0} {e s : ℕ} {ls : List Line} → Covers P e s ls → (i : ℕ) → i < length ls → P (nth_line ls i)
holds (done q) i h = absurd (omega arith)
holds (next a b c p t) zero h = p
holds (next a b c p t) (suc i) h = holds t i (omega arith)

-- every address of the region lies in a line, and P holds of that line
pub record InLine (P : Line → Type 0) (ls : List Line) (a : ℕ) : Type 0 where
  pub place : ℕ
  pub known : place < length ls
  pub from : (nth_line ls place).start ≤ a
  pub below : a < (nth_line ls place).end
  pub holds : P (nth_line ls place)

pub covered : {P : Line → Type 0} {e s : ℕ} {ls : List Line} → Covers P e s ls → (a : ℕ) → s ≤ a → a < e → InLine P ls a
covered (done q) a l u = absurd (omega arith)
covered {P = P} (next {s = s} {l = x} {ls = ls} b c d p t) a l u = go (le_or x.end a) (λ h. covered t a h u)
  where
    go : (x.end ≤ a) ⊎ (a < x.end) → (x.end ≤ a → InLine P ls a) → InLine P (x ∷ ls) a
    go (inl h) ih =
        let o = ih h in
        record { place = suc o.place; known = omega (arith, o.known); from = o.from; below = o.below; holds = o.holds }
    go (inr h) ih = record { place = 0; known = omega arith; from = omega arith; below = h; holds = p }
