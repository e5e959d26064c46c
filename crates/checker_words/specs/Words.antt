-- A run of words of a table: what the soundness test asks of it word by word, and the same by the union of its words and a count of its
-- links.
use Rattle.std.specs.Prelude.{Bool, true, cond, ◌&&◌, List, [], ◌∷◌, ℕ, zero, suc, ◌+◌, ◌-◌, ◌/◌, ◌%◌, ◌^◌, eqb}
use Rattle.std.specs.Int.Bits.{bit_and, bit_or}
use Rattle.laws.specs.Size.{size_at}
use Rattle.entry.specs.Word.{only}
use Rattle.pool.specs.Number.{level_of}
use Rattle.pool.specs.Sound.{leafb, refersb}
use Rattle.std.specs.Prelude.{None, Option, Some}

-- ---- one run of words of a table whose number is y

-- a word passes: 0 in a free table; a table word (it is counted instead); or a leaf that may stand there
unfoldable pub passesb : ℕ → ℕ → ℕ → Bool
passesb set y w = cond (eqb y 0) (eqb w 0) (cond (refersb y w) true (leafb set (level_of y) w))

unfoldable pub pass_all : ℕ → ℕ → List ℕ → Bool
pass_all set y [] = true
pass_all set y (w ∷ ws) = passesb set y w && pass_all set y ws

-- 1 for a table word of a used table
unfoldable pub link_count : ℕ → ℕ → ℕ
link_count y w = cond (eqb y 0) 0 (cond (refersb y w) 1 0)

unfoldable pub count_all : ℕ → List ℕ → ℕ
count_all y [] = 0
count_all y (w ∷ ws) = link_count y w + count_all y ws

unfoldable pub run_of : ℕ → ℕ → List ℕ → Option ℕ
run_of set y ws = cond (pass_all set y ws) (Some (count_all y ws)) None

-- ---- a run by unions: which bits a leaf may have at a level of a used table

-- the flags of the set, and the address bits from the entry's size on; bit 1 at level 3; at level 0 neither bit 0 nor an address
unfoldable pub allowed_at : ℕ → ℕ → ℕ
allowed_at set zero = bit_and set (2 ^ 64 - 2)
allowed_at set (suc zero) = set + (2 ^ 48 - size_at 1)
allowed_at set (suc (suc zero)) = set + (2 ^ 48 - size_at 2)
allowed_at set (suc (suc (suc l))) = set + (2 ^ 48 - 2 ^ 12) + 2

-- the union of all words
unfoldable pub union : List ℕ → ℕ
union [] = 0
union (w ∷ ws) = bit_or w (union ws)

-- bit 0 is set where some word has bit 0 and lacks bit 1
unfoldable pub strays : List ℕ → ℕ
strays [] = 0
strays (w ∷ ws) = bit_or (bit_and w (2 ^ 64 - 1 - w / 2)) (strays ws)

-- the union of the words that are no table words, and how many table words there are
unfoldable pub leaves : List ℕ → ℕ
leaves [] = 0
leaves (w ∷ ws) = bit_or (cond (eqb (w % 4) 3) 0 w) (leaves ws)

unfoldable pub links : List ℕ → ℕ
links [] = 0
links (w ∷ ws) = cond (eqb (w % 4) 3) 1 0 + links ws

-- ---- a run, judged by its unions

-- of a free table
unfoldable pub free_run : List ℕ → Option ℕ
free_run ws = cond (eqb (union ws) 0) (Some 0) None

-- of a table of pages, with the bits that are allowed
unfoldable pub pages_run : ℕ → List ℕ → Option ℕ
pages_run allowed ws = cond (only allowed (union ws) && eqb (strays ws % 2) 0) (Some 0) None

-- of a table of levels 0 to 2
unfoldable pub links_run : ℕ → List ℕ → Option ℕ
links_run allowed ws = cond (only allowed (leaves ws)) (Some (links ws)) None
