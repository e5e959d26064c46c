-- Entry sizes, once over the level: 2^39, 2^30, 2^21 and 2^12 at levels 0 to 3, and 2^12 past them; a root's span. Rounding to a multiple.
use Rattle.std.specs.Prelude.{◌≡◌, ◌&&◌, ℕ, ◌+◌, ◌*◌, ◌-◌, ◌/◌, ◌%◌, ◌^◌, ◌≤◌, ◌<◌, eqb}
use Rattle.std.proofs.Common.{sym, ap, ◌∙◌, add-mul, mul_assoc, mul-le-mul_right, div-add-mod'}
use Rattle.std.proofs.Common.{mod-lt, mod-eq_of_lt, div-lt_iff_lt-mul, arith, pow-add, pow_pos, pow_mono}
use Rattle.std.proofs.Math.Nat.{mul-mod_left, zero-mod, mod-mod_of_dvd, dvd-mul_left, add-mul-mod_self_right, div-eq_of_lt-le}
use Rattle.std.specs.Int.Bits.{bit_and, bit_or}
use Rattle.std.proofs.lemmas.Nat.{and_mask}
use Rattle.std.proofs.Math.Pow.{mod-mod-pow}
use Rattle.laws.specs.Bit.{or_ones, or_aligned, and-not}

-- the bytes that one entry of a table at this level spans (document 01, "What a word says": entry sizes)
unfoldable pub size_at : ℕ → ℕ
size_at level = 2 ^ (12 + 9 * (3 - level))

pub size_pos : (level : ℕ) → 0 < size_at level
unfolding size_at
size_pos level = pow_pos (12 + 9 * (3 - level))

-- an entry spans 512 entries of the next level
pub size_step : (level : ℕ) → level < 3 → size_at level ≡ 512 * size_at (level + 1)
unfolding size_at
size_step level h =
    let e : 12 + 9 * (3 - level) ≡ 9 + (12 + 9 * (3 - (level + 1))) = omega arith in
    ap (λ (k : ℕ). 2 ^ k) e ∙ pow-add 2 9 (12 + 9 * (3 - (level + 1)))

-- from level 3 on an entry is a page
pub size_page : (level : ℕ) → 3 ≤ level → size_at level ≡ 4096
unfolding size_at
size_page level h = let e : 12 + 9 * (3 - level) ≡ 12 = omega arith in ap (λ (k : ℕ). 2 ^ k) e

-- every size is a multiple of the page
pub size_pages : (level : ℕ) → size_at level ≡ 2 ^ (9 * (3 - level)) * 4096
unfolding size_at
size_pages level =
    let e : 12 + 9 * (3 - level) ≡ 9 * (3 - level) + 12 = omega arith in ap (λ (k : ℕ). 2 ^ k) e ∙ pow-add 2 (9 * (3 - level)) 12

pub size_low : (level : ℕ) → 4096 ≤ size_at level
unfolding size_at
size_low level = pow_mono {i = 12} {j = 12 + 9 * (3 - level)} (omega arith)

pub size_high : (level : ℕ) → size_at level ≤ 2 ^ 39
unfolding size_at
size_high level = pow_mono {i = 12 + 9 * (3 - level)} {j = 39} (omega arith)

-- ---- a root's span

-- the bytes that a root at this level spans (document 01, "What a word says": "A root spans 512 entries")
unfoldable pub span : ℕ → ℕ
span level = 512 * size_at level

-- the span by the size of an entry, as the code has it
pub span_is : (level : ℕ) {size : ℕ} → size ≡ size_at level → span level ≡ 512 * size
unfolding span
span_is level e = ap (λ (g : ℕ). 512 * g) (sym e)

pub span_high : (level : ℕ) → span level ≤ 2 ^ 48
unfolding span
span_high level = let h = size_high level in omega arith

-- ---- rounding

-- the multiple of a at or below v (0 where a is 0)
unfoldable pub down : ℕ → ℕ → ℕ
down v a = v / a * a

-- the multiple of a at or above v
unfoldable pub up : ℕ → ℕ → ℕ
up v a = down (v + (a - 1)) a

pub down_rest : (v a : ℕ) → down v a + v % a ≡ v
unfolding down
down_rest v a = div-add-mod' v a

pub down-zero : (v : ℕ) → down v 0 ≡ 0
unfolding down
down-zero v = omega arith

pub up-zero : (v : ℕ) → up v 0 ≡ 0
unfolding up
up-zero v = down-zero (v + (0 - 1))

-- the multiples of a around v
down_between : (q v a : ℕ) → 0 < a → q * a ≤ v → v < (q + 1) * a → down v a ≡ q * a
unfolding down
down_between q v a h l u = ap (λ (k : ℕ). k * a) (div-eq_of_lt-le a l u)

pub up_exact : (v a : ℕ) → 0 < a → v % a ≡ 0 → up v a ≡ v
unfolding up
up_exact v a h e =
    let r = div-add-mod' v a in
    down_between (v / a) (v + (a - 1)) a h (omega arith) (omega arith) ∙ (let s : v / a * a ≡ v = omega arith in s)

pub up_next : (v a : ℕ) → 0 < a → (v % a ≡ 0 → ⊥) → up v a ≡ down v a + a
unfolding up down
up_next v a h n =
    let r = div-add-mod' v a in
    let m = mod-lt v h in
    down_between (v / a + 1) (v + (a - 1)) a h (omega arith) (omega arith) ∙ (let s : (v / a + 1) * a ≡ v / a * a + a = omega arith in s)

pub down_le : (v a : ℕ) → down v a ≤ v
down_le v a = let r = down_rest v a in omega arith

-- ---- sizes are powers of two: masks

pub size-or : (level a : ℕ) → bit_or a (size_at level - 1) ≡ down a (size_at level) + (size_at level - 1)
unfolding size_at down
size-or level a = or_ones (12 + 9 * (3 - level)) a

pub size_aligned : (level a b : ℕ) → eqb (bit_and (bit_or a b) (size_at level - 1)) 0
    ≡ eqb (a % size_at level) 0 && eqb (b % size_at level) 0
unfolding size_at
size_aligned level a b = or_aligned (12 + 9 * (3 - level)) a b

pub next_multiple : (i a : ℕ) → (i + 1) * a ≡ i * a + a
next_multiple i a = add-mul i 1 a ∙ (let e : i * a + 1 * a ≡ i * a + a = omega arith in e)

-- a level that is none of 0, 1 and 2
pub high_level : (level : ℕ) → (level ≡ 0 → ⊥) → (level ≡ 1 → ⊥) → (level ≡ 2 → ⊥) → 3 ≤ level
high_level level a b c = omega arith

-- what lies in the last entry below a multiple of the size leaves room for the whole entry
pub down_room : (q v a : ℕ) → 0 < a → v < q * a → down v a + a ≤ q * a
unfolding down
down_room q v a h l =
    let below : v / a < q = (div-lt_iff_lt-mul h).1 l in
    let m : (v / a + 1) * a ≤ q * a = mul-le-mul_right a (omega arith) in
    let e = next_multiple (v / a) a in
    omega arith

pub size-mod : (level a : ℕ) → bit_and a (size_at level - 1) ≡ a % size_at level
unfolding size_at
size-mod level a = and_mask a (12 + 9 * (3 - level))

pub size-down : (level a : ℕ) → a < 2 ^ 64 → bit_and a (2 ^ 64 - 1 - (size_at level - 1)) ≡ down a (size_at level)
size-down level a h =
    let high = size_high level in
    let both = and-not 64 a (size_at level - 1) h (omega arith) in
    let low = size-mod level a in
    let rest = down_rest a (size_at level) in
    omega arith

-- a multiple of an entry's size is a multiple of 4096
pub down_paged : (level a : ℕ) → down a (size_at level) % 4096 ≡ 0
unfolding down
down_paged level a =
    ap (λ (g : ℕ). a / size_at level * g % 4096) (size_pages level)
    ∙ ap (λ (x : ℕ). x % 4096) (sym (mul_assoc (a / size_at level) (2 ^ (9 * (3 - level))) 4096))
    ∙ mul-mod_left (a / size_at level * 2 ^ (9 * (3 - level))) 4096

-- an entry below 2^48 leaves room for the whole entry below 2^48
pub size_room : (level a : ℕ) → a < 2 ^ 48 → down a (size_at level) + size_at level ≤ 2 ^ 48
unfolding size_at
size_room level a h =
    let e : 48 ≡ (36 - 9 * (3 - level)) + (12 + 9 * (3 - level)) = omega arith in
    let w : 2 ^ 48 ≡ 2 ^ (36 - 9 * (3 - level)) * 2 ^ (12 + 9 * (3 - level)) =
    ap (λ (k : ℕ). 2 ^ k) e ∙ pow-add 2 (36 - 9 * (3 - level)) (12 + 9 * (3 - level)) in
    let r = down_room (2 ^ (36 - 9 * (3 - level))) a (2 ^ (12 + 9 * (3 - level))) (pow_pos (12 + 9 * (3 - level))) (omega arith) in
    omega arith

-- ---- multiples, and offsets in an entry

-- a multiple of a multiple
pub multiple_of : (c b x : ℕ) → x % (c * b) ≡ 0 → x % b ≡ 0
multiple_of c b x e = sym (mod-mod_of_dvd b x (dvd-mul_left b c)) ∙ ap (λ (r : ℕ). r % b) e ∙ zero-mod b

-- a multiple by its quotient
pub multiple_is : (x a : ℕ) → x % a ≡ 0 → x / a * a ≡ x
multiple_is x a e = let d = div-add-mod' x a in omega arith

-- what is added is a multiple
pub add_multiple : (x y a : ℕ) → y % a ≡ 0 → (x + y) % a ≡ x % a
add_multiple x y a e = ap (λ (z : ℕ). (x + z) % a) (sym (multiple_is y a e)) ∙ add-mul-mod_self_right x (y / a) a

-- the distance of two multiples is one
pub between_multiples : (x y a : ℕ) → x ≤ y → x % a ≡ 0 → y % a ≡ 0 → (y - x) % a ≡ 0
between_multiples x y a l p q =
    let e : x + (y - x) ≡ y = omega arith in
    let s : (x + (y - x)) % a ≡ (y - x + x) % a = ap (λ (z : ℕ). z % a) (omega arith) in
    sym (add_multiple (y - x) x a p) ∙ sym s ∙ ap (λ (z : ℕ). z % a) e ∙ q

-- the offset in an entry: whole entries of the next level, and the offset in the last of them
pub mod_parts : (c b x : ℕ) → 0 < b → 0 < c → x % (c * b) ≡ x / b % c * b + x % b
mod_parts c b x h k =
    let d = div-add-mod' x b in
    let f = div-add-mod' (x / b) c in
    let below = mod-lt (x / b) k in
    let l : (x / b % c + 1) * b ≤ c * b = mul-le-mul_right b (omega arith) in
    let n = next_multiple (x / b % c) b in
    let m = mod-lt x h in
    let t : x / b * b ≡ x / b / c * c * b + x / b % c * b = ap (λ (z : ℕ). z * b) (sym f) ∙ add-mul (x / b / c * c) (x / b % c) b in
    let u = mul_assoc (x / b / c) c b in
    let e : x ≡ x / b % c * b + x % b + x / b / c * (c * b) = omega arith in
    ap (λ (z : ℕ). z % (c * b)) e ∙ add-mul-mod_self_right (x / b % c * b + x % b) (x / b / c) (c * b) ∙ mod-eq_of_lt (omega arith)

-- further on in the same entry
pub mod_on : (a x y : ℕ) → 0 < a → x ≤ y → y < (x / a + 1) * a → y % a ≡ x % a + (y - x)
mod_on a x y h l u =
    let d = div-add-mod' x a in
    let e : y / a ≡ x / a = div-eq_of_lt-le a (omega arith) u in
    let f : x / a * a + y % a ≡ y = ap (λ (q : ℕ). q * a + y % a) (sym e) ∙ div-add-mod' y a in
    omega arith

-- a multiple of a size is one of the next level's
pub size_next : (level x : ℕ) → level < 3 → x % size_at level ≡ 0 → x % size_at (level + 1) ≡ 0
size_next level x h e = multiple_of 512 (size_at (level + 1)) x (ap (λ (a : ℕ). x % a) (sym (size_step level h)) ∙ e)

-- the offset in an entry: its slot in a table of the next level, and the offset there
pub size-parts : (level x : ℕ) → level < 3
    → x % size_at level ≡ x / size_at (level + 1) % 512 * size_at (level + 1) + x % size_at (level + 1)
size-parts level x h = ap (λ (a : ℕ). x % a) (size_step level h)
    ∙ mod_parts 512 (size_at (level + 1)) x (size_pos (level + 1)) (omega arith)

-- the place in a page
pub size_offset : (level a : ℕ) → a % size_at level % 4096 ≡ a % 4096
unfolding size_at
size_offset level a =
    let e : 12 + 9 * (3 - level) ≡ 9 * (3 - level) + 12 = omega arith in
    ap (λ (k : ℕ). a % 2 ^ k % 4096) e ∙ mod-mod-pow a (9 * (3 - level)) 12

-- a call one level down: what is left falls, and the level is one of the four
pub lower : {level t : ℕ} → 3 - level ≡ t → level < 3 → (3 - (level + 1) < t) × (level + 1 ≤ 3)
lower e h = (omega arith, omega arith)
