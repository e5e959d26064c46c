-- Pages and entries by number. A page's number is its address / 4096. An entry of a table with `depth` levels below its own spans 512^depth
-- pages; the q-th entry of that size begins at page q · 512^depth, in the lower and in the upper range.
use Rattle.std.specs.Prelude.{◌≡◌, refl, ℕ, zero, suc, ◌+◌, ◌*◌, ◌-◌, ◌/◌, ◌%◌, ◌^◌, ◌≤◌, ◌<◌}
use Rattle.std.proofs.Common.{sym, ap, ◌∙◌, pow-suc, mul-le-mul_right, div-add-mod', mod-lt, mul_comm, mul_assoc, add-mul, arith}
use Rattle.std.proofs.Math.Nat.{one-le-pow, div-eq_of_lt-le, div-div-eq-div-mul, mul-mod_left}
use Rattle.laws.specs.Size.{size_at, size_step, size_page}

-- the pages of an entry
unfoldable pub pages_in : ℕ → ℕ
pages_in depth = 512 ^ depth

-- the first page of the q-th entry
unfoldable pub first : ℕ → ℕ → ℕ
first depth q = q * pages_in depth

-- the number of the entry in slot i of the table below entry q
unfoldable pub child : ℕ → ℕ → ℕ
child q i = q * 512 + i

-- the slot of a page in a table with `depth` levels below its own
unfoldable pub slot_of_page : ℕ → ℕ → ℕ
slot_of_page page depth = page / pages_in depth % 512

-- ---- spans

pub span_pos : (depth : ℕ) → 0 < pages_in depth
unfolding pages_in
span_pos depth = one-le-pow depth 512 (omega arith)

pub span-zero : pages_in 0 ≡ 1
unfolding pages_in
span-zero = refl

pub span_suc : (depth : ℕ) → pages_in (suc depth) ≡ pages_in depth * 512
unfolding pages_in
span_suc depth = pow-suc 512 depth

-- in bytes, at the level that has `depth` below it
pub span-size : (depth : ℕ) → depth ≤ 3 → size_at (3 - depth) ≡ pages_in depth * 4096
span-size zero h = let e = span-zero in size_page 3 (omega arith) ∙ (let z : 4096 ≡ pages_in 0 * 4096 = omega arith in z)
span-size (suc depth) h =
    let below = size_step (3 - suc depth) (omega arith) in
    let same : 3 - suc depth + 1 ≡ 3 - depth = omega arith in
    let size = ap size_at same ∙ span-size depth (omega arith) in
    let step = span_suc depth in
    omega arith

-- an address's entry, by its page
pub entry-number : (depth a : ℕ) → depth ≤ 3 → a / size_at (3 - depth) ≡ a / 4096 / pages_in depth
entry-number depth a h =
    ap (λ (x : ℕ). a / x) (span-size depth h ∙ mul_comm (pages_in depth) 4096) ∙ sym (div-div-eq-div-mul a 4096 (pages_in depth))

-- the address at which the entry of an address starts, in pages
pub entry_start : (depth a : ℕ) → depth ≤ 3 → a / size_at (3 - depth) * size_at (3 - depth) ≡ first depth (a / 4096 / pages_in depth) * 4096
unfolding first
entry_start depth a h =
    let q : ℕ = a / 4096 / pages_in depth in
    ap (λ (x : ℕ). x * size_at (3 - depth)) (entry-number depth a h) ∙ ap (λ (x : ℕ). q * x) (span-size depth h)
    ∙ sym (mul_assoc q (pages_in depth) 4096)

-- the offset of an address in its entry, in pages
pub entry_rest : (depth a : ℕ) → depth ≤ 3 → a % 4096 ≡ 0 → a % size_at (3 - depth) ≡ a / 4096 % pages_in depth * 4096
unfolding first
entry_rest depth a h pages =
    let whole = div-add-mod' a (size_at (3 - depth)) in
    let start = entry_start depth a h in
    let page = div-add-mod' (a / 4096) (pages_in depth) in
    omega arith

-- ---- the entry below

pub child-first : (depth q i : ℕ) → first depth (child q i) ≡ first (suc depth) q + i * pages_in depth
unfolding first child
child-first depth q i =
    let s = span_suc depth in
    add-mul (q * 512) i (pages_in depth)
    ∙ ap (λ (x : ℕ). x + i * pages_in depth) (mul_assoc q 512 (pages_in depth)
    ∙ ap (λ (x : ℕ). q * x) (mul_comm 512 (pages_in depth) ∙ sym s))

pub child_in : (depth q i : ℕ) → i < 512
    → (first (suc depth) q ≤ first depth (child q i))
    × (first depth (child q i) + pages_in depth ≤ first (suc depth) q + pages_in (suc depth))
child_in depth q i h =
    let c = child-first depth q i in
    let s = span_suc depth in
    let m = mul-le-mul_right (pages_in depth) h in
    (omega arith, omega arith)

-- an entry ends at a multiple of its size
pub end_rest : (depth q : ℕ) → (first depth q + pages_in depth) % pages_in depth ≡ 0
unfolding first
end_rest depth q =
    let e : q * pages_in depth + pages_in depth ≡ (q + 1) * pages_in depth = let a = add-mul q 1 (pages_in depth) in omega arith in
    ap (λ (x : ℕ). x % pages_in depth) e ∙ mul-mod_left (q + 1) (pages_in depth)

-- entries below stand in the order of their slots
pub child_order : (depth q i j : ℕ) → i < j → first depth (child q i) + pages_in depth ≤ first depth (child q j)
child_order depth q i j h = omega (arith, child-first depth q i, child-first depth q j, mul-le-mul_right (pages_in depth) h)

-- a multiple of an entry's size, and some entries of the next level more, is a multiple of their size
pub multiple_child : (depth a i : ℕ) → a % pages_in (suc depth) ≡ 0 → (a + i * pages_in depth) % pages_in depth ≡ 0
unfolding first child
multiple_child depth a i e =
    let q : ℕ = a / pages_in (suc depth) in
    let whole : a ≡ first (suc depth) q = omega (arith, div-add-mod' a (pages_in (suc depth))) in
    let sum : a + i * pages_in depth ≡ first depth (child q i) = ap (λ (x : ℕ). x + i * pages_in depth) whole
    ∙ sym (child-first depth q i) in
    ap (λ (x : ℕ). x % pages_in depth) sum ∙ mul-mod_left (child q i) (pages_in depth)

-- the sizes that take blocks divide 2^36
pub block_end : (depth a : ℕ) → depth < 3 → a % pages_in depth ≡ 0 → a < 2 ^ 36 → a + pages_in depth ≤ 2 ^ 36
unfolding pages_in
block_end zero a low at below = omega arith
block_end (suc zero) a low at below = omega arith
block_end (suc (suc zero)) a low at below = omega arith
block_end (suc (suc (suc depth))) a low at below = absurd (omega arith)

-- ---- the pages of an entry

-- the page lies in the q-th entry
abbrev pub In : ℕ → ℕ → ℕ → Type 0
In depth q page = page / pages_in depth ≡ q

pub in_from : (depth q page : ℕ) → In depth q page → (first depth q ≤ page) × (page < first depth q + pages_in depth)
unfolding first
in_from depth q page e =
    let d = div-add-mod' page (pages_in depth) in
    let m = mod-lt page (span_pos depth) in
    let k : page / pages_in depth * pages_in depth ≡ q * pages_in depth = ap (λ (x : ℕ). x * pages_in depth) e in
    (omega arith, omega arith)

pub in_of : (depth q page : ℕ) → first depth q ≤ page → page < first depth q + pages_in depth → In depth q page
unfolding first
in_of depth q page l u = div-eq_of_lt-le (pages_in depth) l (let e = add-mul q 1 (pages_in depth) in omega arith)

pub in_rest : (depth q page : ℕ) → In depth q page → first depth q + page % pages_in depth ≡ page
unfolding first
in_rest depth q page e = ap (λ (x : ℕ). x * pages_in depth + page % pages_in depth) (sym e) ∙ div-add-mod' page (pages_in depth)

pub slot_lt : (page depth : ℕ) → slot_of_page page depth < 512
unfolding slot_of_page
slot_lt page depth = mod-lt (page / pages_in depth) (omega arith)

-- one level down a page lies in the entry of its slot
pub in_child : (depth q page : ℕ) → In (suc depth) q page → In depth (child q (slot_of_page page depth)) page
unfolding child slot_of_page
in_child depth q page e =
    let up : page / pages_in (suc depth) ≡ page / pages_in depth / 512 =
    ap (λ (x : ℕ). page / x) (span_suc depth) ∙ sym (div-div-eq-div-mul page (pages_in depth) 512) in
    let d = div-add-mod' (page / pages_in depth) 512 in
    omega arith

-- a page's offset in an entry is that in the entry of its slot, past the slots before
pub rest_child : (page depth : ℕ) → page % pages_in (suc depth) ≡ slot_of_page page depth * pages_in depth + page % pages_in depth
rest_child page depth =
    let q : ℕ = page / pages_in (suc depth) in
    let a = in_rest (suc depth) q page refl in
    let b = in_rest depth (child q (slot_of_page page depth)) page (in_child depth q page refl) in
    let c = child-first depth q (slot_of_page page depth) in
    omega arith
