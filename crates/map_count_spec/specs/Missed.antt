-- Rules 2 and 3 in numbers, and the chunks of which rule 2 fits no part: a valid entry that misses it misses it in every part, and a part
-- of a hole has address 0. Leans on `Needed`.
use Rattle.std.specs.Prelude.{◌≡◌, refl, Bool, true, false, not, cond, ◌&&◌, ◌⊎◌, ℕ, ◌+◌, ◌*◌, ◌-◌, ◌%◌, ◌^◌, ◌≤◌, ◌<◌, T, eqb, leb, ltb}
use Rattle.std.proofs.Common.{sym, ap, ◌∙◌, true≢false, inl, inr, mul-le-mul_right, arith, eqb→eq, leb→le, ltb→lt}
use Rattle.std.proofs.Math.Nat.{mul-mod_left}
use borrow.Author.Tests.{eq-eqb, ne_eqb, le-leb, lt-leb, lt-ltb, eqb-false, not-true}
use Rattle.laws.specs.Size.{size_at, size_pos, size_step, size_pages, size_next, size-parts, size_room, down, multiple_of, multiple_is}
use Rattle.laws.specs.Size.{add_multiple, mod_on, next_multiple}
use Rattle.laws.specs.Test.{by_bool, eq_or, and_l, and_r, is_true, is_false}
use Rattle.entry.specs.Word.{address_of, flags_of, address_below, address_back, flags_back, valid, flags_low}
use Rattle.address_slot.specs.Slot.{entry_last, entry_index}
use Rattle.region.specs.Region.{whole}
use Rattle.region.specs.Chunks.{in_entry}
use Rattle.map_rules.specs.declared.Map.{Map}
use Rattle.map_rules.specs.declared.Rule.{Rule}
use Rattle.map_rules.specs.declared.Rule.TheVariants.{Drop, Down}
use Rattle.map_rules.specs.Rules.{table_word, rule2, blockable, rule3, rule4, rule_of}
use Rattle.map_count_spec.specs.Needed.{if_down, child_word, child_hole, child_block}
use Rattle.map_count_spec.specs.Closed.{start_of, end_of, first_frame}

-- ---- rule 2

pub record Same (level : ℕ) (m : Map) (w : ℕ) : Type 0 where
  pub plain : w % 4 ≡ 3 → ⊥
  pub flags : flags_of w ≡ m.flags
  pub place : first_frame m ≡ address_of w + start_of m % size_at level

pub same-says : (level : ℕ) (m : Map) (w : ℕ) → T (rule2 level m w) → Same level m w
unfolding rule2 table_word
same-says level m w t =
    let o = start_of m % size_at level in
    let a = not (eqb (w % 4) 3) in
    let b = eqb (flags_of w) m.flags in
    let c = leb o (first_frame m) in
    let d = eqb (first_frame m - o) (address_of w) in
    let t₁ = and_r a (b && (c && d)) t in
    let t₂ = and_r b (c && d) t₁ in
    let low = leb→le o (first_frame m) (and_l c d t₂) in
    let is = eqb→eq (first_frame m - o) (address_of w) (and_r c d t₂) in
    record {
      plain = eqb-false (w % 4) 3 (not-true (eqb (w % 4) 3) (is_true a (and_l a (b && (c && d)) t)));
      flags = eqb→eq (flags_of w) m.flags (and_l b (c && d) t₁);
      place = omega arith;
    }

pub says_same : (level : ℕ) (m : Map) (w : ℕ) → Same level m w → rule2 level m w ≡ true
unfolding rule2 table_word
says_same level m w p =
    let o = start_of m % size_at level in
    let low : o ≤ first_frame m = omega (arith, p.place) in
    let is : first_frame m - o ≡ address_of w = omega (arith, p.place) in
    rw (
      ne_eqb (w % 4) 3 p.plain,
      eq-eqb (flags_of w) m.flags p.flags,
      le-leb o (first_frame m) low,
      eq-eqb (first_frame m - o)
          (address_of w) is,
    )

-- ---- rule 3

-- what rule 3 asks of a chunk that begins with its entry
pub record Blocks (level : ℕ) (m : Map) : Type 0 where
  pub allowed : m.blocks ≡ true
  pub frame : first_frame m % size_at level ≡ 0
  pub ends : end_of m % size_at level ≡ 0

-- what bars a block
abbrev pub Barred : ℕ → Map → Type 0
Barred level m = (m.blocks ≡ false) ⊎ ((first_frame m % size_at level ≡ 0 → ⊥) ⊎ (end_of m % size_at level ≡ 0 → ⊥))

pub blocks_or : (level : ℕ) (m : Map) → Blocks level m ⊎ Barred level m
blocks_or level m =
    by_bool m.blocks (λ b. go b (eq_or (first_frame m % size_at level) 0) (eq_or (end_of m % size_at level) 0)) (λ b. inr (inl b))
  where
    go : m.blocks ≡ true → (first_frame m % size_at level ≡ 0) ⊎ (first_frame m % size_at level ≡ 0 → ⊥)
        → (end_of m % size_at level ≡ 0) ⊎ (end_of m % size_at level ≡ 0 → ⊥)
        → Blocks level m ⊎ Barred level m
    go b (inl p) (inl e) = inl (record { allowed = b; frame = p; ends = e })
    go b (inl p) (inr e) = inr (inr (inr e))
    go b (inr p) e = inr (inr (inl p))

pub fits_block : (level : ℕ) (m : Map) (w : ℕ) → 0 < level → (w % 4 ≡ 3 → ⊥) → start_of m % size_at level ≡ 0 → Blocks level m
    → rule3 level m w ≡ true
unfolding rule3 blockable whole table_word
fits_block level m w h n s b =
    rw (
      eq-eqb (start_of m % size_at level) 0 s,
      eq-eqb (end_of m % size_at level) 0 b.ends,
      ne_eqb (w % 4) 3 n,
      eq-eqb
          (first_frame m % size_at level) 0 b.frame,
      b.allowed,
      lt-ltb 0 level h,
    )

pub barred_block : (level : ℕ) (m : Map) (w : ℕ) → Barred level m → rule3 level m w ≡ false
unfolding rule3 blockable whole table_word
barred_block level m w why = go why
  where
    a : Bool
    a = eqb (start_of m % size_at level) 0

    b : Bool
    b = eqb (end_of m % size_at level) 0

    c : Bool
    c = not (eqb (w % 4) 3)

    first : (x y z : Bool) → (x && (y && (z && (false && ltb 0 level)))) ≡ false
    first true true true = refl
    first true true false = refl
    first true false z = refl
    first false y z = refl

    second : (x y : Bool) → (x && (y && (false && (m.blocks && ltb 0 level)))) ≡ false
    second true true = refl
    second true false = refl
    second false y = refl

    third : (x y : Bool) → ((x && false) && y) ≡ false
    third true y = refl
    third false y = refl

    go : Barred level m → ((a && b) && (c && (eqb (first_frame m % size_at level) 0 && (m.blocks && ltb 0 level)))) ≡ false
    go (inl n) = rw n (first (a && b) c (eqb (first_frame m % size_at level) 0))
    go (inr (inl n)) = rw (ne_eqb (first_frame m % size_at level) 0 n) (second (a && b) c)
    go (inr (inr n)) =
        rw (ne_eqb (end_of m % size_at level) 0 n) (third a (c && (eqb (first_frame m % size_at level) 0 && (m.blocks && ltb 0 level))))

-- ---- which rule

pub rule_none : (level : ℕ) (m : Map) (w n : ℕ) → level < 3 → rule2 level m w ≡ true → if_down (rule_of level m w) n ≡ 0
unfolding rule_of if_down
rule_none level m w n h e = rw (lt-leb 3 level h, e)

pub down_misses : (level : ℕ) (m : Map) (w : ℕ) → level < 3 → rule_of level m w ≡ Down → rule2 level m w ≡ false
unfolding if_down
down_misses level m w h e =
    by_bool (rule2 level m w)
    (λ fits. absurd
    (let z = rule_none level m w 1 h fits in let q : if_down (rule_of level m w) 1 ≡ 1 = ap (λ (r : Rule). if_down r 1) e in
    omega arith)) (λ misses. misses)

pub rule-whole : (level : ℕ) (m : Map) (w n : ℕ) → level < 3 → rule2 level m w ≡ false → rule3 level m w ≡ true
    → if_down (rule_of level m w) n ≡ 0
unfolding rule_of if_down
rule-whole level m w n h e f = rw (lt-leb 3 level h, e, f)

pub rule-down : (level : ℕ) (m : Map) (w n : ℕ) → level < 3 → rule2 level m w ≡ false → rule3 level m w ≡ false → (w % 4 ≡ 3 → ⊥)
    → if_down (rule_of level m w) n ≡ n
unfolding rule_of if_down rule4 table_word
rule-down level m w n h e f p = rw (lt-leb 3 level h, e, f, ne_eqb (w % 4) 3 p) (both (whole level m.region))
  where
    both : (b : Bool) → if_down (cond (b && (false && not (valid m.flags))) (Drop m.flags) Down) n ≡ n
    both true = refl
    both false = refl

-- ---- words that are no table

-- what soundness asks of them, as far as the count needs it: a valid one's address is a multiple of the entry's size
pub record Lawful (level w : ℕ) : Type 0 where
  pub plain : w % 4 ≡ 3 → ⊥
  pub aligned : w % 2 ≡ 1 → address_of w % size_at level ≡ 0

-- the part of a valid entry that a split has for the address a
record Piece (level w a : ℕ) : Type 0 where
  low : child_word level w a % 4 ≡ 1
  flags : flags_of (child_word level w a) ≡ flags_of w
  address : address_of (child_word level w a) ≡ address_of w + entry_index (level + 1) a * size_at (level + 1)
  aligned : address_of (child_word level w a) % size_at (level + 1) ≡ 0

flags_again : (w : ℕ) → flags_of (flags_of w) ≡ flags_of w
unfolding flags_of
flags_again w = omega arith

flags_alone : (w : ℕ) → address_of (flags_of w) ≡ 0
unfolding flags_of address_of
flags_alone w = omega arith

piece : (level w a : ℕ) → level + 1 < 3 → w % 4 ≡ 1 → address_of w % size_at level ≡ 0 → Piece level w a
unfolding down entry_index
piece level w a h one z =
    let size = size_at (level + 1) in
    let i = entry_index (level + 1) a in
    let at = address_of w + i * size in
    let own = multiple_is (address_of w) (size_at level) z in
    let word : child_word level w a ≡ at + flags_of w =
    child_block level w a h (omega arith)
    ∙ (let e : down (address_of w) (size_at level) + i * size + flags_of w ≡ at + flags_of w = omega arith in e) in
    let whole : at % size ≡ 0 =
    add_multiple (address_of w) (i * size) size (mul-mod_left i size) ∙ size_next level (address_of w) (omega arith) z in
    let pages : at % 4096 ≡ 0 =
    multiple_of (2 ^ (9 * (3 - (level + 1)))) 4096 at (ap (λ (s : ℕ). at % s) (sym (size_pages (level + 1))) ∙ whole) in
    let room = size_room level (address_of w) (address_below w) in
    let slot : (i + 1) * size ≤ 512 * size = mul-le-mul_right size (omega arith) in
    let below : at < 2 ^ 48 = let s = size_step level (omega arith) in
    let n = next_multiple i size in
    let p = size_pos (level + 1) in
    omega arith in
    let again = flags_again w in
    let address = ap address_of word ∙ address_back at (flags_of w) pages below again in
    record {
      low = let f = flags_low w in omega arith;
      flags = ap flags_of word ∙ flags_back at (flags_of w) pages below again;
      address = address;
      aligned = ap (λ (x : ℕ). x % size) address ∙ whole;
    }

-- the words of a split are lawful again
pub child_lawful : (level w a : ℕ) → level + 1 < 3 → Lawful level w → Lawful (level + 1) (child_word level w a)
child_lawful level w a h p = go (eq_or (w % 2) 1)
  where
    go : (w % 2 ≡ 1) ⊎ (w % 2 ≡ 1 → ⊥) → Lawful (level + 1) (child_word level w a)
    go (inl v) =
        let n = p.plain in
        let q = piece level w a h (odd n) (p.aligned v) in
        record { plain = (λ e. omega (arith, q.low)); aligned = (λ e. q.aligned) }
      where
        odd : (w % 4 ≡ 3 → ⊥) → w % 4 ≡ 1
        odd n = omega arith
    go (inr n) =
        let e : child_word level w a % 4 ≡ w % 4 = ap (λ (x : ℕ). x % 4) (child_hole level w a n) ∙ flags_low w in
        record { plain = (λ q. p.plain (sym e ∙ q)); aligned = (λ q. absurd (n (omega arith))) }

-- ---- the chunks of which rule 2 fits no part

pub data Missed (level : ℕ) (m : Map) (w : ℕ) : Type 0 where
  hole : w % 2 ≡ 0 → address_of w ≡ 0 → start_of m % size_at level < first_frame m → Missed level m w
  block : w % 4 ≡ 1 → address_of w % size_at level ≡ 0
      → (flags_of w ≡ m.flags → first_frame m ≡ address_of w + start_of m % size_at level → ⊥)
      → Missed level m w

-- as it is tested, where rule 2 doesn't fit the chunk itself and the chunk begins with an entry of the next level
unfoldable pub missed_case : ℕ → Map → ℕ → Bool
missed_case level m w =
    cond (eqb (w % 2) 0) (eqb (address_of w) 0 && ltb (start_of m % size_at level) (first_frame m))
    (not (table_word w) && eqb (address_of w % size_at level) 0)

unfoldable pub missedb : ℕ → Map → ℕ → Bool
missedb level m w = eqb (start_of m % size_at (level + 1)) 0 && missed_case level m w

pub missed_starts : (level : ℕ) (m : Map) (w : ℕ) → missedb level m w ≡ true → start_of m % size_at (level + 1) ≡ 0
unfolding missedb
missed_starts level m w e =
    eqb→eq (start_of m % size_at (level + 1)) 0 (and_l (eqb (start_of m % size_at (level + 1)) 0) (missed_case level m w) (rw e tt))

pub missed_says : (level : ℕ) (m : Map) (w : ℕ) → rule2 level m w ≡ false → missedb level m w ≡ true → Missed level m w
unfolding missedb missed_case table_word
missed_says level m w misses e = by_bool (eqb (w % 2) 0) even odd
  where
    a : Bool
    a = eqb (address_of w) 0 && ltb (start_of m % size_at level) (first_frame m)

    b : Bool
    b = not (eqb (w % 4) 3) && eqb (address_of w % size_at level) 0

    tells : {x : Bool} → x ≡ true → T x
    tells e = rw e tt

    holds : cond (eqb (w % 2) 0) a b ≡ true
    holds = is_true (cond (eqb (w % 2) 0) a b) (and_r (eqb (start_of m % size_at (level + 1)) 0) (cond (eqb (w % 2) 0) a b) (tells e))

    even : eqb (w % 2) 0 ≡ true → Missed level m w
    even e =
        let t : T a = tells (sym (ap (λ (x : Bool). cond x a b) e) ∙ holds) in
        hole (eqb→eq (w % 2) 0 (tells e))
        (eqb→eq (address_of w) 0 (and_l (eqb (address_of w) 0) (ltb (start_of m % size_at level) (first_frame m)) t))
        (ltb→lt (start_of m % size_at level) (first_frame m) (and_r (eqb (address_of w) 0) (ltb (start_of m % size_at level) (first_frame m)) t))

    odd : eqb (w % 2) 0 ≡ false → Missed level m w
    odd e =
        let t : T b = tells (sym (ap (λ (x : Bool). cond x a b) e) ∙ holds) in
        let low = eqb-false (w % 2) 0 e in
        let plain = eqb-false (w % 4) 3
        (not-true (eqb (w % 4) 3)
        (is_true (not (eqb (w % 4) 3)) (and_l (not (eqb (w % 4) 3)) (eqb (address_of w % size_at level) 0) t))) in
        block (one low plain) (eqb→eq (address_of w % size_at level) 0 (and_r (not (eqb (w % 4) 3)) (eqb (address_of w % size_at level) 0) t))
        (λ f p. let q : true ≡ false = sym (says_same level m w (record { plain = plain; flags = f; place = p })) ∙ misses in true≢false q)
      where
        one : (w % 2 ≡ 0 → ⊥) → (w % 4 ≡ 3 → ⊥) → w % 4 ≡ 1
        one x y = omega arith

pub missed_lawful : {level : ℕ} {m : Map} {w : ℕ} → Missed level m w → Lawful level w
missed_lawful (hole a b c) = record { plain = (λ e. omega arith); aligned = (λ e. absurd (omega arith)) }
missed_lawful (block a b c) = record { plain = (λ e. omega arith); aligned = (λ e. b) }

pub missed_plain : {level : ℕ} {m : Map} {w : ℕ} → Missed level m w → w % 4 ≡ 3 → ⊥
missed_plain (hole a b c) e = omega arith
missed_plain (block a b c) e = omega arith

pub missed_rule2 : (level : ℕ) (m : Map) (w : ℕ) → Missed level m w → rule2 level m w ≡ false
missed_rule2 level m w x = is_false (rule2 level m w) (λ t. go x (same-says level m w t))
  where
    go : Missed level m w → Same level m w → ⊥
    go (hole a b c) s = omega (arith, s.place)
    go (block a b c) s = c s.flags s.place

-- c begins in m, and its frame is m's there
pub record Part (m c : Map) : Type 0 where
  pub from : start_of m ≤ start_of c
  pub below : start_of c < end_of m
  pub frame : first_frame c ≡ first_frame m + (start_of c - start_of m)
  pub flags : c.flags ≡ m.flags

module _ (level : ℕ) (m c : Map) (w : ℕ) (high : level + 1 < 3) (one : end_of m ≤ entry_last level (start_of m) + 1) (p : Part m c) where
  offset : start_of c % size_at level ≡ start_of m % size_at level + (start_of c - start_of m)
  offset =
      mod_on (size_at level) (start_of m) (start_of c) (size_pos level) p.from
      (in_entry level (start_of m) (start_of c) (omega (arith, p.below)))

  -- the offset of c's start, by its slot below
  slots : start_of c % size_at level ≡ entry_index (level + 1) (start_of c) * size_at (level + 1) + start_of c % size_at (level + 1)
  unfolding entry_index
  slots = size-parts level (start_of c) (omega arith)

  pub missed_block : w % 4 ≡ 1 → address_of w % size_at level ≡ 0
      → (flags_of w ≡ m.flags → first_frame m ≡ address_of w + start_of m % size_at level → ⊥)
      → Missed (level + 1) c (child_word level w (start_of c))
  missed_block a b n =
      let q = piece level w (start_of c) high a b in
      let o = offset in
      let i = slots in
      block q.low q.aligned (λ f e. n (sym q.flags ∙ f ∙ p.flags) (omega (arith, q.address, p.frame, p.from)))

  pub missed_hole : w % 2 ≡ 0 → start_of m % size_at level < first_frame m → Missed (level + 1) c (child_word level w (start_of c))
  missed_hole a l =
      let e = child_hole level w (start_of c) (λ z. omega arith) in
      let o = offset in
      let i = slots in
      hole (ap (λ (x : ℕ). x % 2) e ∙ (let f = flags_low w in omega arith)) (ap address_of e ∙ flags_alone w)
      (omega (arith, p.frame, p.from))

  pub missed_part : Missed level m w → Missed (level + 1) c (child_word level w (start_of c))
  missed_part (hole a b l) = missed_hole a l
  missed_part (block a b n) = missed_block a b n

-- a later part of a hole, from where an entry begins: its frame is above 0
pub missed_later : (level : ℕ) (c : Map) (w : ℕ) → w % 2 ≡ 0 → start_of c % size_at (level + 1) ≡ 0 → 0 < first_frame c
    → Missed (level + 1) c (child_word level w (start_of c))
missed_later level c w a z l =
    let e = child_hole level w (start_of c) (λ z. omega arith) in
    hole (ap (λ (x : ℕ). x % 2) e ∙ (let f = flags_low w in omega arith)) (ap address_of e ∙ flags_alone w) (omega arith)

-- ---- is_missed

module _ (level : ℕ) (m : Map) (w : ℕ) where
  pub test_start : (start_of m % size_at (level + 1) ≡ 0 → ⊥) → false ≡ missedb level m w
  unfolding missedb
  test_start n = rw (ne_eqb (start_of m % size_at (level + 1)) 0 n)

  module _ (starts : start_of m % size_at (level + 1) ≡ 0) where
    module _ (low : w % 2 ≡ 0) where
      pub test_address : (address_of w ≡ 0 → ⊥) → false ≡ missedb level m w
      unfolding missedb missed_case
      test_address n = rw (eq-eqb (start_of m % size_at (level + 1)) 0 starts, eq-eqb (w % 2) 0 low, ne_eqb (address_of w) 0 n)

      pub test_hole : address_of w ≡ 0 → ltb (start_of m % size_at level) (first_frame m) ≡ missedb level m w
      unfolding missedb missed_case
      test_hole e = rw (eq-eqb (start_of m % size_at (level + 1)) 0 starts, eq-eqb (w % 2) 0 low, eq-eqb (address_of w) 0 e)

    module _ (odd : w % 2 ≡ 0 → ⊥) where
      pub test_table : w % 4 ≡ 3 → false ≡ missedb level m w
      unfolding missedb missed_case table_word
      test_table e = rw (eq-eqb (start_of m % size_at (level + 1)) 0 starts, ne_eqb (w % 2) 0 odd, eq-eqb (w % 4) 3 e)

      pub test_block : (w % 4 ≡ 3 → ⊥) → eqb (address_of w % size_at level) 0 ≡ missedb level m w
      unfolding missedb missed_case table_word
      test_block n = rw (eq-eqb (start_of m % size_at (level + 1)) 0 starts, ne_eqb (w % 2) 0 odd, ne_eqb (w % 4) 3 n)
