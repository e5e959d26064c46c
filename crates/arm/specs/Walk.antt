-- The Arm walk in the terms of the code: a law for each way on from a table, by `sub_of` and `kind_of`. Leans on `Arm`.
use Rattle.std.specs.Prelude.{◌≡◌, refl, cond, ◌&&◌, List, [], ◌∷◌, ◌⊎◌, ◌≢◌, eqb, leb, ltb, get_or}
use Rattle.std.proofs.Common.{sym, ap₂, ◌∙◌, inl, inr}
use Rattle.std.proofs.Math.Path.{ap}
use Prim.Native.Nat.{ℕ, zero, suc, ◌+◌, ◌*◌, ◌-◌, ◌/◌, ◌%◌, ◌^◌, ◌≤◌, ◌<◌}
use native.Mathlib.Omega.{arith}
use Rattle.std.specs.Int.Bits.{bit_and}
use borrow.Author.Tests.{ne_eqb, le-leb, lt-leb, lt-ltb, le-ltb}
use Rattle.laws.specs.Size.{size_at, size_page, size-mod, size_offset, down, down_rest}
use Rattle.laws.specs.Test.{eq_or, le_or}
use Rattle.entry.specs.Word.{address_of, address_pages, address_and_flags, flags_of, kind_of, Says, kind_says}
use Rattle.entry.specs.Sub.{sub_of, sub_leaf, sub_low, sub_high, sub_in}
use Rattle.entry.specs.declared.Kind.TheVariants.{Block as block', Hole as hole'}
use Rattle.entry.specs.declared.Sub.{Sub}
use Rattle.entry.specs.declared.Sub.TheVariants.{Table, Outside, Leaf}
use Rattle.arm.specs.Arm.{bits, low_bit, index, table_address, frame_of, flags_in, hole, block, page, Reached, at, away, says, fetch}
use Rattle.arm.specs.Arm.{reach_from}

-- the slots of an address, by level
unfoldable pub slots_of : ℕ → List ℕ
slots_of va = index 0 va ∷ index 1 va ∷ index 2 va ∷ index 3 va ∷ []

-- ---- fields

-- an entry's size
pub size_is : (level : ℕ) → 2 ^ low_bit level ≡ size_at level
unfolding low_bit size_at
size_is zero = refl
size_is (suc zero) = refl
size_is (suc (suc zero)) = refl
size_is (suc (suc (suc level))) = sym (size_page (suc (suc (suc level))) (omega arith))

pub index_is : (level va : ℕ) → index level va ≡ va / size_at level % 512
unfolding index bits
index_is level va =
    let nine : suc (low_bit level + 8) - low_bit level ≡ 9 = omega arith in
    ap₂ (λ (x y : ℕ). va / x % 2 ^ y) (size_is level) nine

pub slots_at : (level va : ℕ) → level ≤ 3 → get_or (slots_of va) level 0 ≡ index level va
unfolding slots_of
slots_at zero va h = refl
slots_at (suc zero) va h = refl
slots_at (suc (suc zero)) va h = refl
slots_at (suc (suc (suc zero))) va h = refl
slots_at (suc (suc (suc (suc level)))) va h = absurd (omega arith)

pub slot_below : (level va : ℕ) → index level va < 512
slot_below level va = rw (index_is level va) (let h : va / size_at level % 512 < 512 = omega arith in h)

-- read off the slots
pub fetch_is : (words : List ℕ) (va k level : ℕ) {slots : List ℕ} → slots ≡ slots_of va → level ≤ 3
    → get_or words (512 * k + get_or slots level 0) 0 ≡ fetch words va k level
unfolding fetch
fetch_is words va k level e h = rw (e, slots_at level va h)

pub low_bits : (w : ℕ) → bits 1 0 w ≡ w % 4
unfolding bits
low_bits w = omega arith

pub table_address_lem : (w : ℕ) → table_address w ≡ address_of w
unfolding table_address bits address_of
table_address_lem w = refl

-- flags, without bit 1
pub flags_is : (w : ℕ) → flags_of w / 4 * 4 + flags_of w % 2 ≡ flags_in w
unfolding flags_in bits table_address
flags_is w =
    sym
    (less (address_of w) (flags_of w) w (address_and_flags w)
    (bit-one (address_of w) (flags_of w) w (address_and_flags w) (address_pages w)) (table_address_lem w))
  where
    -- bit 1 is a flag's
    bit-one : (a f w : ℕ) → a + f ≡ w → a % 4096 ≡ 0 → w / 2 % 2 ≡ f / 2 % 2
    bit-one a f w e p = omega arith

    less : (a f w : ℕ) {b : ℕ} → a + f ≡ w → w / 2 % 2 ≡ f / 2 % 2 → b ≡ a → w - (b + w / 2 % 2 * 2) ≡ f / 4 * 4 + f % 2
    less a f w e q r = omega arith

-- the entry's address, cleared below the entry's size, plus the page's offset
pub frame_is : (level w va : ℕ) → frame_of level w va ≡ down (address_of w) (size_at level) + down (va % size_at level) 4096
unfolding frame_of bits low_bit address_of down size_at
frame_is zero w va = omega arith
frame_is (suc zero) w va = omega arith
frame_is (suc (suc zero)) w va = omega arith
frame_is (suc (suc (suc level))) w va =
    in_pages_lem ∙ ap (λ (size : ℕ). down (address_of w) size + down (va % size) 4096) (sym (size_page (suc (suc (suc level))) (omega arith)))
  where
    in_pages_lem : frame_of (suc (suc (suc level))) w va ≡ down (address_of w) 4096 + down (va % 4096) 4096
    in_pages_lem = omega arith

-- by masks
pub frame_masks : (level w va : ℕ)
    → address_of w - bit_and (address_of w) (size_at level - 1) + (bit_and va (size_at level - 1) - va % 4096) ≡ frame_of level w va
frame_masks level w va =
    ap₂ (λ (x y : ℕ). address_of w - x + (y - va % 4096)) (size-mod level (address_of w)) (size-mod level va)
    ∙ (let a = down_rest (address_of w) (size_at level) in
    let v = down_rest (va % size_at level) 4096 in
    let o = size_offset level va in
    let e : address_of w - address_of w % size_at level + (va % size_at level - va % 4096)
    ≡ down (address_of w) (size_at level) + down (va % size_at level) 4096 =
    omega arith in
    e)
    ∙ sym (frame_is level w va)

-- ---- a word that ends the walk

module _ (level w va : ℕ) where
  pub says_hole : kind_of level w ≡ hole' → says va (at level w) ≡ hole level (flags_in w)
  unfolding says
  says_hole e = go (rw e at (kind_says level w))
    where
      go : Says hole' level w → says va (at level w) ≡ hole level (flags_in w)
      go (inl z) = rw (low_bits w, ne_eqb (w % 4) 3 (λ q. omega arith), ne_eqb (w % 4) 1 (λ q. omega arith))
      go (inr p) = rw (low_bits w, p.0, ne_eqb level 1 p.1, ne_eqb level 2 p.2)

  pub says_block : kind_of level w ≡ block' → says va (at level w) ≡ block level (flags_in w) (frame_of level w va)
  unfolding says
  says_block e = go (rw e at (kind_says level w))
    where
      go : Says block' level w → says va (at level w) ≡ block level (flags_in w) (frame_of level w va)
      go (inl l, q) = rw (low_bits w, q, l)
      go (inr l, q) = rw (low_bits w, q, l)

  pub says_page : w % 4 ≡ 3 → says va (at level w) ≡ page level (flags_in w) (frame_of level w va)
  unfolding says
  says_page q = rw (low_bits w, q)

-- ---- on from table k, by where its word leads

module _ (base n : ℕ) (words : List ℕ) (va k level : ℕ) (here : level ≤ 3) where
  -- a table leads on; a word that is no table ends the walk
  unfoldable pub follow : Sub → Reached
  follow (Table j) = reach_from base n words va (3 - (level + 1)) j
  follow Outside = away
  follow Leaf = at level (fetch words va k level)

  -- above the last level
  reach_open : level < 3 → let w = fetch words va k level in let a = address_of w in
      reach_from base n words va (3 - level) k
      ≡ cond (eqb (w % 4) 3)
      (cond (leb base a && ltb a (base + 4096 * n)) (reach_from base n words va (3 - (level + 1)) ((a - base) / 4096)) away) (at level w)
  unfolding reach_from
  reach_open h =
      let up : 3 - level ≡ suc (3 - (level + 1)) = omega arith in
      let same : 2 - (3 - (level + 1)) ≡ level = omega arith in
      rw (up, same, low_bits, table_address_lem)

  reach_last : level ≡ 3 → reach_from base n words va (3 - level) k ≡ at level (fetch words va k level)
  unfolding reach_from
  reach_last e = rw e

  pub reach-sub : reach_from base n words va (3 - level) k ≡ follow (sub_of base n level (fetch words va k level))
  unfolding follow
  reach-sub = go (eq_or level 3) (eq_or (w % 4) 3) (le_or base a) (le_or n ((a - base) / 4096))
    where
      w : ℕ
      w = fetch words va k level

      a : ℕ
      a = address_of w

      go : (level ≡ 3) ⊎ (level ≢ 3) → (w % 4 ≡ 3) ⊎ (w % 4 ≢ 3) → (base ≤ a) ⊎ (a < base)
          → (n ≤ (a - base) / 4096) ⊎ ((a - base) / 4096 < n)
          → reach_from base n words va (3 - level) k ≡ follow (sub_of base n level w)
      go (inl e) low from to = reach_last e ∙ ap follow (sub_leaf base n level w (λ p. omega (arith, p.0)))
      go (inr m) (inr low) from to =
          reach_open (omega arith) ∙ rw (ne_eqb (w % 4) 3 low) (ap follow (sub_leaf base n level w (λ p. low p.1)))
      go (inr m) (inl low) (inr from) to =
          reach_open (omega arith) ∙ rw (low, lt-leb base a from) (ap follow (sub_low base n level w (omega arith) low from))
      go (inr m) (inl low) (inl from) (inl to) =
          reach_open (omega arith)
          ∙ rw (low, le-leb base a from, le-ltb a (base + 4096 * n) (omega arith))
          (ap follow (sub_high base n level w (omega arith) low from to))
      go (inr m) (inl low) (inl from) (inr to) =
          reach_open (omega arith)
          ∙ rw (low, le-leb base a from, lt-ltb a (base + 4096 * n) (omega arith))
          (ap follow (sub_in base n level w (omega arith) low from to))

  module _ {w : ℕ} (is : w ≡ fetch words va k level) where
    chosen : (x : Sub) → sub_of base n level w ≡ x → reach_from base n words va (3 - level) k ≡ follow x
    chosen x e = reach-sub ∙ ap follow (ap (sub_of base n level) (sym is) ∙ e)

    pub reach-table : (j : ℕ) → sub_of base n level w ≡ Table j
        → reach_from base n words va (3 - level) k ≡ reach_from base n words va (3 - (level + 1)) j
    unfolding follow
    reach-table j e = chosen (Table j) e

    pub reach_outside : sub_of base n level w ≡ Outside → reach_from base n words va (3 - level) k ≡ away
    unfolding follow
    reach_outside e = chosen Outside e

    pub reach_leaf : sub_of base n level w ≡ Leaf → reach_from base n words va (3 - level) k ≡ at level w
    unfolding follow
    reach_leaf e = chosen Leaf e ∙ ap (at level) (sym is)
