-- Laws of the Arm walk: it ends within the levels; all addresses of the entry that it ends in reach that entry, with frames that differ as
-- their pages do; an address's page decides its answer. Leans on `Arm`, `Walk`.
use Rattle.std.proofs.Math.Path.{◌≡◌, refl, sym, ap}
use Rattle.std.proofs.Common.{◌∙◌, inl, inr, pow-add}
use Rattle.std.specs.Prelude.{Bool, true, false, cond, ◌&&◌, List, ◌⊎◌, ◌≢◌, eqb, leb, get_or}
use Prim.Native.Nat.{ℕ, zero, suc, ◌+◌, ◌*◌, ◌-◌, ◌/◌, ◌%◌, ◌^◌, ◌≤◌, ◌<◌}
use Rattle.std.proofs.Math.Nat.{div-div-eq-div-mul}
use native.Mathlib.Omega.{arith}
use Rattle.std.proofs.Math.Dec.{ltb}
use Rattle.laws.specs.Size.{size_at, size_offset, down, down_rest}
use Rattle.laws.specs.Test.{eqb_cases}
use Rattle.entry.specs.Word.{kind_of, Says, kind_says}
use Rattle.entry.specs.declared.Kind.{Kind}
use Rattle.entry.specs.declared.Kind.TheVariants.{Table as table', Block as block', Page as page', Hole as hole'}
use Rattle.arm.specs.Arm.{bits, low_bit, table_address, frame_of, Reached, at, away, fetch, reach_from, reach, Walked, hole, block, page}
use Rattle.arm.specs.Arm.{outside, says, walk}
use Rattle.arm.specs.Walk.{index_is, low_bits, frame_is, says_hole, says_block, says_page}

-- ---- within the levels

-- where the lookups end: between the level that they start from and level 3, and above level 3 at no Table descriptor
pub record Ended (from level w : ℕ) : Type 0 where
  pub below : from ≤ level
  pub above : level ≤ 3
  pub leaf : bits 1 0 w ≡ 3 → level ≡ 3

module _ (base n : ℕ) (words : List ℕ) (va : ℕ) where
  pub reach_ended : (depth k : ℕ) {level w : ℕ} → depth ≤ 3 → reach_from base n words va depth k ≡ at level w → Ended (3 - depth) level w
  unfolding reach_from
  reach_ended zero k {level} h e = let q : 3 ≡ level = cc in record { below = omega arith; above = omega arith; leaf = λ z. omega arith }
  reach_ended (suc depth) k {level} {w} h e =
      go (eqb_cases (bits 1 0 x) 3) (leb base (table_address x) && ltb (table_address x) (base + 4096 * n))
      (reach_ended depth ((table_address x - base) / 4096) (omega arith)) e
    where
      x : ℕ
      x = fetch words va k (2 - depth)

      next : Reached
      next = reach_from base n words va depth ((table_address x - base) / 4096)

      -- the test's value is put in before the case is taken
      ends : (b c : Bool) → (next ≡ at level w → Ended (3 - depth) level w) → (b ≡ false → bits 1 0 x ≢ 3)
          → cond b (cond c next away) (at (2 - depth) x) ≡ at level w
          → Ended (3 - suc depth) level w
      ends true true ih low q = let r = ih q in record { below = omega (arith, r.below); above = r.above; leaf = r.leaf }
      ends true false ih low q = absurd (let z : ◌≡◌ {A = ℕ} 0 1 = cc in omega arith)
      ends false c ih low q =
          let l : 2 - depth ≡ level = cc in
          let o : x ≡ w = cc in
          record { below = omega arith; above = omega arith; leaf = λ z. absurd (low refl (ap (bits 1 0) o ∙ z)) }

      go : ((bits 1 0 x ≡ 3) × (eqb (bits 1 0 x) 3 ≡ true)) ⊎ ((bits 1 0 x ≢ 3) × (eqb (bits 1 0 x) 3 ≡ false))
          → (c : Bool) → (next ≡ at level w → Ended (3 - depth) level w)
          → cond (eqb (bits 1 0 x) 3) (cond c next away) (at (2 - depth) x) ≡ at level w
          → Ended (3 - suc depth) level w
      go (inl t) c ih q =
          ends true c ih (λ f. absurd (let z : ◌≡◌ {A = Bool} true false = f in let y : ◌≡◌ {A = ℕ} 0 1 = cc in omega arith))
          (rw t.1 at q)
      go (inr t) c ih q = ends false c ih (λ f. t.0) (rw t.1 at q)

  -- level 3 leads nowhere
  reach_away : (depth k : ℕ) → reach_from base n words va depth k ≡ away → 0 < depth
  unfolding reach_from
  reach_away zero k e = absurd (let z : ◌≡◌ {A = ℕ} 0 1 = cc in omega arith)
  reach_away (suc depth) k e = omega arith

-- a walk's answer: a hole between the root's level and 3, a block at levels 1 and 2, a page at level 3
abbrev pub Within : ℕ → Walked → Type 0
Within root (hole level flags) = (root ≤ level) × (level ≤ 3)
Within root (block level flags frame) = (root ≤ level) × (1 ≤ level) × (level ≤ 2)
Within root (page level flags frame) = (root ≤ level) × (level ≡ 3)
Within root outside = root < 3

says_within : (root va level w : ℕ) → Ended root level w → Within root (says va (at level w))
says_within root va level w d = go (kind_of level w) refl (kind_says level w)
  where
    go : (q : Kind) → kind_of level w ≡ q → Says q level w → Within root (says va (at level w))
    go hole' e s = rw (says_hole level w va e) (d.below, d.above)
    go block' e (inl s, low) = rw (says_block level w va e) (d.below, omega arith, omega arith)
    go block' e (inr s, low) = rw (says_block level w va e) (d.below, omega arith, omega arith)
    go page' e s = rw (says_page level w va s.1) (d.below, d.leaf (low_bits w ∙ s.1))
    go table' e s = absurd (omega (arith, d.leaf (low_bits w ∙ s.1), s.0))

-- ---- one entry

larger : (above level : ℕ) → above ≤ level → level ≤ 3 → size_at above ≡ size_at level * 2 ^ (9 * (level - above))
unfolding size_at
larger above level h l =
    let p : 12 + 9 * (3 - above) ≡ 12 + 9 * (3 - level) + 9 * (level - above) = omega arith in
    ap (λ (k : ℕ). 2 ^ k) p ∙ pow-add 2 (12 + 9 * (3 - level)) (9 * (level - above))

-- the addresses of one entry lie in one entry of each level above
pub same_above : (va vb above level : ℕ) → above ≤ level → level ≤ 3 → va / size_at level ≡ vb / size_at level
    → va / size_at above ≡ vb / size_at above
same_above va vb above level h l e =
    let entries = 2 ^ (9 * (level - above)) in
    ap (λ (s : ℕ). va / s) (larger above level h l) ∙ sym (div-div-eq-div-mul va (size_at level) entries) ∙ ap (λ (q : ℕ). q / entries) e
    ∙ div-div-eq-div-mul vb (size_at level) entries ∙ ap (λ (s : ℕ). vb / s) (sym (larger above level h l))

pub same-fetch : (words : List ℕ) (va vb above k level : ℕ) → above ≤ level → level ≤ 3 → va / size_at level ≡ vb / size_at level
    → fetch words va k above ≡ fetch words vb k above
unfolding fetch
same-fetch words va vb above k level h l e =
    ap (λ (i : ℕ). get_or words (512 * k + i) 0)
    (index_is above va ∙ ap (λ (q : ℕ). q % 512) (same_above va vb above level h l e) ∙ sym (index_is above vb))

-- what one address of an entry reaches, each does
module _ (base n : ℕ) (words : List ℕ) (va vb : ℕ) where
  pub reach-same : (depth k : ℕ) {level w : ℕ} → depth ≤ 3 → va / size_at level ≡ vb / size_at level
      → reach_from base n words va depth k ≡ at level w
      → reach_from base n words vb depth k ≡ at level w
  unfolding reach_from
  reach-same zero k {level} {w} h e q =
      let l : 3 ≡ level = cc in
      ap (at 3) (sym (same-fetch words va vb 3 k level (omega arith) (omega arith) e)) ∙ q
  reach-same (suc depth) k {level} {w} h e q =
      let d = reach_ended base n words va (suc depth) k h q in
      let same = same-fetch words va vb (2 - depth) k level (omega (arith, d.below)) d.above e in
      sym (ap on same)
      ∙ go (eqb (bits 1 0 x) 3) (leb base (table_address x) && ltb (table_address x) (base + 4096 * n))
      (reach-same depth ((table_address x - base) / 4096) (omega arith) e) q
    where
      x : ℕ
      x = fetch words va k (2 - depth)

      on : ℕ → Reached
      on y =
          cond (eqb (bits 1 0 y) 3)
          (cond (leb base (table_address y) && ltb (table_address y) (base + 4096 * n))
          (reach_from base n words vb depth ((table_address y - base) / 4096)) away)
          (at (2 - depth) y)

      go : (b c : Bool)
          → (reach_from base n words va depth ((table_address x - base) / 4096) ≡ at level w
          → reach_from base n words vb depth ((table_address x - base) / 4096) ≡ at level w)
          → cond b (cond c (reach_from base n words va depth ((table_address x - base) / 4096)) away) (at (2 - depth) x) ≡ at level w
          → cond b (cond c (reach_from base n words vb depth ((table_address x - base) / 4096)) away) (at (2 - depth) x) ≡ at level w
      go true true ih r = ih r
      go true false ih r = r
      go false c ih r = r

-- the pages of an address: down to its page is down to its entry, and the page's offset there
page_place : (level va : ℕ) → down va 4096 ≡ down va (size_at level) + down (va % size_at level) 4096
page_place level va =
    let o = size_offset level va in
    let a = down_rest va 4096 in
    let b = down_rest va (size_at level) in
    let c = down_rest (va % size_at level) 4096 in
    omega arith

-- frames differ as the pages do
pub frame_moves : (level w va vb : ℕ) → va / size_at level ≡ vb / size_at level
    → frame_of level w va + down vb 4096 ≡ frame_of level w vb + down va 4096
unfolding down
frame_moves level w va vb e =
    let a = frame_is level w va in
    let b = frame_is level w vb in
    let p = page_place level va in
    let q = page_place level vb in
    let r = ap (λ (x : ℕ). x * size_at level) e in
    omega arith

-- ---- one page

same_frame : (level w va vb : ℕ) → va / 4096 ≡ vb / 4096 → frame_of level w va ≡ frame_of level w vb
unfolding frame_of bits
same_frame level w va vb e =
    ap (λ (q : ℕ). w / 2 ^ low_bit level % 2 ^ (48 - low_bit level) * 2 ^ low_bit level + q % 2 ^ (suc (low_bit level - 1) - 12) * 2 ^ 12) e

-- an entry says the same of all addresses of a page
says_same : (va vb : ℕ) (r : Reached) → va / 4096 ≡ vb / 4096 → says va r ≡ says vb r
unfolding says
says_same va vb (at level w) e = rw (same_frame level w va vb e)
says_same va vb away e = refl

module _ (base n : ℕ) (words : List ℕ) (root : ℕ) where
  -- the walk ends within the levels
  pub walk_within : root ≤ 3 → (va : ℕ) → Within root (walk base n words va root)
  unfolding walk reach says
  walk_within h va = go (reach_from base n words va (3 - root) 0) refl
    where
      go : (r : Reached) → reach_from base n words va (3 - root) 0 ≡ r → Within root (says va r)
      go (at level w) e =
          let d = reach_ended base n words va (3 - root) 0 (omega arith) e in
          says_within root va level w (record { below = omega (arith, d.below); above = d.above; leaf = d.leaf })
      go away e = let h = reach_away base n words va (3 - root) 0 e in let below : root < 3 = omega arith in below

  -- two addresses of one page get the same answer, with the same frame
  pub walk_page : (va vb : ℕ) → va / 4096 ≡ vb / 4096 → walk base n words va root ≡ walk base n words vb root
  unfolding walk reach size_at
  walk_page va vb e = says_same va vb (reach_from base n words va (3 - root) 0) e ∙ ap (says vb) (same _ _ refl refl)
    where
      in_entry : (x y level : ℕ) → level ≤ 3 → x / 4096 ≡ y / 4096 → x / size_at level ≡ y / size_at level
      in_entry x y level h q = same_above x y level 3 h (omega arith) q

      carries : (x y : ℕ) {level w : ℕ} → x / 4096 ≡ y / 4096 → reach_from base n words x (3 - root) 0 ≡ at level w
          → reach_from base n words y (3 - root) 0 ≡ at level w
      carries x y {level} q r =
          reach-same base n words x y (3 - root) 0 (omega arith)
          (in_entry x y level (reach_ended base n words x (3 - root) 0 (omega arith) r).above q) r

      same : (r t : Reached) → reach_from base n words va (3 - root) 0 ≡ r → reach_from base n words vb (3 - root) 0 ≡ t
          → reach_from base n words va (3 - root) 0 ≡ reach_from base n words vb (3 - root) 0
      same (at level w) t p q = p ∙ sym (carries va vb e p)
      same away (at level w) p q = carries vb va (sym e) q ∙ sym q
      same away away p q = p ∙ sym q
