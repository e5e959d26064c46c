-- Where an entry leads: the table that its word refers to, if its kind is a table and its address is one of the pool's. Leans on `Word`.
use Rattle.std.specs.Prelude.{◌≡◌, ℕ, ◌+◌, ◌-◌, ◌*◌, ◌/◌, ◌%◌, ◌^◌, ◌<◌, ◌≤◌, cond, ◌⊎◌, ◌≢◌, nat_le, nat_lt, refl}
use Rattle.std.proofs.Math.Path.{sym}
use Rattle.std.proofs.Common.{ap, ◌∙◌, inl, inr, arith}
use borrow.Author.Tests.{le-leb, lt-leb, lt-ltb, le-ltb}
use Rattle.laws.specs.Test.{le_or}
use Rattle.entry.specs.declared.Kind.{Kind}
use Rattle.entry.specs.declared.Kind.TheVariants.{Table as table, Block as block, Page as page, Hole as hole}
use Rattle.entry.specs.declared.Sub.{Sub}
use Rattle.entry.specs.declared.Sub.TheVariants.{Table, Outside, Leaf}
use Rattle.entry.specs.Word.{address_of, kind_of, kind_table, Says, kind_says, link_of, link_address, link_low}

-- the address of a table word, in a pool of n tables from base on
unfoldable pub in_pool : ℕ → ℕ → ℕ → Sub
in_pool base n a = cond (nat_le base a) (cond (nat_lt ((a - base) / 4096) n) (Table ((a - base) / 4096)) Outside) Outside

-- only a table leads on
unfoldable pub leads : Kind → Sub → Sub
leads table s = s
leads block s = Leaf
leads page s = Leaf
leads hole s = Leaf

unfoldable pub sub_of : ℕ → ℕ → ℕ → ℕ → Sub
sub_of base n level w = leads (kind_of level w) (in_pool base n (address_of w))

-- ---- laws: one for each way through `subtable`

sub-table : (base n level w : ℕ) → level < 3 → w % 4 ≡ 3 → sub_of base n level w ≡ in_pool base n (address_of w)
unfolding sub_of leads
sub-table base n level w h e = ap (λ (k : Kind). leads k (in_pool base n (address_of w))) (kind_table level w h e)

sub_kind : (base n level w : ℕ) (k : Kind) → kind_of level w ≡ k → sub_of base n level w ≡ leads k (in_pool base n (address_of w))
unfolding sub_of
sub_kind base n level w k e = ap (λ (k : Kind). leads k (in_pool base n (address_of w))) e

-- a word that is no table leads nowhere
pub sub_leaf : (base n level w : ℕ) → ¬ ((level < 3) × (w % 4 ≡ 3)) → Leaf ≡ sub_of base n level w
unfolding leads
sub_leaf base n level w other = sym (go (kind_of level w) refl (kind_says level w))
  where
    go : (k : Kind) → kind_of level w ≡ k → Says k level w → sub_of base n level w ≡ Leaf
    go table e s = absurd (other s)
    go block e s = sub_kind base n level w block e
    go page e s = sub_kind base n level w page e
    go hole e s = sub_kind base n level w hole e

module _ (base n level w : ℕ) (h : level < 3) (e : w % 4 ≡ 3) where
  pub sub_low : address_of w < base → Outside ≡ sub_of base n level w
  unfolding in_pool
  sub_low l = sym (sub-table base n level w h e ∙ rw (lt-leb base (address_of w) l))

  pub sub_high : base ≤ address_of w → n ≤ (address_of w - base) / 4096 → Outside ≡ sub_of base n level w
  unfolding in_pool
  sub_high l m = sym (sub-table base n level w h e ∙ rw (le-leb base (address_of w) l, le-ltb ((address_of w - base) / 4096) n m))

  pub sub_in : base ≤ address_of w → (address_of w - base) / 4096 < n → Table ((address_of w - base) / 4096) ≡ sub_of base n level w
  unfolding in_pool
  sub_in l m = sym (sub-table base n level w h e ∙ rw (le-leb base (address_of w) l, lt-ltb ((address_of w - base) / 4096) n m))

-- ---- what a table found says

in_pool_lem : (base n a k : ℕ) → in_pool base n a ≡ Table k → (k < n) × (base ≤ a) × ((a - base) / 4096 ≡ k)
unfolding in_pool
in_pool_lem base n a k e = go (le_or base a) (le_or n ((a - base) / 4096))
  where
    go : (base ≤ a) ⊎ (a < base) → (n ≤ (a - base) / 4096) ⊎ ((a - base) / 4096 < n) → (k < n) × (base ≤ a) × ((a - base) / 4096 ≡ k)
    go (inl l) (inr m) =
        let same : ◌≡◌ {A = Sub} (Table ((a - base) / 4096)) (Table k) = rw (le-leb base a l, lt-ltb ((a - base) / 4096) n m) at e in
        let is : (a - base) / 4096 ≡ k = cc in
        (omega arith, l, is)
    go (inl l) (inl m) =
        absurd
        (let same : ◌≡◌ {A = Sub} Outside (Table k) = rw (le-leb base a l, le-ltb ((a - base) / 4096) n m) at e in
        let z : ◌≡◌ {A = ℕ} 0 1 = cc in omega arith)
    go (inr l) m =
        absurd (let same : ◌≡◌ {A = Sub} Outside (Table k) = rw (lt-leb base a l) at e in let z : ◌≡◌ {A = ℕ} 0 1 = cc in omega arith)

pub record Found (base n level w k : ℕ) : Type 0 where
  pub high : level < 3
  pub low : w % 4 ≡ 3
  pub below : k < n
  pub from : base ≤ address_of w
  pub place : (address_of w - base) / 4096 ≡ k

pub sub_found : (base n level w k : ℕ) → sub_of base n level w ≡ Table k → Found base n level w k
unfolding leads
sub_found base n level w k e = go (kind_of level w) refl (kind_says level w)
  where
    never : {x : Sub} → sub_of base n level w ≡ x → x ≢ Leaf
    never q o = let z : ◌≡◌ {A = ℕ} 0 1 = cc (e, q, o) in omega arith

    go : (q : Kind) → kind_of level w ≡ q → Says q level w → Found base n level w k
    go table q s =
        let p = in_pool_lem base n (address_of w) k (sym (sub_kind base n level w table q) ∙ e) in
        record { high = s.0; low = s.1; below = p.0; from = p.1; place = p.2 }
    go block q s = absurd (never (sub_kind base n level w block q) refl)
    go page q s = absurd (never (sub_kind base n level w page q) refl)
    go hole q s = absurd (never (sub_kind base n level w hole q) refl)

pub sub-below : (base n level w k : ℕ) → sub_of base n level w ≡ Table k → k < n
sub-below base n level w k e = (sub_found base n level w k e).below

-- the link of a table of the pool leads to it
pub sub_link : (base n k level : ℕ) → level < 3 → base % 4096 ≡ 0 → base + 4096 * n ≤ 2 ^ 48 → k < n
    → sub_of base n level (link_of base k) ≡ Table k
unfolding link_of
sub_link base n k level h pages below l =
    let a = link_address base k pages (omega arith) in
    let place : (address_of (link_of base k) - base) / 4096 ≡ k = omega arith in
    sym (sub_in base n level (link_of base k) h (link_low base k pages (omega arith)) (omega arith) (omega arith)) ∙ ap Table place

-- a table word never leads nowhere
pub sub_some : (base n level w : ℕ) → level < 3 → w % 4 ≡ 3 → sub_of base n level w ≢ Leaf
sub_some base n level w h e q = go (le_or base (address_of w)) (le_or n ((address_of w - base) / 4096))
  where
    never : {x : Sub} → x ≡ sub_of base n level w → (x ≢ Leaf) → ⊥
    never p r = r (p ∙ q)

    go : (base ≤ address_of w) ⊎ (address_of w < base) → (n ≤ (address_of w - base) / 4096) ⊎ ((address_of w - base) / 4096 < n) → ⊥
    go (inr l) m = never (sub_low base n level w h e l) (λ r. let z : ◌≡◌ {A = ℕ} 0 1 = cc in omega arith)
    go (inl l) (inl m) = never (sub_high base n level w h e l m) (λ r. let z : ◌≡◌ {A = ℕ} 0 1 = cc in omega arith)
    go (inl l) (inr m) = never (sub_in base n level w h e l m) (λ r. let z : ◌≡◌ {A = ℕ} 0 1 = cc in omega arith)
