-- "Lowest number first": what it means that an answer is told by a slip, whatever the call.
use Rattle.std.specs.Prelude.{◌≡◌, ◌⊎◌, ◌≢◌, ◌↔◌, ℕ, zero, suc, ◌≤◌, ◌<◌}
use Rattle.std.proofs.Common.{sym, subst, ◌∙◌, inl, inr, arith}
use Rattle.laws.specs.Test.{eq_or, le_or}
use Rattle.address.specs.declared.VirtualAddress.{VirtualAddress}
use Rattle.address.specs.declared.PhysicalAddress.{PhysicalAddress}
use Rattle.region.specs.declared.MemoryRegion.{MemoryRegion}
use Rattle.pool.specs.Refuse.{number}
use Rattle.pool.specs.declared.Refusal.{Refusal}
use Rattle.pool.specs.declared.Refusal.TheVariants.{Shape, End, InvalidFlags, FlagSet, RegionBackwards, AddressRange, Frame, Unsound}
use Rattle.pool.specs.declared.Refusal.TheVariants.{WantOfRoom, HouseRule, Short}

-- nothing below n is on the slip
abbrev pub NoneBelow : (Refusal → Type 0) → ℕ → Type 0
NoneBelow Slip n = (q : Refusal) → number q < n → ¬ (Slip q)

-- r is on the slip, and nothing of a lower number is
pub record LowestGiven (Slip : Refusal → Type 0) (r : Refusal) : Type 0 where
  pub given : Slip r
  pub lower : NoneBelow Slip (number r)

-- an answer is refused by the lowest, or nothing is on the slip and it is no refusal
abbrev pub Told : {A : Type 0} → (Refusal → Type 0) → (Refusal → A) → A → Type 0
Told Slip refused answer =
    ((r : Refusal) × (answer ≡ refused r) × LowestGiven Slip r) ⊎ (((q : Refusal) → ¬ (Slip q)) × ((r : Refusal) → answer ≢ refused r))

module _ {A : Type 0} {Slip : Refusal → Type 0} {refused : Refusal → A} {answer : A} (told : Told Slip refused answer) where
  -- A REFUSAL IS GIVEN EXACTLY WHEN IT IS THE LOWEST ON THE SLIP
  pub exactly : ((r q : Refusal) → refused r ≡ refused q → r ≡ q) → (n : ℕ)
      → ((r : Refusal) × (answer ≡ refused r) × (number r ≡ n)) ↔ ((r : Refusal) × LowestGiven Slip r × (number r ≡ n))
  exactly same n = (there told, back told)
    where
      there : Told Slip refused answer → ((r : Refusal) × (answer ≡ refused r) × (number r ≡ n))
          → ((r : Refusal) × LowestGiven Slip r × (number r ≡ n))
      there (inl t) x = (t.0, t.2, rw (same t.0 x.0 (sym t.1 ∙ x.1)) x.2)
      there (inr t) x = absurd (t.1 x.0 x.1)

      equal : (r q : Refusal) → LowestGiven Slip r → LowestGiven Slip q → (number r ≤ number q) ⊎ (number q < number r)
          → (number q ≤ number r) ⊎ (number r < number q)
          → number r ≡ number q
      equal r q l m (inl a) (inl b) = omega arith
      equal r q l m (inl a) (inr b) = absurd (m.lower r b l.given)
      equal r q l m (inr a) y = absurd (l.lower q a m.given)

      back : Told Slip refused answer → ((r : Refusal) × LowestGiven Slip r × (number r ≡ n))
          → ((r : Refusal) × (answer ≡ refused r) × (number r ≡ n))
      back (inl t) x = (
        t.0,
        t.1,
        equal t.0 x.0 t.2 x.1 (le_or (number t.0) (number x.0)) (le_or (number x.0) (number t.0))
            ∙ x.2,
      )
      back (inr t) x = absurd (t.0 x.0 x.1.given)

-- nothing below n is on the slip, line by line
module _ (Slip : Refusal → Type 0) (n : ℕ)
    (one : 1 < n → ¬ (Slip Shape)) (two : 2 < n → (e : ℕ) → ¬ (Slip (End e))) (three : 3 < n → (f : ℕ) → ¬ (Slip (InvalidFlags f)))
    (four : 4 < n → (f : ℕ) → ¬ (Slip (FlagSet f))) (five : 5 < n → (r : MemoryRegion) → ¬ (Slip (RegionBackwards r)))
    (six : 6 < n → (a : VirtualAddress) → ¬ (Slip (AddressRange a))) (seven : 7 < n → (f : PhysicalAddress) → ¬ (Slip (Frame f)))
    (eight : 8 < n → ¬ (Slip Unsound)) (nine : 9 < n → (k f : ℕ) → ¬ (Slip (WantOfRoom k f)))
    (ten : 10 < n → (w : ℕ) → ¬ (Slip (HouseRule w)))
    (eleven : 11 < n → (k : ℕ) → ¬ (Slip (Short k))) where
  pub none_below : NoneBelow Slip n
  none_below Shape l = one l
  none_below (End e) l = two l e
  none_below (InvalidFlags f) l = three l f
  none_below (FlagSet f) l = four l f
  none_below (RegionBackwards r) l = five l r
  none_below (AddressRange a) l = six l a
  none_below (Frame f) l = seven l f
  none_below Unsound l = eight l
  none_below (WantOfRoom k f) l = nine l k f
  none_below (HouseRule w) l = ten l w
  none_below (Short k) l = eleven l k

-- the slip's numbers run from 1 to 11
pub number_range : (q : Refusal) → (0 < number q) × (number q < 12)
number_range Shape = (omega arith, omega arith)
number_range (End e) = (omega arith, omega arith)
number_range (InvalidFlags f) = (omega arith, omega arith)
number_range (FlagSet f) = (omega arith, omega arith)
number_range (RegionBackwards r) = (omega arith, omega arith)
number_range (AddressRange a) = (omega arith, omega arith)
number_range (Frame f) = (omega arith, omega arith)
number_range Unsound = (omega arith, omega arith)
number_range (WantOfRoom k f) = (omega arith, omega arith)
number_range (HouseRule w) = (omega arith, omega arith)
number_range (Short k) = (omega arith, omega arith)

-- a refusal 1 that is on the slip is the lowest
pub shape_lowest : (Slip : Refusal → Type 0) → Slip Shape → LowestGiven Slip Shape
shape_lowest Slip g = record { given = g; lower = λ q l s. let z = (number_range q).0 in omega arith }

-- ---- a slip read from its lowest number up

-- no line of the number n is on the slip
abbrev NoLine : (Refusal → Type 0) → ℕ → Type 0
NoLine Slip zero = Unit {0}
NoLine Slip (suc zero) = ¬ (Slip Shape)
NoLine Slip (suc (suc zero)) = (e : ℕ) → ¬ (Slip (End e))
NoLine Slip (suc (suc (suc zero))) = (f : ℕ) → ¬ (Slip (InvalidFlags f))
NoLine Slip (suc (suc (suc (suc zero)))) = (f : ℕ) → ¬ (Slip (FlagSet f))
NoLine Slip (suc (suc (suc (suc (suc zero))))) = (r : MemoryRegion) → ¬ (Slip (RegionBackwards r))
NoLine Slip (suc (suc (suc (suc (suc (suc zero)))))) = (a : VirtualAddress) → ¬ (Slip (AddressRange a))
NoLine Slip (suc (suc (suc (suc (suc (suc (suc zero))))))) = (f : PhysicalAddress) → ¬ (Slip (Frame f))
NoLine Slip (suc (suc (suc (suc (suc (suc (suc (suc zero)))))))) = ¬ (Slip Unsound)
NoLine Slip (suc (suc (suc (suc (suc (suc (suc (suc (suc zero))))))))) = (k f : ℕ) → ¬ (Slip (WantOfRoom k f))
NoLine Slip (suc (suc (suc (suc (suc (suc (suc (suc (suc (suc zero)))))))))) = (w : ℕ) → ¬ (Slip (HouseRule w))
NoLine Slip (suc (suc (suc (suc (suc (suc (suc (suc (suc (suc (suc n))))))))))) = (k : ℕ) → ¬ (Slip (Short k))

module _ (Slip : Refusal → Type 0) where
  line_none : (q : Refusal) → NoLine Slip (number q) → ¬ (Slip q)
  line_none Shape off = off
  line_none (End e) off = off e
  line_none (InvalidFlags f) off = off f
  line_none (FlagSet f) off = off f
  line_none (RegionBackwards r) off = off r
  line_none (AddressRange a) off = off a
  line_none (Frame f) off = off f
  line_none Unsound off = off
  line_none (WantOfRoom k f) off = off k f
  line_none (HouseRule w) off = off w
  line_none (Short k) off = off k

  -- nothing below 1 is on a slip
  pub none_first : NoneBelow Slip 1
  none_first q l = let z = (number_range q).0 in absurd (omega arith)

  -- one number more
  pub none_next : (n : ℕ) → NoneBelow Slip n → NoLine Slip n → NoneBelow Slip (suc n)
  none_next n below off q l = go (eq_or (number q) n)
    where
      go : (number q ≡ n) ⊎ (number q ≢ n) → ¬ (Slip q)
      go (inl e) = line_none q (subst (NoLine Slip) (sym e) off)
      go (inr other) = below q (omega arith)
