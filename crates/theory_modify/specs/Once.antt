-- No number is listed twice: each chunk lists its own page's number or those of the chunks below it, chunks share no page, and a region has
-- fewer than 2^44 pages.
use Rattle.std.specs.Prelude.{◌≡◌, refl}
use mathlib.Core.List.{List, [], ◌∷◌, ◌++◌}
use Prim.Native.Nat.{ℕ, ◌+◌, ◌-◌, ◌/◌, ◌^◌, ◌≤◌}
use native.Mathlib.Omega.{arith}
use Rattle.address_slot.specs.Slot.{entry_index}
use Rattle.region.specs.declared.MemoryRegion.{MemoryRegion}
use Rattle.theory_forest.specs.Tree.{Tree}
use Rattle.theory_tree.specs.Needed.{slot_tree}
use Rattle.theory_modify.specs.Numbers.{gathered, occurs}

pub occurs-append : (x : ℕ) (xs ys : List ℕ) → occurs x (xs ++ ys) ≡ occurs x xs + occurs x ys
unfolding occurs
occurs-append x [] ys = omega arith
occurs-append x (y ∷ xs) ys = let r = occurs-append x xs ys in omega arith

pub occurs_both : (x depth : ℕ) (f g : MemoryRegion → Tree → List ℕ) (cs : List MemoryRegion) (t : Tree)
    → occurs x (gathered depth (λ c u. f c u ++ g c u) cs t) ≡ occurs x (gathered depth f cs t) + occurs x (gathered depth g cs t)
unfolding gathered occurs
occurs_both x depth f g [] t = refl
occurs_both x depth f g (c ∷ cs) t =
    let u : Tree = slot_tree t (entry_index (3 - depth) c.start.0) in
    let a = occurs-append x (f c u ++ g c u) (gathered depth (λ d v. f d v ++ g d v) cs t) in
    let b = occurs-append x (f c u) (g c u) in
    let y = occurs-append x (f c u) (gathered depth f cs t) in
    let z = occurs-append x (g c u) (gathered depth g cs t) in
    omega (arith, occurs_both x depth f g cs t)

-- the pages below z whose number is x
abbrev pub pages_below : ℕ → ℕ → ℕ
pages_below x z = (z + (2 ^ 44 - 1 - x)) / 2 ^ 44

-- n numbers x, no more than the pages of the region with the number x
abbrev pub Few : ℕ → MemoryRegion → ℕ → Type 0
Few x c n = n + pages_below x (c.start.0 / 4096) ≤ pages_below x (c.end.0 / 4096)
