-- A match on `Sub` or `Kind` that takes the last arm: what stands there.
use mathlib.Core.Path.{◌≡◌, refl}
use Prim.Native.Nat.{ℕ, ◌%◌}
use Rattle.entry.specs.Word.{kind_of, kind_says}
use Rattle.entry.specs.declared.Kind.{Kind}
use Rattle.entry.specs.declared.Kind.TheVariants.{Table as table, Block, Page, Hole}
use Rattle.entry.specs.declared.Sub.{Sub}
use Rattle.entry.specs.declared.Sub.TheVariants.{Table, Outside, Leaf}

-- no table, and not outside
pub is_leaf : (x : Sub) → ((j : ℕ) → x ≡ Table j → ⊥) → (x ≡ Outside → ⊥) → x ≡ Leaf
is_leaf (Table j) t o = absurd (t j refl)
is_leaf Outside t o = absurd (o refl)
is_leaf Leaf t o = refl

-- neither a hole nor a block: both low bits are set
pub both_set : (x : Kind) (level w : ℕ) → x ≡ kind_of level w → (x ≡ Hole → ⊥) → (x ≡ Block → ⊥) → w % 4 ≡ 3
both_set table level w e h b = (rw (← e) at (kind_says level w)).1
both_set Page level w e h b = (rw (← e) at (kind_says level w)).1
both_set Block level w e h b = absurd (b refl)
both_set Hole level w e h b = absurd (h refl)
