-- A match on `Sub` that takes the other arms: what stands there is no table.
use Rattle.std.proofs.Common.{◌≡◌, ◌⊎◌, ℕ, refl, inl, inr}
use Rattle.entry.specs.declared.Sub.{Sub}
use Rattle.entry.specs.declared.Sub.TheVariants.{Table, Outside, Leaf}

pub no_table : (x : Sub) → ((j : ℕ) → x ≡ Table j → ⊥) → (x ≡ Outside) ⊎ (x ≡ Leaf)
no_table (Table j) n = absurd (n j refl)
no_table Outside n = inl refl
no_table Leaf n = inr refl

-- neither a table nor a leaf
pub is_outside : (x : Sub) → ((j : ℕ) → x ≡ Table j → ⊥) → (x ≡ Leaf → ⊥) → x ≡ Outside
is_outside (Table j) n l = absurd (n j refl)
is_outside Outside n l = refl
is_outside Leaf n l = absurd (l refl)
