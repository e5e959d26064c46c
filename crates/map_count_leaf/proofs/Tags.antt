-- A match on `Rule` that takes the other arms: what stands there makes no table.
use Rattle.std.specs.Prelude.{◌≡◌}
use Rattle.std.proofs.Common.{refl}
use Rattle.map_rules.specs.declared.Rule.{Rule}
use Rattle.map_rules.specs.declared.Rule.TheVariants.{Write, Keep, Drop, Down}
use Rattle.map_count_spec.specs.Ends.{Other, other_write, other_keep, other_drop}

pub no_down : (r : Rule) → (r ≡ Down → ⊥) → Other r
no_down (Write x) n = other_write x refl
no_down Keep n = other_keep refl
no_down (Drop x) n = other_drop x refl
no_down Down n = absurd (n refl)
