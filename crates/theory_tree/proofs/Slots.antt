-- Theorems about the definitions of specs/Slots.
use Rattle.std.specs.Prelude.{◌≡◌, refl, ℕ, ◌≤◌, ◌<◌}
use Rattle.std.proofs.Common.{lt-ltb, le-ltb}
use Rattle.theory_forest.specs.Tree.{leaf, node}
use Rattle.theory_tree.specs.Word.{fill_word}
use Rattle.theory_tree.specs.Visit.{fill_tree}
use Rattle.theory_tree.specs.Slots.{fill_slot}

pub fill_node : (depth w : ℕ) → fill_tree depth w ≡ node (fill_slot depth w)
unfolding fill_tree fill_slot
fill_node depth w = refl

pub fill_slot_lem : (depth w i : ℕ) → i < 512 → fill_slot depth w i ≡ leaf (fill_word depth w i)
unfolding fill_slot
fill_slot_lem depth w i l = rw (lt-ltb i 512 l)

pub fill_past : (depth w i : ℕ) → 512 ≤ i → fill_slot depth w i ≡ leaf 0
unfolding fill_slot
fill_past depth w i l = rw (le-ltb i 512 l)
