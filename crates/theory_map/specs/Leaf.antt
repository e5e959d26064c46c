-- The leaves of a sound pool are fine words, so its root shows a fine tree; and a fine word with flags from the set may stand where it is
-- fine.
use Rattle.std.specs.Prelude.{◌≡◌, ℕ, ◌+◌, ◌-◌, ◌/◌, ◌%◌, ◌^◌, ◌≤◌, ◌<◌, T}
use Rattle.std.proofs.Common.{ap, subst, ◌∙◌, arith, lit<}
use Rattle.laws.specs.Bit.{SubBits}
use Rattle.laws.specs.Size.{size_at}
use Rattle.entry.specs.Word.{address_of, el1_flags, plain_flags}
use Rattle.pool.specs.State.{St, word_at}
use Rattle.pool.specs.Number.{level_of}
use Rattle.pool.specs.Sound.{flag_set, leafb}
use Rattle.pool.specs.declared.Handle.{Handle}
use Rattle.theory_forest.specs.Tree.{tree_at_node}
use Rattle.theory_forest.specs.Sound.{TableWord}
use Rattle.theory_sound.specs.Clauses.{InUse, level_at, LeafWord, SoundPool}
use Rattle.theory_sound.specs.Codec.{Placed, codec_of, child_of, slot_word, tree_from, root_tree}
use Rattle.theory_sound.proofs.Generic.{leaf_says, pool_sound}
use Rattle.theory_sound.proofs.Hanging.{root_used, root_left}
use Rattle.theory_sound.specs.Step.{Stands, Ready}
use Rattle.theory_sound.specs.Slot.{slot_shows, HoldsLeaf}
use Rattle.theory_tree.specs.Page.{pages_in, entry_rest}
use Rattle.theory_tree.specs.Word.{frame_in, address_frame}
use Rattle.theory_tree.specs.Fine.{Fine, sound_fine}
use Rattle.theory_tree.specs.Shown.{FineTree, FineTable}
use Rattle.theory_tree.specs.Forest.{tree_fine}

-- ---- a leaf of a sound pool is fine

pub set_below : (h : Handle) → flag_set h < 2 ^ 64
unfolding flag_set el1_flags
set_below h = lit< tt

pub leaf_fine : (h : Handle) (level w : ℕ) → level ≤ 3 → LeafWord (flag_set h) level w → Fine (3 - level) w
leaf_fine h level w low leaf =
    sound_fine (flag_set h) level w low (set_below h) leaf.flags
    leaf.clear leaf.aligned leaf.top leaf.page

module _ {h : Handle} (placed : Placed h) {s : St} (P : SoundPool h s) where
  good : (x w : ℕ) → T (leafb (flag_set h) (level_of x) w) → Fine (3 - level_of x) w
  good x w t = leaf_fine h (level_of x) w (omega arith) (leaf_says (flag_set h) (level_of x) w (omega arith) t)

  -- THE TREE OF A USED TABLE IS FINE
  pub table_fine : (depth k : ℕ) → InUse s k → level_at s k + depth ≡ 3 → FineTable depth (tree_from h s depth k)
  table_fine depth k used low = tree_fine {C = codec_of h placed} (pool_sound placed P) good depth k used low

  pub root_fine : FineTable (3 - h.level) (root_tree h s)
  root_fine = table_fine (3 - h.level) 0 (root_used P) (root_left placed P)

module _ {h : Handle} (placed : Placed h) {s : St} {depth k : ℕ} (R : Ready h s depth k) (i : ℕ) (inside : i < 512) where
  -- slot by slot
  pub slot_fine : FineTree depth (slot_shows h s depth k i)
  slot_fine =
      subst (FineTable depth) (tree_at_node (child_of h.base.0) depth (slot_word s) k)
      (table_fine placed R.pool depth k R.used R.low) i inside

  pub holds_fine : HoldsLeaf h s depth k i → Fine depth (word_at s k i)
  holds_fine plain = subst (FineTree depth) plain.shows slot_fine

-- the flags of a leaf are from the set
pub leaf_from : {h : Handle} {s : St} → SoundPool h s → (k i : ℕ) → i < 512 → InUse s k → ¬ (TableWord (level_at s k) (word_at s k i))
    → SubBits (plain_flags (word_at s k i)) (flag_set h)
leaf_from {h} {s} P k i inside used old = (P.leaves k i inside used old).flags

-- ---- a fine word with flags from the set may stand

pub fine_stands : (h : Handle) (depth level v : ℕ) → level + depth ≡ 3 → Fine depth v → SubBits (plain_flags v) (flag_set h)
    → Stands h level v
fine_stands h depth level v low fine flags = record {
  plain = λ table. let c = fine.clear (omega (arith, table.0)) in omega (arith, table.1);
  leaf = record {
    flags = flags;
    clear = λ high. fine.clear (omega arith);
    aligned = λ some high. aligned;
    top = λ z. let t = fine.top (omega arith) in let f = address_frame v in (t.0, omega (arith, t.1));
    page = λ z valid. fine.page (omega arith) valid;
  };
}
  where
    aligned : address_of v % size_at level ≡ 0
    aligned =
        let e : level ≡ 3 - depth = omega arith in
        let f = address_frame v in
        let frame : address_of v / 4096 ≡ frame_in v = omega arith in
        let rest = entry_rest depth (address_of v) (omega arith) (omega arith) in
        let whole : address_of v / 4096 % pages_in depth ≡ 0 = ap (λ (x : ℕ). x % pages_in depth) frame ∙ fine.aligned in
        ap (λ (l : ℕ). address_of v % size_at l) e ∙ (let z : address_of v % size_at (3 - depth) ≡ 0 = omega arith in z)
