-- A rule that looks at an entry's own part of the region alone: two calls that agree on an entry do the same to it. Map and modify have
-- such rules.
use Rattle.std.specs.Prelude.{◌≡◌, false}
use Rattle.std.proofs.Common.{arith, le-ltb}
use Rattle.std.proofs.Math.Path.{ap₂}
use Prim.Native.Nat.{ℕ, suc, ◌+◌, ◌≤◌, ◌<◌, min, max}
use Rattle.std.proofs.Math.Dec.{ltb}
use Rattle.theory_forest.specs.Tree.{Tree}
use Rattle.theory_tree.specs.Page.{pages_in, first, child, child_in}
use Rattle.theory_tree.specs.Visit.{Rule, keep}
use Rattle.theory_tree.specs.Rules.{Map, meets}

-- two calls agree on an entry: the same part of it, the same frames there, flags and blocks
pub record Agree (depth b : ℕ) (m n : Map) : Type 0 where
  pub starts : max m.from b ≡ max n.from b
  pub stops : min m.upto (b + pages_in depth) ≡ min n.upto (b + pages_in depth)
  pub frames : m.frame + n.from ≡ n.frame + m.from
  pub same_flags : m.flags ≡ n.flags
  pub same_blocks : m.blocks ≡ n.blocks

pub record Local (rule : Map → ℕ → ℕ → Tree → Rule) : Type 0 where
  pub off : (m : Map) (depth b : ℕ) (t : Tree) → meets depth b m ≡ false → rule m depth b t ≡ keep
  pub agree : (m n : Map) (depth b : ℕ) (t : Tree) → Agree depth b m n → rule m depth b t ≡ rule n depth b t

pub meets_no : (depth b : ℕ) (m : Map) → min m.upto (b + pages_in depth) ≤ max m.from b → meets depth b m ≡ false
unfolding meets
meets_no depth b m h = le-ltb (max m.from b) (min m.upto (b + pages_in depth)) h

-- maps that agree on an entry agree on the entries below it
pub agree_child : (depth q i : ℕ) (m n : Map) → i < 512 → Agree (suc depth) (first (suc depth) q) m n
    → Agree depth (first depth (child q i)) m n
agree_child depth q i m n l a =
    let c = child_in depth q i l in
    record {
      starts = omega (arith, a.starts);
      stops = omega (arith, a.stops);
      frames = a.frames;
      same_flags = a.same_flags;
      same_blocks = a.same_blocks;
    }

-- ---- the rules of a map are such

module _ (depth b : ℕ) (m n : Map) (a : Agree depth b m n) where
  pub agree_meets : meets depth b m ≡ meets depth b n
  unfolding meets
  agree_meets = ap₂ ltb a.starts a.stops
