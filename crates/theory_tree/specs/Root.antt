-- Calls on a whole tree: the root's table, whose entries have `depth` = 3 - (root level) levels below. The root is the r-th table of its
-- span: 0 in the lower range, the last below 2^64 in the upper.
use Rattle.std.specs.Prelude.{ℕ, zero, suc, ◌-◌, ◌/◌, ◌^◌, ◌≤◌, ◌<◌}
use Rattle.std.proofs.Math.Nat.{div-eq_of_lt}
use Rattle.std.proofs.Common.{arith}
use Rattle.theory_forest.specs.Tree.{Tree}
use Rattle.laws.specs.Size.{span}
use Rattle.theory_tree.specs.Page.{pages_in, span-size, span_suc, In}
use Rattle.theory_tree.specs.Visit.{visit_table, made_table, freed_table}
use Rattle.theory_tree.specs.Rules.{Map, map_rule}

-- the root's number in each range
abbrev pub lower_root : ℕ
lower_root = 0

unfoldable pub upper_root : ℕ → ℕ
upper_root depth = 2 ^ 52 / pages_in (suc depth) - 1

-- the address lies in the root's span
abbrev pub Spans : ℕ → ℕ → ℕ → Type 0
Spans depth r address = In (suc depth) r (address / 4096)

-- a lower root spans 512 entries, the lowest addresses
pub lower-span : (depth address : ℕ) → depth ≤ 3 → address < span (3 - depth) → Spans depth lower_root address
unfolding span
lower-span depth address low h = let s = span-size depth low in let n = span_suc depth in div-eq_of_lt (omega arith)

-- an upper root spans 512 entries, the highest addresses
in_upper : (depth page : ℕ) → depth ≤ 3 → 2 ^ 52 - pages_in (suc depth) ≤ page → page < 2 ^ 52 → In (suc depth) (upper_root depth) page
unfolding upper_root pages_in
in_upper zero page h l u = omega arith
in_upper (suc zero) page h l u = omega arith
in_upper (suc (suc zero)) page h l u = omega arith
in_upper (suc (suc (suc zero))) page h l u = omega arith
in_upper (suc (suc (suc (suc depth)))) page h l u = absurd (omega arith)

pub upper-span : (depth address : ℕ) → depth ≤ 3 → 2 ^ 64 - span (3 - depth) ≤ address → address < 2 ^ 64
    → Spans depth (upper_root depth) address
unfolding span
upper-span depth address low l u =
    let s = span-size depth low in
    let n = span_suc depth in
    in_upper depth (address / 4096) low (omega arith) (omega arith)

module _ (depth r : ℕ) where
  -- the tree after a map, the tables that the map takes, those that it frees
  unfoldable pub map_tree : Map → Tree → Tree
  map_tree m t = visit_table (map_rule m) depth r t

  unfoldable pub map_made : Map → Tree → ℕ
  map_made m t = made_table (map_rule m) depth r t

  unfoldable pub map_freed : Map → Tree → ℕ
  map_freed m t = freed_table (map_rule m) depth r t
