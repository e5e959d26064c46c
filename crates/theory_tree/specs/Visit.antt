-- A visit of a tree: a rule says for each entry that it meets whether the entry is kept, written, or gone down into, where a split comes
-- first if there is no table. Map and modify are visits.
use Rattle.std.specs.Prelude.{◌≡◌, Bool, true, false, cond, ltb}
use Prim.Native.Nat.{ℕ, zero, suc, ◌+◌}
use Rattle.laws.specs.Sum.{sum}
use Rattle.theory_forest.specs.Tree.{Tree, leaf, node, each_slot}
use Rattle.theory_forest.specs.Nodes.{nodes}
use Rattle.theory_tree.specs.Page.{first, child}
use Rattle.theory_tree.specs.Word.{fill_word}

-- what is done with an entry
pub data Rule : Type 0 where
  keep : Rule
  write : ℕ → Rule
  down : Rule

-- neither of the other two writes
pub no_write : (met : Bool) (x : ℕ) → cond met down keep ≡ write x → ⊥
no_write true x e = cc
no_write false x e = cc

-- ---- the table below an entry

-- the new table that a split of the word w links
unfoldable pub fill_tree : ℕ → ℕ → Tree
fill_tree depth w = node (λ i. cond (ltb i 512) (leaf (fill_word depth w i)) (leaf 0))

-- the table below an entry, after a split if there is none
unfoldable pub opened : ℕ → Tree → Tree
opened depth (leaf w) = fill_tree depth w
opened depth (node f) = node f

-- the tables that opening makes
unfoldable pub splits : Tree → ℕ
splits (leaf w) = 1
splits (node f) = 0

-- a number for each slot of a table, added up
unfoldable pub total : (ℕ → Tree → ℕ) → Tree → ℕ
total h (leaf w) = 0
total h (node f) = sum 512 (λ i. h i (f i))

-- ---- a rule obeyed

-- a rule obeyed in an entry that shows t, and would show u after the visit of the table below
unfoldable pub obey : Rule → Tree → Tree → Tree
obey keep t u = t
obey (write x) t u = leaf x
obey down t u = u

-- a number that a is for a write and b for going down
unfoldable pub counted : Rule → ℕ → ℕ → ℕ
counted keep a b = 0
counted (write x) a b = a
counted down a b = b

-- ---- the visit: `rule depth b t` for an entry with `depth` levels below, whose first page is b and which shows t

module _ (rule : ℕ → ℕ → Tree → Rule) where
  -- the q-th entry of its size
  unfoldable pub visit : ℕ → ℕ → Tree → Tree
  visit zero q t = obey (rule zero (first zero q) t) t t
  visit (suc depth) q t =
      let below = each_slot (λ i u. visit depth (child q i) u) (opened depth t) in
      obey (rule (suc depth) (first (suc depth) q) t) t below

  -- the new tables that it takes
  unfoldable pub made : ℕ → ℕ → Tree → ℕ
  made zero q t = 0
  made (suc depth) q t =
      let below = splits t + total (λ i u. made depth (child q i) u) (opened depth t) in
      counted (rule (suc depth) (first (suc depth) q) t) 0 below

  -- the tables that it frees: a write over a table frees the whole subtree
  unfoldable pub freed : ℕ → ℕ → Tree → ℕ
  freed zero q t = counted (rule zero (first zero q) t) (nodes t) 0
  freed (suc depth) q t =
      let below = total (λ i u. freed depth (child q i) u) (opened depth t) in
      counted (rule (suc depth) (first (suc depth) q) t) (nodes t) below

  -- a table as a whole: its entries have `depth` levels below and are the children of q. No rule looks at the root as an entry.
  unfoldable pub visit_table : ℕ → ℕ → Tree → Tree
  visit_table depth q t = each_slot (λ i u. visit depth (child q i) u) t

  unfoldable pub made_table : ℕ → ℕ → Tree → ℕ
  made_table depth q t = total (λ i u. made depth (child q i) u) t

  unfoldable pub freed_table : ℕ → ℕ → Tree → ℕ
  freed_table depth q t = total (λ i u. freed depth (child q i) u) t
