-- What a page shows after a visit, from what each rule does to its own entry; and that a visit leaves fine words where it writes fine
-- words.
use Rattle.std.specs.Prelude.{◌≡◌}
use Prim.Native.Nat.{ℕ, zero, suc, ◌<◌}
use Rattle.theory_forest.specs.Tree.{Tree, leaf, node}
use Rattle.theory_tree.specs.Page.{first, In}
use Rattle.theory_tree.specs.Fine.{Fine}
use Rattle.theory_tree.specs.Walk.{Seen, seen, seen_in}
use Rattle.theory_tree.specs.Visit.{Rule, keep, write, down}

-- every word of the tree is fine where it stands, and no table stands below the lowest level
abbrev pub FineTree : ℕ → Tree → Type 0
FineTree depth (leaf w) = Fine depth w
FineTree zero (node f) = ⊥
FineTree (suc depth) (node f) = (i : ℕ) → i < 512 → FineTree depth (f i)

-- every word of a table, whose entries have `depth` levels below, is fine where it stands
abbrev pub FineTable : ℕ → Tree → Type 0
FineTable depth (leaf w) = ⊥
FineTable depth (node f) = FineTree (suc depth) (node f)

pub table_fine : (depth : ℕ) (t : Tree) → FineTable depth t → FineTree (suc depth) t
table_fine depth (leaf w) fine = absurd fine
table_fine depth (node f) fine = fine

-- what is written is fine
abbrev pub Good : ℕ → Rule → Type 0
Good depth keep = Unit {0}
Good depth (write x) = Fine depth x
Good depth down = Unit {0}

-- a page of an entry shows what `new` makes of what it showed; where the rule goes down, the entries below answer for it
abbrev pub Right : (ℕ → Seen → Seen) → ℕ → Tree → ℕ → Rule → Type 0
Right new depth t page keep = seen depth t page ≡ new page (seen depth t page)
Right new depth t page (write x) = seen_in depth x page ≡ new page (seen depth t page)
Right new zero t page down = ⊥
Right new (suc depth) t page down = Unit {0}

-- the rule brings about `new`
pub record Shows (rule : ℕ → ℕ → Tree → Rule) (new : ℕ → Seen → Seen) : Type 0 where
  pub good : (depth q : ℕ) (t : Tree) → FineTree depth t → Good depth (rule depth (first depth q) t)
  pub right : (depth q : ℕ) (t : Tree) (page : ℕ) → FineTree depth t → In depth q page
      → Right new depth t page (rule depth (first depth q) t)
