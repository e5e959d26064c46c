-- THE DEMANDS, over the tree t that a sound pool's root shows: its entries have `depth` = 3 - (root level) levels below, the root is the
-- r-th table of its span (`Root`). Pages and frames are addresses / 4096; `In (suc depth) r page` says that the root spans the page. `seen`
-- is what a walk shows of a page, "as before" in the document's sense; `walk` has the level too. `FineTable` says that each word is fine
-- where it stands: `Forest` gives it for the trees of a sound pool, and a map keeps it (`map_fine`).
use Rattle.std.specs.Prelude.{ℕ, ◌≤◌, ◌<◌}

-- the page is one of the region
pub record OfRegion (start end page : ℕ) : Type 0 where
  pub from : start ≤ page
  pub below : page < end
