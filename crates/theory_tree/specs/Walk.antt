-- The walk on trees, and what it answers (document 01, "What a word says"): the walk of `theory_forest`, with the slots of a page, and the
-- word where it ends read at its level.
use Rattle.std.specs.Prelude.{◌≡◌, refl, Bool, true, false, cond, ◌⊎◌, ◌≢◌, ℕ, zero, suc, ◌+◌, ◌*◌, ◌-◌, ◌/◌, ◌%◌, ◌^◌, ◌<◌}
use Rattle.std.proofs.Common.{sym, ap, ◌∙◌, inl, inr, div-add-mod', arith}
use Rattle.laws.specs.Test.{eq_or}
use Rattle.entry.specs.Word.{kind_of, kind_page, kind_block, kind_clear, valid, plain_flags, Plain, valid_of}
use Rattle.entry.specs.Word.{valid_none}
use Rattle.entry.specs.declared.Kind.{Kind}
use Rattle.entry.specs.declared.Kind.TheVariants.{Table, Block, Page, Hole}
use Rattle.theory_forest.specs.Tree.{Tree, leaf, node}
use Rattle.theory_forest.specs.Walk.{walk_tree}
use Rattle.theory_tree.specs.Page.{pages_in, slot_of_page}
use Rattle.theory_tree.specs.Word.{frame_in, leaf_word_of, flags_shown, leaf_frame, leaf_plain}
use Rattle.theory_tree.specs.Word.{leaf_true}
use Rattle.theory_tree.specs.Fine.{Fine, fine_flags, fine_leaf}

-- what a page shows, which is what "as before" compares: flags without bit 1 and frame (its address / 4096), or a hole with its flags
pub data Seen : Type 0 where
  mapped : ℕ → ℕ → Seen
  hole : ℕ → Seen

pub record Answer : Type 0 where
  pub level : ℕ
  pub seen : Seen

-- a block or a page has a frame
unfoldable pub framed : Kind → Bool
framed Table = false
framed Block = true
framed Page = true
framed Hole = false

-- a word in an entry with `depth` levels below, read for a page: "the entry's address, cleared below the entry's size, plus the page's
-- offset"
unfoldable pub seen_in : ℕ → ℕ → ℕ → Seen
seen_in depth w page =
    cond (framed (kind_of (3 - depth) w)) (mapped (plain_flags w) (frame_in w / pages_in depth * pages_in depth + page % pages_in depth))
    (hole (plain_flags w))

-- the walk to a page, from a tree that stands in an entry with `depth` levels below
unfoldable pub walk : ℕ → Tree → ℕ → Answer
walk depth t page =
    let e = walk_tree (slot_of_page page) depth t in
    record { level = 3 - e.depth; seen = seen_in e.depth e.word page }

abbrev pub seen : ℕ → Tree → ℕ → Seen
seen depth t page = (walk depth t page).seen

-- ---- laws

pub walk_leaf : (depth w page : ℕ) → walk depth (leaf w) page ≡ record { level = 3 - depth; seen = seen_in depth w page }
unfolding walk walk_tree
walk_leaf zero w page = refl
walk_leaf (suc depth) w page = refl

pub walk_node : (depth : ℕ) (f : ℕ → Tree) (page : ℕ) → walk (suc depth) (node f) page ≡ walk depth (f (slot_of_page page depth)) page
unfolding walk walk_tree
walk_node depth f page = refl

pub seen_leaf : (depth w page : ℕ) → seen depth (leaf w) page ≡ seen_in depth w page
seen_leaf depth w page = ap (λ (a : Answer). a.seen) (walk_leaf depth w page)

pub seen_node : (depth : ℕ) (f : ℕ → Tree) (page : ℕ) → seen (suc depth) (node f) page ≡ seen depth (f (slot_of_page page depth)) page
seen_node depth f page = ap (λ (a : Answer). a.seen) (walk_node depth f page)

-- a fine word has a frame exactly if it is valid
pub fine_framed : (depth w : ℕ) → Fine depth w → framed (kind_of (3 - depth) w) ≡ valid w
unfolding framed
fine_framed depth w fine = go (eq_or (w % 4) 3) (eq_or (w % 4) 1)
  where
    page : (k : ℕ) → Fine k w → w % 4 ≡ 3 → framed (kind_of (3 - k) w) ≡ valid w
    page zero f e = rw (kind_page 3 w (omega arith) e) (sym (valid_of w (omega arith)))
    page (suc k) f e = absurd (omega (arith, f.clear (omega arith)))

    block : (k : ℕ) → Fine k w → w % 4 ≡ 1 → framed (kind_of (3 - k) w) ≡ valid w
    block zero f e = absurd (omega (arith, f.page refl (omega arith)))
    block (suc zero) f e = rw (kind_block 2 w (inr refl) e) (sym (valid_of w (omega arith)))
    block (suc (suc zero)) f e = rw (kind_block 1 w (inl refl) e) (sym (valid_of w (omega arith)))
    block (suc (suc (suc k))) f e = absurd (omega (arith, (f.top (omega arith)).0))

    go : (w % 4 ≡ 3) ⊎ (w % 4 ≢ 3) → (w % 4 ≡ 1) ⊎ (w % 4 ≢ 1) → framed (kind_of (3 - depth) w) ≡ valid w
    go (inl e) b = page depth fine e
    go (inr a) (inl e) = block depth fine e
    go (inr a) (inr b) = rw (kind_clear (3 - depth) w a b) (sym (valid_none w (omega arith)))

pub seen_fine : (depth w page : ℕ) → Fine depth w
    → seen_in depth w page ≡ cond (valid w) (mapped (plain_flags w) (frame_in w + page % pages_in depth)) (hole (plain_flags w))
unfolding seen_in
seen_fine depth w page fine =
    let whole : frame_in w / pages_in depth * pages_in depth ≡ frame_in w =
    omega (arith, div-add-mod' (frame_in w) (pages_in depth), fine.aligned) in
    rw (fine_framed depth w fine, whole)

-- what a map writes is seen: the frame and the flags
pub seen_leaf_word : (depth p f page : ℕ) → Plain f → p < 2 ^ 36 → p % pages_in depth ≡ 0 → depth < 3 → valid f ≡ true
    → seen_in depth (leaf_word_of depth p f) page ≡ mapped f (p + page % pages_in depth)
seen_leaf_word depth p f page F below at low v =
    seen_fine depth (leaf_word_of depth p f) page (fine_leaf depth p f F below at low)
    ∙ rw (leaf_true f F depth p below v, leaf_plain f F depth p below v, leaf_frame f F depth p below v)

-- flags alone are seen as a hole
pub seen_flags : (depth f page : ℕ) → Plain f → valid f ≡ false → seen_in depth f page ≡ hole f
seen_flags depth f page F v = seen_fine depth f page (fine_flags depth f F v) ∙ rw (v, flags_shown f F)
