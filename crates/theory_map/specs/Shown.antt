-- What the Arm walk shows of an address in a sound pool ("as before": kind of answer, frame and flags) is what the root's tree shows of its
-- page.
use Rattle.std.specs.Prelude.{◌≡◌, refl, true, false, ℕ, zero, suc, ◌+◌, ◌*◌, ◌-◌, ◌/◌, ◌%◌, ◌^◌, ◌≤◌, ◌<◌}
use Rattle.std.proofs.Common.{sym, ap, ap₂, ◌∙◌, inl, inr, arith}
use Rattle.laws.specs.Size.{size_at, down, down_rest}
use Rattle.laws.specs.Test.{by_bool}
use Rattle.entry.specs.Word.{address_of, flags_of, kind_block, kind_clear, valid, plain_flags, valid_yes, valid_no}
use Rattle.pool.specs.State.{St}
use Rattle.pool.specs.Refuse.{Shaped}
use Rattle.pool.specs.declared.Handle.{Handle}
use Rattle.theory_forest.specs.Tree.{Tree, leaf, node}
use Rattle.theory_forest.specs.Walk.{Ends, walk_tree}
use Rattle.theory_sound.specs.Clauses.{SoundPool}
use Rattle.theory_sound.specs.Codec.{shaped_placed, root_tree}
use Rattle.theory_sound.specs.Step.{Leaves}
use Rattle.arm.specs.Arm.{frame_of, flags_in, at, says}
use Rattle.arm.specs.Walk.{index_is, flags_is, frame_is, says_hole, says_block, says_page}
use Rattle.theory_walk.specs.AsBefore.{walk_of, Shown, mapped, hole, shown}
use Rattle.theory_walk.specs.Any.{slots_taken, reached_at}
use Rattle.theory_walk.proofs.Walked.{walk_of_tree}
use Rattle.theory_tree.specs.Page.{pages_in, entry-number, entry_rest, slot_of_page, slot_lt}
use Rattle.theory_tree.specs.Word.{frame_in, address_frame}
use Rattle.theory_tree.specs.Fine.{Fine}
use Rattle.theory_tree.specs.Walk.{Seen, mapped as seenMapped, hole as seenHole, seen_in, walk as walkIn, seen, seen_fine}
use Rattle.theory_tree.specs.Shown.{FineTree, FineTable}
use Rattle.theory_map.specs.Leaf.{root_fine}

-- what a page shows, with its frame as an address
unfoldable pub in_bytes : Seen → Shown
in_bytes (seenMapped flags frame) = mapped flags (frame * 4096)
in_bytes (seenHole flags) = hole flags

-- ---- one word

flags_shown : (w : ℕ) → flags_in w ≡ plain_flags w
unfolding plain_flags flags_of
flags_shown w =
    let low : w % 4096 / 4 ≡ w / 4 % 1024 = omega arith in
    let bit : w % 4096 % 2 ≡ w % 2 = omega arith in
    let e : w % 4096 / 4 * 4 + w % 4096 % 2 + w / 2 ^ 48 * 2 ^ 48 ≡ w % 2 + w / 4 % 1024 * 4 + w / 2 ^ 48 * 2 ^ 48 = omega arith in
    sym (flags_is w) ∙ parts (w % 4096) (w / 2 ^ 48) ∙ e
  where
    parts : (a b : ℕ) → (a + b * 2 ^ 48) / 4 * 4 + (a + b * 2 ^ 48) % 2 ≡ a / 4 * 4 + a % 2 + b * 2 ^ 48
    parts a b = omega arith

page_rest : (depth va : ℕ) → depth ≤ 3 → va % size_at (3 - depth) / 4096 ≡ va / 4096 % pages_in depth
unfolding size_at pages_in
page_rest zero va low = omega arith
page_rest (suc zero) va low = omega arith
page_rest (suc (suc zero)) va low = omega arith
page_rest (suc (suc (suc zero))) va low = omega arith
page_rest (suc (suc (suc (suc depth)))) va low = absurd (omega arith)

frame_shown : (depth w va : ℕ) → depth ≤ 3 → Fine depth w → frame_of (3 - depth) w va ≡ (frame_in w + va / 4096 % pages_in depth) * 4096
unfolding down
frame_shown depth w va low fine =
    let f = address_frame w in
    let frame : address_of w / 4096 ≡ frame_in w = omega arith in
    let rest = entry_rest depth (address_of w) low (omega arith) in
    let none : address_of w / 4096 % pages_in depth ≡ 0 = ap (λ (x : ℕ). x % pages_in depth) frame ∙ fine.aligned in
    let whole : address_of w / size_at (3 - depth) * size_at (3 - depth) ≡ address_of w =
    omega (arith, down_rest (address_of w) (size_at (3 - depth))) in
    let offset = page_rest depth va low in
    let size : ℕ = size_at (3 - depth) in
    let e : address_of w / size * size + va % size / 4096 * 4096 ≡ (frame_in w + va / 4096 % pages_in depth) * 4096 = omega arith in
    frame_is (3 - depth) w va ∙ e

seen-valid : (depth w page : ℕ) → Fine depth w → valid w ≡ true
    → seen_in depth w page ≡ seenMapped (plain_flags w) (frame_in w + page % pages_in depth)
seen-valid depth w page fine v = seen_fine depth w page fine ∙ rw v

seen_none : (depth w page : ℕ) → Fine depth w → valid w ≡ false → seen_in depth w page ≡ seenHole (plain_flags w)
seen_none depth w page fine v = seen_fine depth w page fine ∙ rw v

says-shown : (depth w va : ℕ) → depth ≤ 3 → Fine depth w → shown (says va (at (3 - depth) w)) ≡ in_bytes (seen_in depth w (va / 4096))
unfolding shown in_bytes
says-shown depth w va low fine = by_bool (valid w)
    (λ v. some depth low fine (valid_yes w v) ∙ sym (ap in_bytes (seen-valid depth w (va / 4096) fine v)))
    (λ v. let o = valid_no w v in
    ap shown (says_hole (3 - depth) w va (kind_clear (3 - depth) w (λ e. omega arith) (λ e. omega arith)))
    ∙ ap hole (flags_shown w) ∙ sym (ap in_bytes (seen_none depth w (va / 4096) fine v)))
  where
    both : (k : ℕ) → k ≤ 3 → Fine k w
        → mapped (flags_in w) (frame_of (3 - k) w va) ≡ mapped (plain_flags w) ((frame_in w + va / 4096 % pages_in k) * 4096)
    both k l f = ap₂ mapped (flags_shown w) (frame_shown k w va l f)

    some : (k : ℕ) → k ≤ 3 → Fine k w → w % 2 ≡ 1
        → shown (says va (at (3 - k) w)) ≡ mapped (plain_flags w) ((frame_in w + va / 4096 % pages_in k) * 4096)
    some zero l f o = let b = f.page refl o in ap shown (says_page 3 w va (omega arith)) ∙ both 0 l f
    some (suc zero) l f o =
        let b = f.clear (omega arith) in ap shown (says_block 2 w va (kind_block 2 w (inr refl) (omega arith))) ∙ both 1 l f
    some (suc (suc zero)) l f o =
        let b = f.clear (omega arith) in ap shown (says_block 1 w va (kind_block 1 w (inl refl) (omega arith))) ∙ both 2 l f
    some (suc (suc (suc k))) l f o = absurd (omega (arith, (f.top (omega arith)).0))

-- ---- the walk

-- the Arm walk takes the slots of the address's page
pub slots_are : (va depth : ℕ) → depth ≤ 3 → slots_taken va depth ≡ slot_of_page (va / 4096) depth
unfolding slots_taken slot_of_page
slots_are va depth low = index_is (3 - depth) va ∙ ap (λ (x : ℕ). x % 512) (entry-number depth va low)

pub walk_same : (f g : ℕ → ℕ) (n : ℕ) (t : Tree) → ((l : ℕ) → l < n → f l ≡ g l) → walk_tree f n t ≡ walk_tree g n t
unfolding walk_tree
walk_same f g n (leaf w) same = refl
walk_same f g zero (node u) same = refl
walk_same f g (suc n) (node u) same =
    ap (λ (i : ℕ). walk_tree f n (u i)) (same n (omega arith)) ∙ walk_same f g n (u (g n)) (λ l h. same l (omega arith))

-- the walk of a fine tree ends in a fine word
pub record FineEnds (depth : ℕ) (e : Ends) : Type 0 where
  pub fine : Fine e.depth e.word
  pub low : e.depth ≤ depth

ends_fine : (f : ℕ → ℕ) (depth : ℕ) (t : Tree) → ((l : ℕ) → f l < 512) → FineTree depth t → FineEnds depth (walk_tree f depth t)
unfolding walk_tree
ends_fine f depth (leaf w) slots fine = record { fine = fine; low = omega arith }
ends_fine f zero (node u) slots fine = absurd fine
ends_fine f (suc depth) (node u) slots fine =
    let e = ends_fine f depth (u (f depth)) slots (fine (f depth) (slots depth)) in record { fine = e.fine; low = omega (arith, e.low) }

-- the walk of a fine table ends in a fine word below it
pub table-ends : (f : ℕ → ℕ) (depth : ℕ) (t : Tree) → ((l : ℕ) → f l < 512) → FineTable depth t → FineEnds depth (walk_tree f (suc depth) t)
unfolding walk_tree
table-ends f depth (leaf w) slots fine = absurd fine
table-ends f depth (node u) slots fine = ends_fine f depth (u (f depth)) slots (fine (f depth) (slots depth))

ends-shown : (va : ℕ) (e : Ends) (depth : ℕ) → depth ≤ 3 → FineEnds depth e
    → shown (says va (reached_at e)) ≡ in_bytes (seen_in e.depth e.word (va / 4096))
unfolding reached_at
ends-shown va e depth low fine = says-shown e.depth e.word va (omega (arith, fine.low)) fine.fine

seen-ends : (depth : ℕ) (t : Tree) (page : ℕ)
    → let e = walk_tree (slot_of_page page) depth t in seen_in e.depth e.word page ≡ seen depth t page
unfolding walkIn
seen-ends depth t page = refl

module _ {h : Handle} {s : St} (shape : Shaped h s) (P : SoundPool h s) (va : ℕ) where
  -- WHAT THE WALK SHOWS
  pub walk-shown : shown (walk_of h s va) ≡ in_bytes (seen (suc (3 - h.level)) (root_tree h s) (va / 4096))
  walk-shown =
      let depth : ℕ = 3 - h.level in
      let e : Ends = walk_tree (slot_of_page (va / 4096)) (suc depth) (root_tree h s) in
      let same : walk_tree (slots_taken va) (suc depth) (root_tree h s) ≡ e =
      walk_same (slots_taken va) (slot_of_page (va / 4096)) (suc depth) (root_tree h s) (λ l h. slots_are va l (omega arith)) in
      let ends = table-ends (slot_of_page (va / 4096)) depth (root_tree h s) (slot_lt (va / 4096)) (root_fine (shaped_placed shape) P) in
      ap shown (walk_of_tree shape P va) ∙ ap (λ (x : Ends). shown (says va (reached_at x))) same ∙ ends-shown va e depth (omega arith) ends
      ∙ ap in_bytes (seen-ends (suc depth) (root_tree h s) (va / 4096))

-- what is shown where a call left the tree t at the root
pub leaves-shown : {h : Handle} {s s' : St} {t : Tree} → Leaves h s s' t → (va : ℕ) {x : Seen}
    → seen (suc (3 - h.level)) t (va / 4096) ≡ x → shown (walk_of h s' va) ≡ in_bytes x
leaves-shown {h} left va e =
    walk-shown left.shape left.pool va
    ∙ ap (λ (t : Tree). in_bytes (seen (suc (3 - h.level)) t (va / 4096))) left.tree
    ∙ ap in_bytes e
