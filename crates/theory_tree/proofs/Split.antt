-- The crate's split runs its own map over a new table of zeros: the whole entry, to the old address, with the old flags, blocks allowed.
-- That is the fill of rule 5, of a hole too. And the fill in addresses.
use Rattle.std.specs.Prelude.{◌≡◌, true, cond, ◌⊎◌, ℕ, zero, suc, ◌+◌, ◌*◌, ◌-◌, ◌/◌, ◌%◌, ◌≤◌, ◌<◌}
use Rattle.std.proofs.Common.{sym, ap, ◌∙◌, inl, inr, mul_assoc}
use native.Mathlib.Omega.{arith}
use borrow.Author.Tests.{lt-ltb}
use Rattle.laws.specs.Size.{size_at, down}
use Rattle.laws.specs.Test.{by_bool, le_or}
use Rattle.entry.specs.Word.{address_of, flags_of, address_pages, valid, valid_none, flags_valid, leaf_word as written}
use Rattle.region.specs.Region.{region}
use Rattle.theory_forest.specs.Tree.{Tree, leaf, node, node_ext}
use Rattle.theory_tree.specs.Page.{pages_in, span-size, span_pos, first, child, child_in, child-first, entry_start}
use Rattle.theory_tree.specs.Word.{frame_in, leaf_word_of, fill_word, page_bit, address_frame, leaf_hole, flags_none}
use Rattle.theory_tree.specs.Fine.{Fine}
use Rattle.theory_tree.proofs.Fine.{fill_flags, fill_is, fill_aligned}
use Rattle.theory_tree.specs.Visit.{fill_tree, visit, visit_table}
use Rattle.theory_tree.proofs.Visit.{visit_keep, visit_write}
use Rattle.theory_tree.specs.Slots.{slot_after, each_node, slot_after_lem, slot_past, fill_slot}
use Rattle.theory_tree.proofs.Slots.{fill_node, fill_slot_lem, fill_past}
use Rattle.theory_tree.specs.Rules.{Map, meets, frame_at, same, fits, map_rule, yes_meets, yes_whole}
use Rattle.theory_tree.proofs.Rules.{same_yes, rule_page, rule-same}
use Rattle.theory_tree.proofs.Rules.{rule_block}
use Rattle.theory_tree.specs.Chunks.{Inside, chunked_table}
use Rattle.theory_tree.specs.Document.{word_frames, document_rule}
use Rattle.theory_tree.proofs.Document.{document_is}
use Rattle.theory_tree.specs.Root.{map_tree}

-- the map that the split of the q-th entry runs, in pages
abbrev split_map : ℕ → ℕ → ℕ → Map
split_map depth q w =
    record {
      from = first (suc depth) q;
      upto = first (suc depth) q + pages_in (suc depth);
      frame = frame_in w;
      flags = flags_of w;
      blocks = true;
    }

module _ (depth q w : ℕ) (fine : Fine (suc depth) w) (low : suc depth ≤ 3) (i : ℕ) (l : i < 512) where
  abbrev m : Map
  m = split_map depth q w

  abbrev b : ℕ
  b = first depth (child q i)

  slot_meets : meets depth b m ≡ true
  slot_meets =
      let c = child_in depth q i l in let s = span_pos depth in yes_meets depth b m b c.0 (omega arith) (omega arith) (omega arith)

  frame_is : frame_at b m ≡ frame_in w + i * pages_in depth
  unfolding frame_at
  frame_is = let c = child-first depth q i in omega arith

  slot_fits : fits depth b m ≡ true
  unfolding fits
  slot_fits =
      let c = child_in depth q i l in
      rw (yes_whole depth b m c.0 c.1, frame_is, fill_aligned depth w fine i, lt-ltb depth 3 low)

  word_is : leaf_word_of depth (frame_at b m) (flags_of w) ≡ fill_word depth w i
  word_is = ap (λ (x : ℕ). leaf_word_of depth x (flags_of w)) frame_is ∙ sym (fill_is depth w fine i)

-- a word without flags is no block: rule 2 may find the flags there already
bare : (depth w i : ℕ) → (fine : Fine (suc depth) w) → flags_of w ≡ 0 → fill_word depth w i ≡ 0
bare depth w i fine e =
    fill_is depth w fine i
    ∙ leaf_hole (flags_of w) (fill_flags depth w fine) depth (frame_in w + i * pages_in depth)
    (valid_none (flags_of w) (ap (λ (x : ℕ). x % 2) e))
    ∙ e

-- a slot of zeros after it
slot_fill : (depth q w : ℕ) → Fine (suc depth) w → suc depth ≤ 3 → (i : ℕ) → i < 512
    → visit (map_rule (split_map depth q w)) depth (child q i) (leaf 0) ≡ leaf (fill_word depth w i)
slot_fill zero q w fine low i l =
    visit_write (map_rule (split_map 0 q w)) zero (child q i) (leaf 0) _
    (rule_page (split_map 0 q w) (first zero (child q i)) 0 (slot_meets zero q w fine low i l))
    ∙ ap leaf (word_is zero q w fine low i l)
slot_fill (suc depth) q w fine low i l =
    let m : Map = split_map (suc depth) q w in
    let b : ℕ = first (suc depth) (child q i) in
    by_bool (same b m 0)
    (λ s. let x = same_yes b m 0 s in
    visit_keep (map_rule m) (suc depth) (child q i) (leaf 0) (rule-same m depth b 0 s)
    ∙ ap leaf (sym (bare (suc depth) w i fine (sym x.0 ∙ flags_zero))))
    (λ s. visit_write (map_rule m) (suc depth) (child q i) (leaf 0) _
    (rule_block m depth b 0 (slot_meets (suc depth) q w fine low i l) s (slot_fits (suc depth) q w fine low i l))
    ∙ ap leaf (word_is (suc depth) q w fine low i l))
  where
    flags_zero : flags_of 0 ≡ 0
    flags_zero = flags_none

zeros : ℕ → Tree
zeros i = leaf 0

table_fill : (depth q w : ℕ) → Fine (suc depth) w → suc depth ≤ 3 → map_tree depth q (split_map depth q w) (node zeros) ≡ fill_tree depth w
unfolding map_tree visit_table zeros
table_fill depth q w fine low = each_node each zeros ∙ node_ext (λ i. go i (le_or 512 i)) ∙ sym (fill_node depth w)
  where
    each : ℕ → Tree → Tree
    each i u = visit (map_rule (split_map depth q w)) depth (child q i) u

    go : (i : ℕ) → (512 ≤ i) ⊎ (i < 512) → slot_after each zeros i ≡ fill_slot depth w i
    go i (inl h) = slot_past each zeros i h ∙ sym (fill_past depth w i h)
    go i (inr h) = slot_after_lem each zeros i h ∙ slot_fill depth q w fine low i h ∙ sym (fill_slot_lem depth w i h)

-- THE CRATE'S SPLIT of the word w in the q-th entry is the fill
pub crate_split : (depth q w : ℕ) → Fine (suc depth) w → suc depth ≤ 3
    → chunked_table (document_rule (flags_of w) true) depth
    (region (first (suc depth) q * 4096) ((first (suc depth) q + pages_in (suc depth)) * 4096)) (address_of w)
    (node (λ i. leaf 0))
    ≡ fill_tree depth w
unfolding zeros
crate_split depth q w fine low =
    let b : ℕ = first (suc depth) q in
    let n : ℕ = pages_in (suc depth) in
    let inside : Inside b n (b * 4096) ((b + n) * 4096) (address_of w) =
    record { start_page = omega arith; end_page = omega arith; frame_page = address_pages w; low = omega arith; high = omega arith } in
    let start : b * 4096 / 4096 ≡ b = omega arith in
    let end : (b + n) * 4096 / 4096 ≡ b + n = omega arith in
    let frame : address_of w / 4096 ≡ frame_in w = omega (arith, address_frame w) in
    document_is (flags_of w) true depth q (b * 4096) ((b + n) * 4096) (address_of w) (λ i. leaf 0) (omega arith) inside
    ∙ rw (start, end, frame) (table_fill depth q w fine low)

-- ---- the fill in addresses: the old address, cleared below the entry's size, in steps of the child's size; the flags alone if it wasn't
-- valid
pub fill_address : (depth w i : ℕ) → suc depth ≤ 3
    → fill_word depth w i
    ≡ cond (valid w) (written (3 - depth) (down (address_of w) (size_at (3 - suc depth))) (flags_of w) + i * size_at (3 - depth)) (flags_of w)
unfolding down fill_word leaf_word_of first
fill_address depth w i low =
    let f : ℕ = frame_in w / pages_in (suc depth) * pages_in (suc depth) in
    let size = span-size depth (omega arith) in
    let frame : address_of w / 4096 ≡ frame_in w = omega (arith, address_frame w) in
    let start : address_of w / size_at (3 - suc depth) * size_at (3 - suc depth) ≡ f * 4096 =
    entry_start (suc depth) (address_of w) low ∙ ap (λ (x : ℕ). x / pages_in (suc depth) * pages_in (suc depth) * 4096) frame in
    let pages : f * 4096 / 4096 ≡ f = omega arith in
    let word = word_frames depth (f * 4096) (flags_of w) (omega arith) (omega arith)
    ∙ ap (λ (x : ℕ). leaf_word_of depth x (flags_of w)) pages in
    by_bool (valid w)
    (λ v. rw (start, word, flags_valid w, v) (steps f (i * pages_in depth) (flags_of w) (page_bit depth) (i * size_at (3 - depth))
    (ap (λ (x : ℕ). i * x) size ∙ sym (mul_assoc i (pages_in depth) 4096))))
    (λ v. rw (flags_valid w, v))
  where
    steps : (f k g c n : ℕ) → n ≡ k * 4096 → (f + k) * 4096 + g + c ≡ f * 4096 + g + c + n
    steps f k g c n e = omega arith
