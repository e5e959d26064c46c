-- Theorems about the definitions of specs/Document.
use Rattle.std.specs.Prelude.{◌≡◌, true, not, ◌⊎◌, ltb}
use Rattle.std.proofs.Math.Path.{refl, ap, ap₂}
use Rattle.std.proofs.Common.{◌∙◌, inl, inr, le→leb, ltb→lt, lt→ltb}
use Rattle.std.proofs.Math.Bool.{Bool, ◌&&◌}
use Prim.Native.Nat.{ℕ, zero, suc, ◌+◌, ◌*◌, ◌-◌, ◌/◌, ◌%◌, ◌≤◌, ◌<◌}
use native.Mathlib.Omega.{arith}
use Rattle.std.proofs.Math.Dec.{eqb, eqb→eq, leb, leb→le}
use Rattle.laws.specs.Size.{size_at}
use Rattle.laws.specs.Test.{by_bool, same_test, eq→eqb, and_l, and_r, and_i, le_or}
use Rattle.entry.specs.Word.{address_of, flags_of, valid, leaf_word as written}
use Rattle.region.specs.Region.{region, whole as wholeEntry}
use Rattle.theory_forest.specs.Tree.{Tree, leaf, node}
use Rattle.theory_tree.specs.Page.{pages_in, span-zero, first, In, in_of, in_rest, entry_rest, end_rest}
use Rattle.theory_tree.specs.Word.{frame_in, leaf_word_of, address_frame}
use Rattle.theory_tree.specs.Visit.{write}
use Rattle.theory_tree.specs.Rules.{Map, whole, frame_at, same, fits, drops, map_rule, whole_yes}
use Rattle.theory_tree.proofs.Rules.{fits_yes}
use Rattle.theory_tree.proofs.Local.{map_local}
use Rattle.theory_tree.specs.Chunks.{in_pages, Inside, chunked_table}
use Rattle.theory_tree.proofs.Sweep.{RulesSay, table_is}
use Rattle.theory_tree.specs.Root.{map_tree}
use Rattle.theory_tree.specs.Document.{already, document_rule, word_frames, meets_is}

module _ (depth q s e p flags : ℕ) (blocks : Bool) (low : depth ≤ 3) (some : s < e) (I : Inside (first depth q) (pages_in depth) s e p) where
  abbrev m : Map
  m = in_pages flags blocks s e p

  abbrev b : ℕ
  b = first depth q

  start_in : In depth q (s / 4096)
  start_in = in_of depth q (s / 4096) I.low (omega (arith, I.start_page, I.end_page, I.high))

  -- the chunk's offset in the entry
  offset : s % size_at (3 - depth) ≡ (s / 4096 - b) * 4096
  offset =
      entry_rest depth s low I.start_page
      ∙ (let r = in_rest depth q (s / 4096) start_in in let e : s / 4096 % pages_in depth * 4096 ≡ (s / 4096 - b) * 4096 = omega arith in e)

  already_is : (w : ℕ) → already (3 - depth) (region s e) p flags w ≡ same b m w
  unfolding already same
  already_is w =
      let o = offset in
      let f = address_frame w in
      let l = I.low in
      let k = I.frame_page in
      let fits : Bool = leb (s % size_at (3 - depth)) p in
      let equal : Bool = eqb (p - s % size_at (3 - depth)) (address_of w) in
      ap (λ (x : Bool). eqb (flags_of w) flags && x) (same_test (fits && equal) (eqb (p / 4096 + b) (frame_in w + s / 4096))
      (λ t. let x = leb→le (s % size_at (3 - depth)) p (and_l fits equal t) in
      let y = eqb→eq (p - s % size_at (3 - depth)) (address_of w) (and_r fits equal t) in
      eq→eqb (p / 4096 + b) (frame_in w + s / 4096) (omega arith))
      (λ t. let x = eqb→eq (p / 4096 + b) (frame_in w + s / 4096) t in
      and_i fits equal (le→leb (s % size_at (3 - depth)) p (omega arith)) (eq→eqb (p - s % size_at (3 - depth)) (address_of w) (omega arith))))

  -- whether the chunk begins with its entry, by address and by page
  start_is : eqb (s % size_at (3 - depth)) 0 ≡ leb (s / 4096) b
  start_is = let o = offset in let l = I.low in same_test (eqb (s % size_at (3 - depth)) 0) (leb (s / 4096) b)
      (λ t. let x = eqb→eq (s % size_at (3 - depth)) 0 t in le→leb (s / 4096) b (omega arith))
      (λ t. let x = leb→le (s / 4096) b t in eq→eqb (s % size_at (3 - depth)) 0 (omega arith))

  -- whether the chunk ends with its entry, by address and by page
  end_is : eqb (e % size_at (3 - depth)) 0 ≡ leb (b + pages_in depth) (e / 4096)
  end_is = let r = entry_rest depth e low I.end_page in same_test (eqb (e % size_at (3 - depth)) 0) (leb (b + pages_in depth) (e / 4096))
      (λ t. let x = eqb→eq (e % size_at (3 - depth)) 0 t in
      le→leb (b + pages_in depth) (e / 4096) (ends (omega arith) (le_or (b + pages_in depth) (e / 4096))))
      (λ t. let x = leb→le (b + pages_in depth) (e / 4096) t in
      let y : e / 4096 ≡ b + pages_in depth = omega (arith, I.high) in
      let z : e / 4096 % pages_in depth ≡ 0 = ap (λ (x : ℕ). x % pages_in depth) y ∙ end_rest depth q in
      eq→eqb (e % size_at (3 - depth)) 0 (omega arith))
    where
      ends : e / 4096 % pages_in depth ≡ 0 → (b + pages_in depth ≤ e / 4096) ⊎ (e / 4096 < b + pages_in depth)
          → b + pages_in depth ≤ e / 4096
      ends z (inl h) = h
      ends z (inr h) =
          let l : b < e / 4096 = omega (arith, I.low, I.start_page, I.end_page) in
          absurd (omega (arith, in_rest depth q (e / 4096) (in_of depth q (e / 4096) (omega arith) h)))

  pub whole_is : wholeEntry (3 - depth) (region s e) ≡ whole depth b m
  unfolding wholeEntry whole
  whole_is = ap₂ ◌&&◌ start_is end_is

  -- the frame of the entry's first page, where the chunk begins with the entry
  frame_is : whole depth b m ≡ true → frame_at b m ≡ p / 4096
  unfolding frame_at
  frame_is w = let x = whole_yes depth b m w in let l = I.low in omega arith

  fits_is : (wholeEntry (3 - depth) (region s e) && (eqb (p % size_at (3 - depth)) 0 && (blocks && ltb 0 (3 - depth)))) ≡ fits depth b m
  unfolding fits
  fits_is = by_bool (whole depth b m)
      (λ w. rw (whole_is, w, frame_is w) (ap₂ (λ (x y : Bool). x && (blocks && y)) aligned high))
      (λ w. rw (whole_is, w))
    where
      aligned : eqb (p % size_at (3 - depth)) 0 ≡ eqb (p / 4096 % pages_in depth) 0
      aligned = let r = entry_rest depth p low I.frame_page in same_test _ _
          (λ t. let x = eqb→eq (p % size_at (3 - depth)) 0 t in eq→eqb (p / 4096 % pages_in depth) 0 (omega arith))
          (λ t. let x = eqb→eq (p / 4096 % pages_in depth) 0 t in eq→eqb (p % size_at (3 - depth)) 0 (omega arith))

      high : ltb 0 (3 - depth) ≡ ltb depth 3
      high = same_test _ _
          (λ t. let x = ltb→lt 0 (3 - depth) t in lt→ltb depth 3 (omega arith))
          (λ t. let x = ltb→lt depth 3 t in lt→ltb 0 (3 - depth) (omega arith))

  drops_is : (wholeEntry (3 - depth) (region s e) && not (valid flags)) ≡ drops depth b m
  unfolding drops
  drops_is = rw whole_is

  word_is : m.from ≤ b → written (3 - depth) p flags ≡ leaf_word_of depth (frame_at b m) flags
  unfolding frame_at
  word_is h =
      let l = I.low in
      let x : p / 4096 ≡ p / 4096 + (b - s / 4096) = omega arith in
      word_frames depth p flags low I.frame_page ∙ ap (λ (y : ℕ). leaf_word_of depth y flags) x

module _ (flags : ℕ) (blocks : Bool) where
  pub document_says : RulesSay map_local (document_rule flags blocks) flags blocks
  unfolding document_rule map_rule
  document_says zero q s e p (leaf w) low some I =
      let z = span-zero in
      rw (meets_is zero q s e p flags blocks low some I)
      (ap write (word_is zero q s e p flags blocks low some I (omega (arith, I.high, I.start_page, I.end_page))))
  document_says zero q s e p (node f) low some I = refl
  document_says (suc depth) q s e p (leaf w) low some I =
      let m : Map = in_pages flags blocks s e p in
      let b : ℕ = first (suc depth) q in
      let am = meets_is (suc depth) q s e p flags blocks low some I in
      let two = already_is (suc depth) q s e p flags blocks low some I w in
      let three = fits_is (suc depth) q s e p flags blocks low some I in
      by_bool (same b m w)
      (λ k. rw (two, k, am))
      (λ k. by_bool (fits (suc depth) b m)
      (λ f. rw (two, k, three, f, am)
      (ap write (word_is (suc depth) q s e p flags blocks low some I (whole_yes (suc depth) b m (fits_yes (suc depth) b m f).0).0)))
      (λ f. rw (two, k, three, f, am)))
  document_says (suc depth) q s e p (node f) low some I =
      rw (meets_is (suc depth) q s e p flags blocks low some I, drops_is (suc depth) q s e p flags blocks low some I)

  -- THE DOCUMENT'S LOOP IS THE MAP ON TREES, also for a region with no page
  pub document_is : (depth r start end frame : ℕ) (f : ℕ → Tree) → depth ≤ 3
      → Inside (first (suc depth) r) (pages_in (suc depth)) start end frame
      → chunked_table (document_rule flags blocks) depth (region start end) frame (node f)
      ≡ map_tree depth r (in_pages flags blocks start end frame) (node f)
  unfolding map_tree
  document_is depth r start end frame f low I =
      table_is map_local (document_rule flags blocks) flags blocks document_says depth r start end frame f low I
