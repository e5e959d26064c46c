-- "Putting down a map" word for word, over addresses: the first rule that fits a chunk. Run chunk by chunk as `Chunks` has it, it is the
-- map of `Root`. By address the leaf's word is entry's `leaf_word`, here `written`, and the test of a whole entry region's `whole`, here
-- `wholeEntry`; `leaf_word_of` of `Word` and `whole` of `Rules` say the same by pages. `word_frames` and `whole_is` join them.
use Rattle.std.specs.Prelude.{◌≡◌, true, false, not, cond, ltb}
use Rattle.std.proofs.Math.Path.{ap}
use Rattle.std.proofs.Math.Bool.{Bool, ◌&&◌}
use Prim.Native.Nat.{ℕ, zero, suc, ◌+◌, ◌*◌, ◌-◌, ◌/◌, ◌%◌, ◌≤◌, ◌<◌}
use native.Mathlib.Omega.{arith}
use Rattle.std.proofs.Math.Dec.{eqb, leb}
use Rattle.std.proofs.lemmas.Bool.{lt-leb}
use Rattle.laws.specs.Size.{size_at}
use Rattle.entry.specs.Word.{address_of, flags_of, valid, leaf_word as written}
use Rattle.region.specs.Region.{whole as wholeEntry}
use Rattle.region.specs.declared.MemoryRegion.{MemoryRegion}
use Rattle.theory_forest.specs.Tree.{Tree, leaf, node}
use Rattle.theory_tree.specs.Page.{pages_in, first}
use Rattle.theory_tree.specs.Word.{leaf_word_of, page_bit}
use Rattle.theory_tree.specs.Visit.{Rule, keep, write, down}
use Rattle.theory_tree.specs.Rules.{Map, meets, yes_meets}
use Rattle.theory_tree.specs.Chunks.{in_pages, Inside}

-- rule 2's test of the word w: "same flags, and frame at least the chunk's offset in the entry with difference equal to the entry's
-- address"
unfoldable pub already : ℕ → MemoryRegion → ℕ → ℕ → ℕ → Bool
already level c frame flags w =
    let offset = c.start.0 % size_at level in
    eqb (flags_of w) flags && (leb offset frame && eqb (frame - offset) (address_of w))

-- the first rule that fits the chunk c, with its frame, of an entry with `depth` levels below
module _ (flags : ℕ) (blocks : Bool) where
  unfoldable pub document_rule : ℕ → MemoryRegion → ℕ → Tree → Rule
  document_rule zero c frame (leaf w) = write (written 3 frame flags)
  document_rule zero c frame (node f) = keep
  document_rule (suc depth) c frame (leaf w) =
      let level = 3 - suc depth in
      cond (already level c frame flags w) keep
      (cond (wholeEntry level c && (eqb (frame % size_at level) 0 && (blocks && ltb 0 level))) (write (written level frame flags))
      down)
  document_rule (suc depth) c frame (node f) =
      let level = 3 - suc depth in
      cond (wholeEntry level c && not (valid flags)) (write flags) down

-- ---- it says what `map_rule` says

-- in frames
pub word_frames : (depth p f : ℕ) → depth ≤ 3 → p % 4096 ≡ 0 → written (3 - depth) p f ≡ leaf_word_of depth (p / 4096) f
unfolding written leaf_word_of page_bit
word_frames zero p f h pages = let e : p + f + 2 ≡ p / 4096 * 4096 + f + 2 = omega arith in ap (λ (x : ℕ). cond (valid f) x f) e
word_frames (suc depth) p f h pages =
    let low : leb 3 (3 - suc depth) ≡ false = lt-leb 3 (3 - suc depth) (omega arith) in
    let e : p + f ≡ p / 4096 * 4096 + f + 0 = omega arith in
    rw low (ap (λ (x : ℕ). cond (valid f) x f) e)

module _ (depth q s e p flags : ℕ) (blocks : Bool) (low : depth ≤ 3) (some : s < e) (I : Inside (first depth q) (pages_in depth) s e p) where
  abbrev m : Map
  m = in_pages flags blocks s e p

  abbrev b : ℕ
  b = first depth q

  pub meets_is : meets depth b m ≡ true
  meets_is =
      yes_meets depth b m (s / 4096) (omega arith) (omega (arith, I.start_page, I.end_page)) I.low
      (omega (arith, I.start_page, I.end_page, I.high))
