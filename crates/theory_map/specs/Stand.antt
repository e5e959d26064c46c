-- What a map writes and a split fills may stand in a sound pool.
use Rattle.std.proofs.Math.Path.{◌≡◌, ap}
use Rattle.std.proofs.Common.{sym, subst, ◌∙◌, arith}
use Rattle.std.specs.Prelude.{Bool, ◌&&◌, eqb}
use Rattle.std.proofs.Math.Bool.{true, false, not, cond}
use Prim.Native.Nat.{ℕ, zero, suc, ◌+◌, ◌-◌, ◌/◌, ◌%◌, ◌^◌, ◌≤◌, ◌<◌}
use Rattle.std.proofs.Math.Dec.{ltb}
use Rattle.laws.specs.Bit.{SubBits}
use Rattle.laws.specs.Size.{size_at}
use Rattle.laws.specs.Test.{by_bool}
use Rattle.entry.specs.Word.{flags_of, valid, plain_flags, Plain, flags_valid, leaf_word}
use Rattle.region.specs.Region.{whole}
use Rattle.pool.specs.Sound.{flag_set}
use Rattle.pool.specs.declared.Handle.{Handle}
use Rattle.map_rules.specs.declared.Map.{Map}
use Rattle.theory_forest.specs.Tree.{Tree, leaf, node}
use Rattle.theory_sound.specs.Step.{Stands}
use Rattle.theory_tree.specs.Page.{pages_in, first}
use Rattle.theory_tree.specs.Word.{fill_word, plain_flags_lem, flags_shown, leaf_hole, leaf_plain}
use Rattle.theory_tree.specs.Fine.{Fine}
use Rattle.theory_tree.proofs.Fine.{fill_flags, fill_is, fill_below, fine_fill}
use Rattle.theory_tree.specs.Visit.{keep, write, down as goDown}
use Rattle.theory_tree.specs.Shown.{FineTree, Good}
use Rattle.theory_tree.specs.Rules.{Given}
use Rattle.theory_tree.proofs.After.{map_shows}
use Rattle.theory_tree.specs.Chunks.{in_pages, Inside}
use Rattle.theory_tree.specs.Document.{already, word_frames, document_rule}
use Rattle.theory_tree.proofs.Document.{document_says}
use Rattle.theory_map.specs.Leaf.{fine_stands}
use Rattle.theory_map.specs.Rule.{says_of}

-- flags that refusals 3 and 4 leave
pub record Allowed (h : Handle) (f : ℕ) : Type 0 where
  pub plain : Plain f
  pub from : SubBits f (flag_set h)

-- a chunk with its frame: some whole pages of the q-th entry with `depth` levels below, frames that end at 2^48
pub record Piece (depth q : ℕ) (m : Map) : Type 0 where
  pub inside : Inside (first depth q) (pages_in depth) m.region.start.0 m.region.end.0 m.frame.0
  pub some : m.region.start.0 < m.region.end.0
  pub room : m.frame.0 + (m.region.end.0 - m.region.start.0) ≤ 2 ^ 48

-- ---- what is written

module _ (m : Map) (flags : Plain m.flags) where
  written_plain : (depth p : ℕ) → depth ≤ 3 → p % 4096 ≡ 0 → p < 2 ^ 48 → plain_flags (leaf_word (3 - depth) p m.flags) ≡ m.flags
  written_plain depth p low paged small =
      ap plain_flags (word_frames depth p m.flags low paged) ∙ by_bool (valid m.flags)
      (λ v. leaf_plain m.flags flags depth (p / 4096) (omega arith) v)
      (λ v. ap plain_flags (leaf_hole m.flags flags depth (p / 4096) v) ∙ flags_shown m.flags flags)

  -- whatever is written has the map's flags
  says_plain : (depth x : ℕ) (t : Tree) → depth ≤ 3 → m.frame.0 % 4096 ≡ 0 → m.frame.0 < 2 ^ 48 → says_of m depth t ≡ write x
      → plain_flags x ≡ m.flags
  unfolding document_rule
  says_plain zero x (leaf w) low paged small e =
      let same : leaf_word 3 m.frame.0 m.flags ≡ x = cc in ap plain_flags (sym same) ∙ written_plain 0 m.frame.0 low paged small
  says_plain zero x (node f) low paged small e = cc
  says_plain (suc depth) x (leaf w) low paged small e =
      let level : ℕ = 3 - suc depth in
      either (already level m.region m.frame.0 m.flags w)
      (whole level m.region && (eqb (m.frame.0 % size_at level) 0 && (m.blocks && ltb 0 level))) e
    where
      either : (a b : Bool) → cond a keep (cond b (write (leaf_word (3 - suc depth) m.frame.0 m.flags)) goDown) ≡ write x
          → plain_flags x ≡ m.flags
      either true b e = cc
      either false true e =
          let same : leaf_word (3 - suc depth) m.frame.0 m.flags ≡ x = cc in
          ap plain_flags (sym same) ∙ written_plain (suc depth) m.frame.0 low paged small
      either false false e = cc
  says_plain (suc depth) x (node f) low paged small e = either (whole (3 - suc depth) m.region && not (valid m.flags)) e
    where
      either : (a : Bool) → cond a (write m.flags) goDown ≡ write x → plain_flags x ≡ m.flags
      either true e = let same : m.flags ≡ x = cc in ap plain_flags (sym same) ∙ flags_shown m.flags flags
      either false e = cc

-- what a rule writes may stand where it is written
pub write_stands : (h : Handle) (depth q level x : ℕ) (m : Map) (t : Tree) → Allowed h m.flags → Piece depth q m → level + depth ≡ 3
    → FineTree depth t
    → says_of m depth t ≡ write x → Stands h level x
write_stands h depth q level x m t allowed piece low fine e =
    let I = piece.inside in
    let given : Given (in_pages m.flags m.blocks m.region.start.0 m.region.end.0 m.frame.0) =
    record { plain = allowed.plain; ends = omega (arith, piece.room, I.start_page, I.end_page, I.frame_page) } in
    let says = document_says m.flags m.blocks depth q m.region.start.0 m.region.end.0 m.frame.0 t (omega arith)
    piece.some I in
    let good : Good depth (write x) = subst (Good depth) (sym says ∙ e) ((map_shows _ given).good depth q t fine) in
    let flags = says_plain m allowed.plain depth x t (omega arith) I.frame_page (omega (arith, piece.some, piece.room)) e in
    fine_stands h depth level x low good (subst (λ (f : ℕ). SubBits f (flag_set h)) (sym flags) allowed.from)

-- ---- what a split fills

module _ (h : Handle) (depth w : ℕ) (fine : Fine (suc depth) w) (j : ℕ) (slot : j < 512) where
  fill_plain : plain_flags (fill_word depth w j) ≡ plain_flags w
  fill_plain =
      let F = fill_flags depth w fine in
      ap plain_flags (fill_is depth w fine j) ∙ by_bool (valid w)
      (λ v. leaf_plain (flags_of w) F depth _ (fill_below depth w fine j slot v) (flags_valid w ∙ v))
      (λ v. ap plain_flags (leaf_hole (flags_of w) F depth _ (flags_valid w ∙ v)) ∙ flags_shown (flags_of w) F)
      ∙ sym (plain_flags_lem w (fine.clear (omega arith)))

  pub fill_stands : (level : ℕ) → level + depth ≡ 3 → SubBits (plain_flags w) (flag_set h) → Stands h level (fill_word depth w j)
  fill_stands level low from =
      fine_stands h depth level (fill_word depth w j) low (fine_fill depth w fine j slot)
      (subst (λ (f : ℕ). SubBits f (flag_set h)) (sym fill_plain) from)
