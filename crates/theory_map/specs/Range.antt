-- A map of a table of a sound pool does on lists what the document's loop does on the table's tree, with no more tables than that needs: no
-- split meets a full pool.
use Rattle.std.specs.Prelude.{◌≡◌, refl, List, [], ◌∷◌, ℕ, zero, suc, ◌+◌, ◌-◌, ◌≤◌}
use Rattle.std.proofs.Math.Path.{ap, subst}
use Rattle.std.proofs.Common.{◌∙◌}
use native.Mathlib.Omega.{arith}
use Rattle.region.specs.Chunks.{chunks}
use Rattle.region.specs.Each.{each_of, each_chunk}
use Rattle.region.specs.declared.MemoryRegion.{MemoryRegion}
use Rattle.pool.specs.State.{St}
use Rattle.pool.specs.declared.Handle.{Handle}
use Rattle.map_rules.specs.declared.Map.{Map}
use Rattle.map_rules.specs.Rules.{chunk_map}
use Rattle.map_put.specs.Put.{framed, framed_chunk, each_map_chunk, map_range}
use Rattle.map_put.specs.Range.{map_step, map_open}
use Rattle.theory_sound.specs.Codec.{Placed, tree_from}
use Rattle.theory_tree.specs.Page.{child}
use Rattle.theory_tree.specs.Chunks.{chunked, chunked_table}
use Rattle.theory_tree.specs.Needed.{needed, needed_table}
use Rattle.theory_tree.specs.Document.{document_rule}
use Rattle.theory_map.specs.Moves.{WorkedWithin}
use Rattle.theory_map.specs.Pieces.{done_table, takes_table, slot_at, pieces}
use Rattle.theory_map.specs.Chunk.{Works, ChunkWorks, page_works, chunk_works}
use Rattle.theory_map.specs.Loop.{through, loop}

through_is : (f : Map → St → St) (m : Map) (cs : List MemoryRegion) (p : ℕ) (s : St)
    → through (λ c frame t. f (chunk_map m c frame) t) cs p s ≡ (each_of (framed_chunk f m) cs (framed p s)).state
unfolding through each_of framed_chunk
through_is f m [] p s = refl
through_is f m (c ∷ cs) p s = through_is f m cs (p + (c.end.0 - c.start.0)) (f (chunk_map m c p) s)

each_is : (level : ℕ) (f : Map → St → St) (m : Map) (s : St)
    → through (λ c frame t. f (chunk_map m c frame) t) (chunks level m.region.start.0 m.region.end.0) m.frame.0 s
    ≡ each_map_chunk level f m s
unfolding each_map_chunk each_chunk
each_is level f m s = through_is f m (chunks level m.region.start.0 m.region.end.0) m.frame.0 s

module _ {h : Handle} (placed : Placed h) where
  table_works : (depth : ℕ) → depth ≤ 3 → ChunkWorks placed depth → Works placed depth
  unfolding chunked_table needed_table
  table_works depth low works q k m s allowed area R room =
      subst
      (λ (s' : St). WorkedWithin placed s s' depth k (done_table m depth (tree_from h s depth k)) (takes_table m depth (tree_from h s depth k)))
      is
      (loop placed (λ (x : St). x) (λ c p t. map_step h k (3 - depth) (chunk_map m c p) t)
      (λ c p u. chunked (document_rule m.flags m.blocks) depth c p u)
      (λ c p u. needed (document_rule m.flags m.blocks) depth c p u) depth q k m low
      (λ c p x piece ready enough. works (child q (slot_at depth c)) k (chunk_map m c p) x allowed piece ready enough)
      (chunks (3 - depth) m.region.start.0 m.region.end.0) 0 m.frame.0 s
      (pieces depth q m low m.frame.0 m.region area) R room)
    where
      is : through (λ c frame t. map_step h k (3 - depth) (chunk_map m c frame) t)
          (chunks (3 - depth) m.region.start.0 m.region.end.0) m.frame.0 s
          ≡ map_range depth h k m s
      is =
          let e : 3 - (3 - depth) ≡ depth = omega arith in
          each_is (3 - depth) (map_step h k (3 - depth)) m s ∙ map_open h k (3 - depth) m s (omega arith)
          ∙ ap (λ (d : ℕ). map_range d h k m s) e

  -- A MAP OF A TABLE
  pub range_works : (depth : ℕ) → depth ≤ 3 → Works placed depth
  range_works zero low = table_works zero low (page_works placed)
  range_works (suc depth) low = table_works (suc depth) low (chunk_works placed depth (range_works depth (omega arith)))
