-- The third step on lists: a word is written in a slot and the whole subtree that the slot referred to is freed.
use Rattle.std.specs.Prelude.{◌≡◌, cond, ◌⊎◌, ℕ, suc, ◌+◌, ◌<◌, eqb}
use Rattle.std.proofs.Common.{ap, ◌∙◌, inl, inr, arith, ne_eqb}
use Rattle.laws.specs.Sum.{sum, sum_ext, sum-add}
use Rattle.pool.specs.State.{store_at, St, tables, number_at, used_in}
use Rattle.pool.specs.Number.{used, free, used-free}
use Rattle.pool.specs.Refuse.{Shaped}
use Rattle.pool_table.specs.Table.{free_tree}
use Rattle.pool.specs.declared.Handle.{Handle}
use Rattle.theory_forest.specs.Tree.{leaf}
use Rattle.theory_forest.specs.Sound.{Refers}
use Rattle.theory_forest.specs.Under.{Under, NotUnder, under-or}
use Rattle.theory_forest.proofs.Under.{refers_level, refers_over}
use Rattle.theory_forest.specs.Free.{Frees}
use Rattle.theory_forest.specs.Nodes.{nodes, lies, lies_yes, lies_no}
use Rattle.theory_forest.proofs.Nodes.{under-nodes}
use Rattle.theory_forest.proofs.Move.{move_free}
use Rattle.theory_sound.specs.Alloc.{used-sum}
use Rattle.theory_sound.specs.Codec.{shaped_placed, codec_of, view, tree_from}
use Rattle.theory_sound.specs.Clauses.{InUse, level_at, SoundPool}
use Rattle.theory_sound.proofs.Generic.{pool_sound}
use Rattle.theory_sound.specs.Lists.{size_trans, store_size, store_here, store_other}
use Rattle.theory_sound.specs.Step.{Stands, Step}
use Rattle.theory_sound.proofs.Step.{stands_fits, used_inside}
use Rattle.theory_sound.specs.FreeRun.{Freed, tree_freed}

module _ {h : Handle} {s : St} (shape : Shaped h s) (P : SoundPool h s) (depth p i v : ℕ) (in_use : InUse s p) (inside : i < 512)
    (low : level_at s p + suc depth ≡ 3) {e : ℕ} (r : Refers (codec_of h (shaped_placed shape)) (view s) p i e) where
  -- the word v in the slot, then the subtree of e freed
  abbrev after : St
  after = free_tree depth h e (store_at p i v s)

  run : Freed shape (pool_sound (shaped_placed shape) P) e (store_at p i v s) after
  run =
      tree_freed shape (pool_sound (shaped_placed shape) P) depth e (store_at p i v s) r.used (omega (arith, low, refers_level r))
      (record {
        size = store_size s p i v;
        words = λ j m under k. store_other s p i v inside j k (λ at. refers_over r m (rw (← at.0) under));
      })

  pub tree_frees : Frees (codec_of h (shaped_placed shape)) (view s) (view after) p i e v
  tree_frees = record {
    here = (run.rest p (refers_over r)).words i ∙ store_here s p i v inside (used_inside P p in_use);
    gone = λ j d under. (run.gone j d under).number;
    empty = λ j d under k. (run.gone j d under).words k;
    words = λ j k off other. (run.rest j off).words k ∙ store_other s p i v inside j k other;
    ledger = λ j off. (run.rest j off).number;
  }

  -- FREE: the slot now shows the leaf v
  pub free_step : Stands h (level_at s p) v → Step h (shaped_placed shape) s after (suc depth) p i (leaf v)
  free_step stands = record {
    move =
        move_free (pool_sound (shaped_placed shape) P) (suc depth) in_use inside low
        (stands_fits h (shaped_placed shape) (number_at s p) stands) tree_frees r;
    size = size_trans (store_size s p i v) run.size;
  }

  -- ---- the tables in use fall by the tables under e, and the free ones rise by them

  pub free-used : used after.ledger + nodes (tree_from h s depth e) ≡ used s.ledger
  free-used =
      let n = tables s in
      let under = under-nodes (pool_sound (shaped_placed shape) P) n (used_in s) depth e r.used (omega (arith, low, refers_level r)) in
      let a = used-sum s.ledger in
      let b : used after.ledger ≡ sum n (λ k. cond (eqb (number_at after k) 0) 0 1) =
      used-sum after.ledger ∙ ap (λ (m : ℕ). sum m (λ k. cond (eqb (number_at after k) 0) 0 1)) run.size.same_tables in
      let c = sum-add n (λ k. cond (eqb (number_at after k) 0) 0 1) (lies (codec_of h (shaped_placed shape)) (view s) e) in
      let d = sum_ext n (λ k. cond (eqb (number_at after k) 0) 0 1 + lies (codec_of h (shaped_placed shape)) (view s) e k)
      (λ k. cond (eqb (number_at s k) 0) 0 1)
      (λ k small. at k (under-or e k)) in
      omega arith
    where
      mark : (x : ℕ) → 0 < x → cond {A = ℕ} (eqb x 0) 0 1 ≡ 1
      mark x some = rw (ne_eqb x 0 (λ z. omega arith))

      at : (k : ℕ)
          → ((d : ℕ) × Under (codec_of h (shaped_placed shape)) (view s) e d k) ⊎ NotUnder (codec_of h (shaped_placed shape)) (view s) e k
          → cond (eqb (number_at after k) 0) 0 1 + lies (codec_of h (shaped_placed shape)) (view s) e k ≡ cond (eqb (number_at s k) 0) 0 1
      at k (inl under) =
          let l = lies_yes (codec_of h (shaped_placed shape)) (view s) e under.0 k under.1 in
          let m = mark (number_at s k) under.1.used in
          let z : cond {A = ℕ} (eqb (number_at after k) 0) 0 1 ≡ 0 = rw (run.gone k under.0 under.1).number in
          omega arith
      at k (inr off) =
          let l = lies_no (codec_of h (shaped_placed shape)) (view s) e k off in
          let z : cond {A = ℕ} (eqb (number_at after k) 0) 0 1 ≡ cond (eqb (number_at s k) 0) 0 1 = rw (run.rest k off).number in
          omega arith

  pub free-free : free after.ledger ≡ free s.ledger + nodes (tree_from h s depth e)
  free-free =
      let a = used-free s.ledger in
      let b = used-free after.ledger in
      let c = free-used in
      let d = run.size.same_tables in
      omega arith
