-- Compact of a sound pool, in document 01's words: what it keeps, what it leaves, what it answers. This is the page to read.
use Rattle.std.specs.Prelude.{◌≡◌, ◌≢◌, ℕ, suc, ◌+◌, ◌-◌, ◌≤◌, ◌<◌, Ok}
use Rattle.std.proofs.Math.Path.{refl, sym}
use Rattle.std.proofs.Common.{ap, subst, ◌∙◌, arith}
use Rattle.laws.specs.Test.{is_true}
use Rattle.pool.specs.State.{St, word_at}
use Rattle.pool.specs.Number.{used}
use Rattle.pool.specs.Refuse.{shaped, Shaped, says-shaped, Out, out, Counted}
use Rattle.pool.specs.Sound.{soundb}
use Rattle.pool.specs.declared.Handle.{Handle}
use Rattle.theory_forest.specs.Tree.{Tree}
use Rattle.theory_forest.specs.Walk.{walk_tree}
use Rattle.theory_forest.specs.Compact.{compact_tree}
use Rattle.theory_forest.specs.CompactWalk.{compact_walk}
use Rattle.theory_tree.specs.Compact.{Tight, emptied, compact_count, compact_tight}
use Rattle.theory_sound.specs.Codec.{shaped_placed, root_tree}
use Rattle.theory_sound.specs.Clauses.{InUse, SoundPool}
use Rattle.theory_sound.proofs.Decide.{sound_decide}
use Rattle.theory_sound.proofs.Hanging.{used_tree}
use Rattle.theory_sound.specs.Step.{Leaves}
use Rattle.theory_sound.proofs.Step.{used_inside, root_ready, root_leaves, leaves-used}
use Rattle.arm.specs.Arm.{bits, flags_in, says}
use Rattle.arm.specs.Walk.{slot_below}
use Rattle.theory_walk.specs.AsBefore.{walk_of, hole, shown}
use Rattle.theory_walk.specs.Any.{slots_taken, reached_at}
use Rattle.theory_walk.proofs.Walked.{walk_of_tree}
use Rattle.compact_spec.specs.Call.{compacted, compact_call, call-compacted}
use Rattle.theory_compact.specs.Empty.{not_all_zero}
use Rattle.theory_compact.specs.Run.{table_worked}
use Rattle.theory_compact.specs.Tight.{NoneEmpty, tight_none, table_same}

-- a word of 0 shows the same at every level
zero_shows : (va depth : ℕ) → shown (says va (reached_at (record { word = 0; depth = depth }))) ≡ hole 0
unfolding shown reached_at says bits flags_in
zero_shows va depth = refl

slots_below : (va depth : ℕ) → slots_taken va depth < 512
unfolding slots_taken
slots_below va depth = slot_below (3 - depth) va

-- a pool with no empty table but the root is left as it is
compact_none : {h : Handle} {s : St} → Shaped h s → SoundPool h s → NoneEmpty s → compacted h s ≡ s
unfolding compacted
compact_none {h} shape P none = table_same (shaped_placed shape) none (3 - h.level) 0 (root_ready shape P)

module _ {h : Handle} {s : St} (shape : Shaped h s) (P : SoundPool h s) where
  leaves : Leaves h s (compacted h s) (compact_tree (3 - h.level) (root_tree h s))
  unfolding compacted
  leaves = root_leaves shape P (table_worked (shaped_placed shape) (3 - h.level) s 0 (root_ready shape P))

  -- the root's tree is compacted
  pub compact_of_tree : root_tree h (compacted h s) ≡ compact_tree (3 - h.level) (root_tree h s)
  compact_of_tree = leaves.tree

  -- the call is accepted, and answers with the tables in use afterwards
  pub compact_answers : compact_call h s ≡ out (Ok (used (compacted h s).ledger)) (compacted h s)
  unfolding compacted
  compact_answers =
      sym (call-compacted h s (is_true (shaped h s) (says-shaped h s shape)) (is_true (soundb h s) (sound_decide shape P)) refl refl)

  -- SOUND AGAIN, in lists as long as before
  pub compact_keeps_sound : SoundPool h (compacted h s)
  compact_keeps_sound = leaves.pool

  pub compact_keeps_shape : Shaped h (compacted h s)
  compact_keeps_shape = leaves.shape

  -- EVERY ADDRESS WALKS AS BEFORE, to the same frame and flags
  pub compact_walks_as_before : (va : ℕ) → shown (walk_of h (compacted h s) va) ≡ shown (walk_of h s va)
  compact_walks_as_before va =
      ap shown (walk_of_tree compact_keeps_shape compact_keeps_sound va)
      ∙ ap (λ (t : Tree). shown (says va (reached_at (walk_tree (slots_taken va) (suc (3 - h.level)) t)))) compact_of_tree
      ∙ compact_walk (slots_taken va) (slots_below va) (λ e. shown (says va (reached_at e))) (hole 0) (zero_shows va) (3 - h.level)
      (root_tree h s)
      ∙ sym (ap shown (walk_of_tree shape P va))

  -- NO TABLE BUT THE ROOT IS ALL ZERO
  none_empty : NoneEmpty (compacted h s)
  none_empty =
      tight_none (shaped_placed shape) compact_keeps_sound
      (subst (Tight (3 - h.level)) (sym compact_of_tree) (compact_tight (3 - h.level) (root_tree h s)))

  pub compact_leaves_no_empty_table : (k : ℕ) → k ≢ 0 → InUse (compacted h s) k → ¬ ((i : ℕ) → i < 512 → word_at (compacted h s) k i ≡ 0)
  compact_leaves_no_empty_table k other in_use =
      not_all_zero (compacted h s) k (used_inside compact_keeps_sound k in_use) (none_empty k other in_use)

  -- AGAIN, IT CHANGES NOTHING: neither a word nor a number, and answers the same
  pub compact_again_changes_nothing : compacted h (compacted h s) ≡ compacted h s
  compact_again_changes_nothing = compact_none compact_keeps_shape compact_keeps_sound none_empty

  -- NEVER MORE TABLES: those that are freed are counted
  pub compact_frees : used (compacted h s).ledger + emptied (3 - h.level) (root_tree h s) ≡ used s.ledger
  compact_frees =
      let after = leaves-used leaves in
      let before = used_tree shape P in
      let balance = compact_count (3 - h.level) (root_tree h s) in
      omega arith

  pub compact_never_more_tables : used (compacted h s).ledger ≤ used s.ledger
  compact_never_more_tables = let balance = compact_frees in omega arith

-- a second call gives the first one's answer and pool
pub compact_again_answers : {h : Handle} {s : St} → Shaped h s → SoundPool h s → compact_call h (compact_call h s).state ≡ compact_call h s
compact_again_answers {h} {s} shape P =
    let again = compact_again_changes_nothing shape P in
    ap (λ (o : Out Counted). compact_call h o.state) (compact_answers shape P)
    ∙ compact_answers (compact_keeps_shape shape P) (compact_keeps_sound shape P)
    ∙ ap (λ (t : St). out (Ok (used t.ledger)) t) again
    ∙ sym (compact_answers shape P)
