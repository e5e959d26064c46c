-- Theorems about the definitions of specs/Step.
use Rattle.std.specs.Prelude.{◌≡◌, ℕ, suc, ◌-◌, ◌≤◌}
use Rattle.std.proofs.Common.{ap, ◌∙◌, arith}
use Rattle.pool.specs.State.{St, number_at, used_in}
use Rattle.pool.specs.Number.{level_of, used}
use Rattle.pool.specs.Refuse.{Shaped, shaped_keep}
use Rattle.pool.specs.Sound.{flag_set}
use Rattle.pool.specs.declared.Handle.{Handle}
use Rattle.theory_forest.specs.Tree.{Tree}
use Rattle.theory_forest.specs.Sound.{Refers, Sound}
use Rattle.theory_forest.proofs.Under.{refers_level}
use Rattle.theory_forest.specs.Keep.{Fits}
use Rattle.theory_forest.specs.Place.{below_self}
use Rattle.theory_forest.proofs.Place.{slot_self}
use Rattle.theory_forest.specs.Nodes.{nodes}
use Rattle.theory_sound.specs.Codec.{Placed, shaped_placed, codec_of, view, zero_leaf_lem}
use Rattle.theory_sound.specs.Clauses.{InUse, SoundPool}
use Rattle.theory_sound.proofs.Generic.{says_leaf, sound_pool, leaf_says}
use Rattle.theory_sound.proofs.Hanging.{root_used, root_left, used_tree}
use Rattle.theory_sound.specs.Lists.{TableInside, SameSize}
use Rattle.theory_sound.specs.Step.{Stands, Ready, Step, Worked, Leaves}

module _ (h : Handle) where
  pub stands_fits : (placed : Placed h) (x : ℕ) {v : ℕ} → Stands h (level_of x) v → Fits (codec_of h placed) x v
  stands_fits placed x {v} stands =
      record { plain = stands.plain; good = says_leaf (flag_set h) (level_of x) v (omega arith) stands.leaf }

  pub zero_stands : (level : ℕ) → level ≤ 3 → Stands h level 0
  zero_stands level low =
      record { plain = λ table. omega (arith, table.1); leaf = leaf_says (flag_set h) level 0 low (zero_leaf_lem (flag_set h) level) }

-- a used table of a sound pool stands in the words
pub used_inside : {h : Handle} {s : St} → SoundPool h s → (k : ℕ) → InUse s k → TableInside s k
used_inside {s = s} P k used = omega (arith, P.sized, used_in s k used)

-- the root of a sound pool is ready
pub root_ready : {h : Handle} {s : St} → Shaped h s → SoundPool h s → Ready h s (3 - h.level) 0
root_ready shape P = record { shape = shape; pool = P; used = root_used P; low = root_left (shaped_placed shape) P }

-- a table that a slot of a ready table refers to is ready
pub refers_ready : {h : Handle} (placed : Placed h) {s : St} {depth k i e : ℕ} → Ready h s (suc depth) k
    → Refers (codec_of h placed) (view s) k i e → Ready h s depth e
refers_ready placed R r = record { shape = R.shape; pool = R.pool; used = r.used; low = omega (arith, R.low, refers_level r) }

-- ---- what follows of a step

module _ {h : Handle} {s s' : St} (size : SameSize s s') where
  -- SOUND AGAIN, in lists as long as before
  pub pool_again : (placed : Placed h) → SoundPool h s → Sound (codec_of h placed) (view s') → SoundPool h s'
  pool_again placed P S = sound_pool placed (omega (arith, P.sized, size.same_tables, size.same-words)) S

  pub shaped_again : Shaped h s → Shaped h s'
  shaped_again shape = shaped_keep h s s' shape size.same-words size.same_tables

  -- a table whose number stays is still ready
  pub ready_again : {depth k : ℕ} (placed : Placed h) → Ready h s depth k → Sound (codec_of h placed) (view s')
      → number_at s' k ≡ number_at s k → Ready h s' depth k
  ready_again placed R S own =
      record { shape = shaped_again R.shape; pool = pool_again placed R.pool S; used = rw own R.used; low = rw own R.low }

module _ {h : Handle} {placed : Placed h} {s s' : St} {depth p : ℕ} {t : Tree} where
  pub step_pool : {i : ℕ} → SoundPool h s → Step h placed s s' depth p i t → SoundPool h s'
  step_pool P step = pool_again step.size placed P step.move.at.sound

  pub step_ready : {i : ℕ} → Ready h s depth p → Step h placed s s' depth p i t → Ready h s' depth p
  step_ready R step = ready_again step.size placed R step.move.at.sound (step.move.at.ledger p R.used slot_self)

  pub worked_ready : Ready h s depth p → Worked h placed s s' depth p t → Ready h s' depth p
  worked_ready R done = ready_again done.size placed R done.work.over.sound (done.work.over.ledger p R.used below_self)

pub root_leaves : {h : Handle} {placed : Placed h} {s s' : St} {t : Tree} → Shaped h s → SoundPool h s
    → Worked h placed s s' (3 - h.level) 0 t → Leaves h s s' t
root_leaves shape P done =
    let ready = worked_ready (root_ready shape P) done in
    record { shape = ready.shape; pool = ready.pool; size = done.size; tree = done.work.tree }

-- the tables in use are the nodes of the tree that the root shows
pub leaves-used : {h : Handle} {s s' : St} {t : Tree} → Leaves h s s' t → used s'.ledger ≡ nodes t
leaves-used left = used_tree left.shape left.pool ∙ ap nodes left.tree
