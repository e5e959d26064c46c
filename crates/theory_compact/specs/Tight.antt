-- A pool with no empty table but the root: so its tree says, and so its words; compact changes nothing in it.
use Rattle.std.specs.Prelude.{◌≡◌, false, ◌≢◌}
use Rattle.std.proofs.Math.Path.{refl}
use Rattle.std.proofs.Common.{sym, ap, ◌∙◌, subst, arith}
use Prim.Native.Nat.{ℕ, zero, suc, ◌-◌, ◌<◌}
use Rattle.laws.specs.Slot.{iter}
use Rattle.pool.specs.State.{St, number_at}
use Rattle.pool.specs.declared.Handle.{Handle}
use Rattle.theory_forest.specs.Tree.{tree_at_node}
use Rattle.theory_forest.specs.Sound.{State, Codec, Refers, Sound}
use Rattle.theory_forest.specs.Under.{Under, LevelsLeft, under-zero}
use Rattle.theory_forest.proofs.Under.{under_via, refers_level}
use Rattle.theory_forest.proofs.Hang.{root_not_hung}
use Rattle.theory_forest.specs.Frame.{tree_of}
use Rattle.theory_forest.proofs.Frame.{slot_refers}
use Rattle.theory_forest.specs.Compact.{empty_words, empty_tree, empty_tree_lem}
use Rattle.theory_tree.specs.Compact.{Tight}
use Rattle.theory_sound.specs.Codec.{Placed, codec_of, slot_word, view, root_tree}
use Rattle.theory_sound.specs.Clauses.{InUse, SoundPool}
use Rattle.theory_sound.proofs.Generic.{pool_sound}
use Rattle.theory_sound.proofs.Hanging.{root_left, root_under}
use Rattle.theory_sound.specs.Step.{Ready}
use Rattle.theory_sound.proofs.Step.{used_inside, refers_ready}
use Rattle.theory_sound.specs.Slot.{SlotHolds, holds_table, holds_leaf}
use Rattle.theory_sound.proofs.Slot.{holds}
use Rattle.compact_spec.specs.Compact.{all_zero, table_words, release_empty, compact_entry, compact_table, release_kept}
use Rattle.compact_spec.specs.Compact.{entry-table, entry_leaf}
use Rattle.theory_compact.specs.Empty.{empty_is}

-- ---- what the tree says of the tables under its top

module _ {C : Codec} {s : State} (S : Sound C s) where
  tight_slot : (depth k i c : ℕ) → i < 512 → Refers C s k i c → Tight (suc depth) (tree_of C s (suc depth) k)
      → (empty_tree (tree_of C s depth c) ≡ false) × Tight depth (tree_of C s depth c)
  tight_slot depth k i c inside r tight =
      rw (← slot_refers depth r) (subst (Tight (suc depth)) (tree_at_node C.child (suc depth) s.word k) tight i inside)

  tight_under : (depth k : ℕ) → LevelsLeft C s k depth → Tight depth (tree_of C s depth k) → (d j : ℕ) → Under C s k (suc d) j
      → empty_words (s.word j) ≡ false
  tight_under zero k low tight d j under = absurd (omega (arith, low, under.deep, C.level_le (s.ledger j)))
  tight_under (suc depth) k low tight d j under =
      let via = under_via S under in
      let r = via.refers in
      let inside : via.slot < 512 = rw (← r.at) (C.slot_lt (s.ledger via.top)) in
      let at = tight_slot depth k via.slot via.top inside r tight in
      go via.top via.deep via.under at.0
      (λ m below. tight_under depth via.top (omega (arith, low, refers_level r)) at.1 m j below)
    where
      go : (c m : ℕ) → Under C s c m j → empty_tree (tree_of C s depth c) ≡ false
          → ((m : ℕ) → Under C s c (suc m) j → empty_words (s.word j) ≡ false)
          → empty_words (s.word j) ≡ false
      go c zero below here deeper =
          ap (λ (q : ℕ). empty_words (s.word q)) (under-zero below) ∙ sym (empty_tree_lem C.child depth s.word c) ∙ here
      go c (suc m) below here deeper = deeper m below

-- ---- no table but the root is all zero

abbrev pub NoneEmpty : St → Type 0
NoneEmpty s = (k : ℕ) → k ≢ 0 → InUse s k → all_zero (table_words s k) ≡ false

pub tight_none : {h : Handle} {s : St} (placed : Placed h) → SoundPool h s → Tight (3 - h.level) (root_tree h s) → NoneEmpty s
tight_none {h} {s} placed P tight k other used =
    empty_is s k (used_inside P k used) ∙ go (root_under placed P used).0 (root_under placed P used).1
  where
    go : (d : ℕ) → Under (codec_of h placed) (view s) 0 d k → empty_words (slot_word s k) ≡ false
    go zero under = absurd (other (under-zero under))
    go (suc d) under = tight_under (pool_sound placed P) (3 - h.level) 0 (root_left placed P) tight d k under

-- ---- such a pool is left as it is

iter-same : (f : ℕ → St → St) (s : St) (n : ℕ) → ((i : ℕ) → i < n → f i s ≡ s) → iter f n s ≡ s
unfolding iter
iter-same f s zero same = refl
iter-same f s (suc n) same = ap (f n) (iter-same f s n (λ i l. same i (omega arith))) ∙ same n (omega arith)

module _ {h : Handle} (placed : Placed h) {s : St} (none : NoneEmpty s) where
  -- one entry, where nothing is done one level down
  entry-same : (rec : ℕ → St → St) (depth k i : ℕ) → Ready h s (suc depth) k → i < 512 → ((j : ℕ) → Ready h s depth j → rec j s ≡ s)
      → compact_entry rec h k (3 - suc depth) i s ≡ s
  entry-same rec depth k i R inside below = go (holds placed R i inside)
    where
      go : SlotHolds placed s depth k i → compact_entry rec h k (3 - suc depth) i s ≡ s
      go (holds_table c r both leads shows) =
          let other : c ≢ 0 =
          λ e. root_not_hung {C = codec_of h placed} {s = view s} {k = c} (e, ap (number_at s) e ∙ R.pool.root) r.hung in
          sym (entry-table rec h k (3 - suc depth) i s refl c leads)
          ∙ ap (release_empty k i c) (below c (refers_ready placed R r))
          ∙ sym (release_kept k i c s (none c other r.used))
      go (holds_leaf other plain) = sym (entry_leaf rec h k (3 - suc depth) i s refl plain.leads)

  pub table_same : (depth k : ℕ) → Ready h s depth k → compact_table depth h k s ≡ s
  unfolding compact_table
  table_same zero k R = refl
  table_same (suc depth) k R =
      iter-same (compact_entry (λ j t. compact_table depth h j t) h k (3 - suc depth)) s 512
      (λ i l. entry-same (λ j t. compact_table depth h j t) depth k i R l (λ j low. table_same depth j low))
