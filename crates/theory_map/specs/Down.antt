-- Rule 5: the way down from a slot of a sound pool's table, "splitting first if there is no table": to the table that is there or to a new
-- one, and what work done in it does to the slot.
use Rattle.std.specs.Prelude.{◌≡◌, refl, ℕ, suc, ◌+◌, ◌-◌, ◌≤◌, ◌<◌, Some}
use Rattle.std.proofs.Common.{sym, ap, subst, ◌∙◌, arith}
use Rattle.pool.specs.State.{St, word_at}
use Rattle.pool.specs.Number.{lowest_free, free}
use Rattle.pool.specs.declared.Handle.{Handle}
use Rattle.pool_table.specs.Table.{taken}
use Rattle.map_rules.specs.Rules.{fill_of}
use Rattle.map_split.specs.Split.{below, split_is, below-table, below_split}
use Rattle.theory_forest.specs.Tree.{Tree, leaf, node, tree_at_node}
use Rattle.theory_sound.specs.Alloc.{free_found}
use Rattle.theory_sound.specs.Codec.{Placed, child_of, slot_word, tree_from}
use Rattle.theory_sound.specs.Take.{take_is, take-free}
use Rattle.theory_sound.specs.Step.{Ready}
use Rattle.theory_sound.proofs.Step.{refers_ready}
use Rattle.theory_sound.specs.Slot.{slot_shows, SlotHolds, holds_table, holds_leaf}
use Rattle.theory_sound.proofs.Slot.{holds}
use Rattle.theory_tree.specs.Visit.{opened, splits, fill_tree}
use Rattle.theory_map.specs.Moves.{StepWithin, WorkedWithin, entered, after, taken_ready, taken_shows, split}

splits_leaf : (depth w : ℕ) → (splits (leaf w) ≡ 1) × (opened depth (leaf w) ≡ fill_tree depth w)
unfolding splits opened
splits_leaf depth w = (refl, refl)

splits_node : (depth : ℕ) (f : ℕ → Tree) → (splits (node f) ≡ 0) × (opened depth (node f) ≡ node f)
unfolding splits opened
splits_node depth f = (refl, refl)

module _ {h : Handle} (placed : Placed h) where
  -- the table below slot i of table k, as it stands then: table `table` of the pool `state`
  pub record Opens (s : St) (depth k i : ℕ) : Type 0 where
    pub table : ℕ
    pub state : St
    pub found : taken (Some table) state ≡ below h k (3 - suc depth) i s
    pub ready : Ready h state depth table
    pub shows : tree_from h state depth table ≡ opened depth (slot_shows h s (suc depth) k i)
    pub room : free s.ledger ≡ splits (slot_shows h s (suc depth) k i) + free state.ledger
    pub back : {s' : St} {cost : ℕ} {t : Tree} → WorkedWithin placed state s' depth table t cost
        → StepWithin placed s s' (suc depth) k i t (splits (slot_shows h s (suc depth) k i) + cost)

  module _ {s : St} {depth k : ℕ} (R : Ready h s (suc depth) k) (i : ℕ) (inside : i < 512) where
    abbrev level : ℕ
    level = 3 - suc depth

    pub opens : splits (slot_shows h s (suc depth) k i) ≤ free s.ledger → Opens s depth k i
    opens some = go (holds placed R i inside)
      where
        go : SlotHolds placed s depth k i → Opens s depth k i
        go (holds_table e r both leads shows) =
            let S = splits_node depth (λ j. slot_shows h s depth e j) in
            let none : splits (slot_shows h s (suc depth) k i) ≡ 0 = ap splits shows ∙ S.0 in
            record {
              table = e;
              state = s;
              found = below-table h k level i s refl e leads;
              ready = refers_ready placed R r;
              shows = tree_at_node (child_of h.base.0) depth (slot_word s) e ∙ sym (ap (opened depth) shows ∙ S.1);
              room = omega arith;
              back = λ {s'} {cost} {t} W.
                  let same : cost ≡ splits (slot_shows h s (suc depth) k i) + cost = omega arith in
                  subst (StepWithin placed s s' (suc depth) k i t) same (entered placed R i inside r W);
            }
        go (holds_leaf other plain) =
            let one : splits (slot_shows h s (suc depth) k i) ≡ 1 = ap splits plain.shows ∙ (splits_leaf depth (word_at s k i)).0 in
            new (free_found s.ledger (omega arith)) one
          where
            new : (f : ℕ) × (lowest_free s.ledger ≡ Some f) → splits (slot_shows h s (suc depth) k i) ≡ 1 → Opens s depth k i
            new (f, found) one =
                let words = fill_of level (word_at s k i) in
                record {
                  table = f;
                  state = after placed R i inside plain.plain f found;
                  found = sym (take_is h k (level + 1) i words s f found) ∙ split_is h k level i s words refl
                      ∙ below_split h k level i s refl plain.leads;
                  ready = taken_ready placed R i inside plain.plain f found;
                  shows = taken_shows placed R i inside plain.plain f found
                      ∙ sym (ap (opened depth) plain.shows ∙ (splits_leaf depth (word_at s k i)).1);
                  room = omega (arith, take-free h k (level + 1) i words s f found);
                  back =
                      λ {s'} {cost} {t} W. subst (λ (n : ℕ). StepWithin placed s s' (suc depth) k i t (n + cost)) (sym one)
                      (split placed R i inside plain.plain f found W);
                }
