-- Theorems about the definitions of specs/Take.
use Rattle.std.specs.Prelude.{◌≡◌, List, ◌≢◌, ℕ, suc, ◌+◌, ◌*◌, ◌≤◌, ◌<◌, length, get_or, set, Some}
use Rattle.std.proofs.Common.{sym, ap, ◌∙◌, arith}
use Rattle.std.proofs.Math.ListN.{length-set, get_or-eq_default}
use Rattle.std.proofs.Math.Seq.{get_or-set_same, get_or-set_other}
use Rattle.entry.specs.Word.{link_of}
use Rattle.pool.specs.State.{St, st, word_at, number_at}
use Rattle.pool.specs.Number.{level_of, number_of, Names, parent_back, slot_back, number_names, lowest_free, LowestFree, lowest_found}
use Rattle.pool.specs.Number.{level_back}
use Rattle.pool_table.specs.Table.{put_table, length-table, take_at}
use Rattle.pool.specs.declared.Handle.{Handle}
use Rattle.theory_forest.specs.Tree.{leaf, node}
use Rattle.theory_forest.specs.Sound.{TableWord}
use Rattle.theory_forest.specs.Split.{Splits, SplitFits}
use Rattle.theory_forest.proofs.Split.{new_tree}
use Rattle.theory_forest.proofs.Move.{work_skip, split_at, move_split}
use Rattle.theory_sound.specs.Codec.{Placed, over_names, number_pos, codec_of, view}
use Rattle.theory_sound.specs.Clauses.{InUse, level_at, SoundPool}
use Rattle.theory_sound.proofs.Generic.{pool_sound}
use Rattle.theory_sound.specs.Lists.{TableInside, SameSize, store_here, store_other, put_here, put_other}
use Rattle.theory_sound.specs.Step.{Stands, not_table, Step}
use Rattle.theory_sound.proofs.Step.{stands_fits, used_inside}

-- ---- the step

module _ {h : Handle} (placed : Placed h) {s : St} (P : SoundPool h s) (p level i : ℕ) (t : List ℕ) (f : ℕ)
    (in_use : InUse s p) (inside : i < 512) (below : level ≡ level_at s p + 1) (high : level ≤ 3) (full : length t ≡ 512)
    (found : lowest_free s.ledger ≡ Some f) where
  lowest : LowestFree s.ledger f
  lowest = lowest_found s.ledger f found

  abbrev after : St
  after = take_at h p level i t f s

  apart : p ≢ f
  apart same = omega (arith, in_use, lowest.free, ap (number_at s) same)

  at : TableInside s f
  at = omega (arith, lowest.inside, P.sized)

  pub take-splits : Splits (codec_of h placed) (view s) (view after) p i f (number_of p level i) (λ j. get_or t j 0)
  unfolding take_at
  take-splits = record {
    linked =
        store_here filled p i (link_of h.base.0 f) inside (omega (arith, used_inside P p in_use, length-table f t s.words full at));
    filled =
        λ j. store_other filled p i (link_of h.base.0 f) inside f j (λ e. apart (sym e.0))
        ∙ put_here s (set s.ledger f (number_of p level i)) t f full at j;
    number = get_or-set_same s.ledger f (number_of p level i) 0 lowest.inside;
    words =
        λ k j other off. store_other filled p i (link_of h.base.0 f) inside k j off
        ∙ put_other s (set s.ledger f (number_of p level i)) t f full at k j other;
    ledger = λ k other. get_or-set_other s.ledger f k (number_of p level i) 0 other;
  }
    where
      filled : St
      filled = st (put_table f t s.words) (set s.ledger f (number_of p level i))

  pub take-size : SameSize s after
  unfolding take_at
  take-size = record {
    same_tables = length-set s.ledger f (number_of p level i);
    same-words = length-set (put_table f t s.words) (512 * p + i) (link_of h.base.0 f) ∙ length-table f t s.words full at;
  }

  module _ (stands : (j : ℕ) → j < 512 → Stands h level (get_or t j 0)) where
    pub take_fit : SplitFits (codec_of h placed) (view s) p i f (number_of p level i) (λ j. get_or t j 0)
    take_fit = record {
      well = names;
      used = number_pos p level i;
      level = own ∙ (let e : level ≡ suc (level_at s p) = omega arith in e);
      over = over_names f (number_of p level i) names ∙ parent_back p level i (omega arith) inside;
      slot = slot_back p level i (omega arith) inside;
      fits = λ j small. stands_fits h placed (number_of p level i) (rw own (stands j small));
      wide = λ j past. get_or-eq_default t 0 (omega arith);
    }
      where
        names : Names (number_of p level i)
        names = number_names p level i (omega arith) inside

        own : level_of (number_of p level i) ≡ level
        own = level_back p level i (omega arith)

    -- TAKE: the slot now shows a table of the leaves t
    pub take_step : (depth : ℕ) → level + depth ≡ 3 → ¬ (TableWord (level_at s p) (word_at s p i))
        → Step h placed s after (suc depth) p i (node (λ j. leaf (get_or t j 0)))
    take_step depth low old =
        let S = pool_sound placed P in
        let none = not_table placed s p i inside old in
        let low' : level_of (number_of p level i) + depth ≡ 3 = rw (level_back p level i (omega arith)) low in
        let S' = (split_at S take-splits take_fit in_use inside none lowest.free).sound in
        record {
          move = move_split S take-splits take_fit in_use inside none lowest.free depth
              (record {
                over = (work_skip S' depth f).over;
                tree = new_tree S take-splits take_fit in_use inside none lowest.free depth low';
              });
          size = take-size;
        }
