-- A split of a hole, as `split_entry` carries it out.
use Rattle.std.proofs.Common.{◌≡◌, List, ℕ, ◌+◌, ◌*◌, ◌%◌, get_or, ap, ◌∙◌}
use Rattle.entry.specs.Word.{flags_of}
use Rattle.pool.specs.State.{st, word_at}
use Rattle.pool.specs.declared.Handle.{Handle}
use Rattle.pool_table.specs.Table.{Taken, take_table, rising}
use Rattle.map_rules.specs.Laws.{fill_hole}
use Rattle.map_split.specs.Split.{split_entry, split_is}

pub split_hole : (h : Handle) (k level i : ℕ) (words ledger : List ℕ) {f : ℕ} {t : Taken}
    → t ≡ take_table h k (level + 1) i (rising 512 f 0) (st words ledger)
    → f ≡ flags_of (get_or words (512 * k + i) 0)
    → (get_or words (512 * k + i) 0 % 2 ≡ 1 → ⊥)
    → t ≡ split_entry h k level i (st words ledger)
split_hole h k level i words ledger e f n =
    e ∙ split_is h k level i (st words ledger) _ (ap (λ (x : ℕ). rising 512 x 0) f ∙ fill_hole level (word_at (st words ledger) k i) n)
