-- What the test of a hanging table says, part by part.
use Rattle.std.specs.Prelude.{◌≡◌, ◌&&◌, ℕ, suc, ◌<◌, T, eqb, ltb}
use Rattle.std.proofs.Common.{eqb→eq, ltb→lt, lt→ltb}
use Rattle.laws.specs.Test.{and_l, and_r, and_i, eq→eqb}
use Rattle.entry.specs.Word.{link_of}
use Rattle.pool.specs.State.{St, word_at, number_at}
use Rattle.pool.specs.Number.{level_of, parent_of, slot_of}
use Rattle.pool.specs.Sound.{namesb, hangsb}

-- a table whose number names a slot
abbrev pub Named : St → ℕ → Type 0
Named s k = T (namesb (number_at s k))

pub record Hangs (base : ℕ) (s : St) (k : ℕ) : Type 0 where
  pub named : Named s k
  pub deeper : level_of (number_at s k) ≡ suc (level_of (number_at s (parent_of (number_at s k))))
  pub parent : 0 < number_at s (parent_of (number_at s k))
  pub says : word_at s (parent_of (number_at s k)) (slot_of (number_at s k)) ≡ link_of base k

pub hangs_to : (base : ℕ) (s : St) (k : ℕ) → T (hangsb base s k) → Hangs base s k
unfolding hangsb
hangs_to base s k t =
    let x = number_at s k in
    let y = number_at s (parent_of x) in
    let deeper = eqb (level_of x) (suc (level_of y)) in
    let says = eqb (word_at s (parent_of x) (slot_of x)) (link_of base k) in
    let u = and_r (namesb x) (deeper && (ltb 0 y && says)) t in
    let v = and_r deeper (ltb 0 y && says) u in
    record {
      named = and_l (namesb x) (deeper && (ltb 0 y && says)) t;
      deeper = eqb→eq (level_of x) (suc (level_of y)) (and_l deeper (ltb 0 y && says) u);
      parent = ltb→lt 0 y (and_l (ltb 0 y) says v);
      says = eqb→eq (word_at s (parent_of x) (slot_of x)) (link_of base k) (and_r (ltb 0 y) says v);
    }

pub hangs_of : (base : ℕ) (s : St) (k : ℕ) → Hangs base s k → T (hangsb base s k)
unfolding hangsb
hangs_of base s k p =
    let x = number_at s k in
    let y = number_at s (parent_of x) in
    and_i (namesb x) _ p.named
    (and_i (eqb (level_of x) (suc (level_of y))) _ (eq→eqb (level_of x) (suc (level_of y)) p.deeper)
    (and_i (ltb 0 y) _ (lt→ltb 0 y p.parent) (eq→eqb (word_at s (parent_of x) (slot_of x)) (link_of base k) p.says)))
