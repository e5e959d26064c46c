-- The lent pool as one value: its state, and what a call that writes it leaves as it was. Leans on `State`.
use Rattle.std.specs.Prelude.{◌≡◌, refl, length}
use Rattle.std.proofs.Common.{◌∙◌, ap₂, arith}
use Rattle.pool.specs.State.{St, st}
use Rattle.pool.specs.Refuse.{Shaped}
use Rattle.pool.specs.declared.lent.Pool.{Pool}
use Rattle.pool.specs.declared.lent.PoolMut.{PoolMut}

-- the state of a pool that is read, and of one that is written
abbrev pub read_state : Pool → St
read_state p = st p.words.now p.ledger.now

abbrev pub lent : PoolMut → St
lent p = st p.words.now p.ledger.now

-- the same lent words and ledger, as long as they were, under the same handle
pub record KeepsLent (a b : PoolMut) : Type 0 where
  pub words : b.words.ghost_name ≡ a.words.ghost_name
  pub ledger : b.ledger.ghost_name ≡ a.ledger.ghost_name
  pub handle : b.handle ≡ a.handle
  pub sizes : length b.words.now ≡ length a.words.now
  pub tables : length b.ledger.now ≡ length a.ledger.now

-- what is read is what is lent
pub read_lent : (p : Pool) (q : PoolMut) → p.words.now ≡ q.words.now → p.ledger.now ≡ q.ledger.now → read_state p ≡ lent q
read_lent p q words ledger = ap₂ st words ledger

-- a shape is read as it is lent
pub shaped_read : (p : Pool) (q : PoolMut) → Shaped q.handle (lent q) → p.handle ≡ q.handle → read_state p ≡ lent q
    → Shaped p.handle (read_state p)
shaped_read p q shape handle state = rw (handle, state) shape

-- nothing done keeps all, and so do two calls in turn
pub keeps_all : (p : PoolMut) → KeepsLent p p
keeps_all p = record { words = refl; ledger = refl; handle = refl; sizes = refl; tables = refl }

pub keeps_on : (p q r : PoolMut) → KeepsLent p q → KeepsLent q r → KeepsLent p r
keeps_on p q r before after =
    record {
      words = after.words ∙ before.words;
      ledger = after.ledger ∙ before.ledger;
      handle = after.handle ∙ before.handle;
      sizes = after.sizes ∙ before.sizes;
      tables = after.tables ∙ before.tables;
    }

-- a shape is kept
pub shaped_kept : (p q : PoolMut) → Shaped p.handle (lent p) → KeepsLent p q → Shaped q.handle (lent q)
shaped_kept p q shape keeps =
    let h = keeps.handle in
    record {
      some = omega (arith, shape.some, keeps.tables);
      limit = omega (arith, shape.limit, keeps.tables);
      sized = omega (arith, shape.sized, keeps.sizes, keeps.tables);
      paged = rw h shape.paged;
      ended = rw h omega (arith, shape.ended, keeps.tables);
      level = rw h shape.level;
    }
