-- Refusal 9: the tables that are free, and those that the map needs.
use Rattle.std.proofs.Common.{◌≡◌, ℕ, ◌-◌, ◌<◌, List, true, length, sym, ap₂, ◌∙◌, arith}
use Rattle.pool.specs.Lent.{read_state, lent, read_lent}
use Rattle.pool.specs.State.{St, st}
use Rattle.pool.specs.Number.{used, free, used-free}
use Rattle.pool.specs.Sound.{soundb}
use Rattle.pool.specs.Refuse.{Shaped, out}
use Rattle.pool.specs.declared.Handle.{Handle}
use Rattle.pool.specs.declared.lent.Pool.{Pool}
use Rattle.pool.specs.declared.lent.PoolMut.{PoolMut}
use Rattle.pool.specs.declared.Refusal.TheVariants.{WantOfRoom}
use Rattle.checker.specs.Call.{sound_count, count_sound}
use Rattle.map_rules.specs.declared.Map.{Map}
use Rattle.map_count_spec.specs.Needed.{needed}
use Rattle.map_count_spec.specs.Closed.{closed}
use Rattle.map_count.specs.Laws.{over, over_past}
use Rattle.map_count_spec.proofs.SoundCount.{closed-needed}
use Rattle.map_start.specs.Start.{Serves}
use Rattle.map_spec.specs.Call.{map_sound, sound_full}
use Rattle.std.specs.Prelude.{Err, Option, Some}

-- a place that serves the pool as it is read serves it as it is lent
pub served : (p : Pool) (h : Handle) (s : St) (m : Map) (k level : ℕ) → p.handle ≡ h → read_state p ≡ s
    → Serves p.handle m (read_state p) k level
    → Serves h m s k level
served p h s m k level handle state serves = rw (sym handle, sym state) serves

-- what is counted in the pool as it is read is counted in it as it is lent
pub found : (p : Pool) (q : PoolMut) {x : Option ℕ} → p.words.now ≡ q.words.now → p.ledger.now ≡ q.ledger.now → p.handle ≡ q.handle
    → x ≡ sound_count p.handle (read_state p) → x ≡ sound_count q.handle (lent q)
found p q words ledger handle e = e ∙ ap₂ sound_count handle (read_lent p q words ledger)

-- refusal 9's count, as it is computed, is document 01's in a sound pool
pub counts : (h : Handle) (s : St) (m : Map) → Shaped h s → soundb h s ≡ true → closed (3 - h.level) h s 0 m ≡ needed (3 - h.level) h s 0 m
counts h s m shape is = closed-needed h s shape (rw is tt) m

pub room : (l : List ℕ) (n : ℕ) → n ≡ used l → length l - n ≡ free l
room l n e = let u = used-free l in omega arith

pub full : (h : Handle) (m : Map) (words ledger : List ℕ) (x y : ℕ) {n : ℕ} {f : Option ℕ} → Shaped h (st words ledger)
    → f ≡ sound_count h (st words ledger) → f ≡ Some n
    → y ≡ length ledger - n
    → x ≡ over (length ledger - n) (closed (3 - h.level) h (st words ledger) 0 m)
    → y < x
    → out (Err (WantOfRoom x y)) (st words ledger) ≡ map_sound h m (st words ledger)
full h m words ledger x y {n} shape found is spare over less =
    let s = st words ledger in
    let sound = count_sound h s found n is in
    let more : length ledger - n < x = omega arith in
    sound_full h m s sound.0 (over_past _ _ over more ∙ counts h s m shape sound.0) (spare ∙ room ledger n sound.1) less
