-- The refusal slip: each refusal's number and what it carries; refusal 1; the first that is refused; an answer
-- together with the state that it leaves.
use Rattle.std.specs.Prelude.{Bool, ◌&&◌, List, [], ◌∷◌, ◌≡◌, ℕ, ◌+◌, ◌*◌, ◌%◌, ◌^◌, ◌≤◌, T, eqb, leb, length}
use Rattle.std.proofs.Common.{sym, arith, leb→le, le→leb, eqb→eq}
use Rattle.std.proofs.Math.Path.{ap}
use Rattle.laws.specs.Test.{and_l, and_r, and_i, eq→eqb}
use Rattle.pool.specs.State.{St, tables}
use Rattle.pool.specs.declared.Handle.{Handle}
use Rattle.pool.specs.declared.Refusal.{Refusal}
use Rattle.pool.specs.declared.Refusal.TheVariants.{Shape, End, InvalidFlags, FlagSet, RegionBackwards, AddressRange, Frame, Unsound}
use Rattle.pool.specs.declared.Refusal.TheVariants.{WantOfRoom, HouseRule, Short}
use Rattle.std.specs.Prelude.{Result, Err, Ok}

-- document 01, "The refusal slip": No.
abbrev pub number : Refusal → ℕ
number Shape = 1
number (End end) = 2
number (InvalidFlags flags) = 3
number (FlagSet flags) = 4
number (RegionBackwards region) = 5
number (AddressRange address) = 6
number (Frame frame) = 7
number Unsound = 8
number (WantOfRoom needed free) = 9
number (HouseRule word) = 10
number (Short needed) = 11

-- Carries
abbrev pub carried : Refusal → List ℕ
carried Shape = []
carried (End end) = end ∷ []
carried (InvalidFlags flags) = flags ∷ []
carried (FlagSet flags) = flags ∷ []
carried (RegionBackwards region) = region.start.0 ∷ region.end.0 ∷ []
carried (AddressRange address) = address.0 ∷ []
carried (Frame frame) = frame.0 ∷ []
carried Unsound = []
carried (WantOfRoom needed free) = needed ∷ free ∷ []
carried (HouseRule word) = word ∷ []
carried (Short needed) = needed ∷ []

-- n goes up to this
unfoldable pub max_tables : ℕ
max_tables = 4096

-- refusal 1 is given exactly when this fails: n from 1 to the limit, lengths that agree, a base that is a multiple of 4096 with its end at
-- 2^48 at most, a root level from 0 to 3
unfoldable pub shaped : Handle → St → Bool
shaped h s =
    leb 1 (tables s) && (leb (tables s) max_tables && (eqb (length s.words) (512 * tables s)
    && (eqb (h.base.0 % 4096) 0 && (leb (h.base.0 + 4096 * tables s) (2 ^ 48) && leb h.level 3))))

-- what it says, part by part
pub record Shaped (h : Handle) (s : St) : Type 0 where
  pub some : 1 ≤ tables s
  pub limit : tables s ≤ max_tables
  pub sized : length s.words ≡ 512 * tables s
  pub paged : h.base.0 % 4096 ≡ 0
  pub ended : h.base.0 + 4096 * tables s ≤ 2 ^ 48
  pub level : h.level ≤ 3

pub shaped-says : (h : Handle) (s : St) → T (shaped h s) → Shaped h s
unfolding shaped
shaped-says h s t =
    let n = tables s in
    let a = leb 1 n in
    let b = leb n max_tables in
    let c = eqb (length s.words) (512 * n) in
    let d = eqb (h.base.0 % 4096) 0 in
    let e = leb (h.base.0 + 4096 * n) (2 ^ 48) in
    let f = leb h.level 3 in
    let t₁ = and_r a (b && (c && (d && (e && f)))) t in
    let t₂ = and_r b (c && (d && (e && f))) t₁ in
    let t₃ = and_r c (d && (e && f)) t₂ in
    let t₄ = and_r d (e && f) t₃ in
    record {
      some = leb→le 1 n (and_l a (b && (c && (d && (e && f)))) t);
      limit = leb→le n max_tables (and_l b (c && (d && (e && f))) t₁);
      sized = eqb→eq (length s.words) (512 * n) (and_l c (d && (e && f)) t₂);
      paged = eqb→eq (h.base.0 % 4096) 0 (and_l d (e && f) t₃);
      ended = leb→le (h.base.0 + 4096 * n) (2 ^ 48) (and_l e f t₄);
      level = leb→le h.level 3 (and_r e f t₄);
    }

pub says-shaped : (h : Handle) (s : St) → Shaped h s → T (shaped h s)
unfolding shaped
says-shaped h s p =
    let n = tables s in
    and_i (leb 1 n) _ (le→leb 1 n p.some)
    (and_i (leb n max_tables) _ (le→leb n max_tables p.limit)
    (and_i (eqb (length s.words) (512 * n)) _ (eq→eqb (length s.words) (512 * n) p.sized)
    (and_i (eqb (h.base.0 % 4096) 0) _ (eq→eqb (h.base.0 % 4096) 0 p.paged)
    (and_i (leb (h.base.0 + 4096 * n) (2 ^ 48)) (leb h.level 3) (le→leb (h.base.0 + 4096 * n) (2 ^ 48) p.ended)
    (le→leb h.level 3 p.level)))))

-- the answer of a call that has nothing more to say than that it was done
abbrev pub Outcome : Type 0
Outcome = Result (Unit {0}) Refusal

-- it was done
abbrev pub granted : Outcome
granted = Ok tt

-- the answer of a call that changes tables: those in use afterwards, counted off the ledger
abbrev pub Counted : Type 0
Counted = Result ℕ Refusal

-- an answer and the state that it leaves
pub record Out (A : Type 0) : Type 0 where
  pub answer : A
  pub state : St

abbrev pub out : {A : Type 0} → A → St → Out A
out a s = record { answer = a; state = s }

-- a refusal leaves the state as it was
abbrev pub refuse : Refusal → St → Out Outcome
refuse r s = out (Err r) s

-- "Lowest number first" (document 01, "The refusal slip"): where what is asked is refused, `refused` makes the answer of the refusal; where
-- it is accepted, what comes next is the answer
unfoldable pub first_refused : {A : Type 0} → (Refusal → A) → Outcome → A → A
first_refused refused (Ok tt) next = next
first_refused refused (Err r) next = refused r

module _ {A : Type 0} (refused : Refusal → A) (x : Outcome) (next : A) where
  pub accepted_next : x ≡ granted → next ≡ first_refused refused x next
  unfolding first_refused
  accepted_next e = ap (λ (y : Outcome). first_refused refused y next) (sym e)

  pub refused-first : (r : Refusal) → x ≡ Err r → refused r ≡ first_refused refused x next
  unfolding first_refused
  refused-first r e = ap (λ (y : Outcome). first_refused refused y next) (sym e)

-- a shape is a matter of lengths
pub shaped_keep : (h : Handle) (s t : St) → Shaped h s → length t.words ≡ length s.words → tables t ≡ tables s → Shaped h t
shaped_keep h s t p w l = record {
  some = omega (arith, p.some);
  limit = omega (arith, p.limit);
  sized = omega (arith, p.sized);
  paged = p.paged;
  ended = omega (arith, p.ended);
  level = p.level;
}
