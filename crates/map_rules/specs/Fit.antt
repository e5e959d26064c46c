-- What refusals 3, 4, 5 and 7 leave of a map: whole pages, frames below 2^48, flags that share no bit with an address; its chunks are such
-- maps too.
use Rattle.std.specs.Prelude.{◌≡◌, Bool, true, false, cond, ℕ, ◌+◌, ◌*◌, ◌-◌, ◌%◌, ◌^◌, ◌≤◌, ◌<◌, leb}
use Rattle.std.proofs.Common.{ap, ◌∙◌, arith, eq-eqb, ne_eqb, le-leb}
use Rattle.std.proofs.Math.Nat.{mul-mod_left}
use Rattle.std.proofs.lemmas.Bool.{lt-leb}
use Rattle.laws.specs.Size.{size_at, size_pages, size_pos, down_paged}
use Rattle.entry.specs.Word.{flags_of, valid, leaf_word, Plain}
use Rattle.address_slot.specs.Slot.{entry_last, chunk_end}
use Rattle.region.specs.Region.{region}
use Rattle.region.specs.Chunks.{chunk-fits}
use Rattle.map_rules.specs.declared.Map.{Map}
use Rattle.map_rules.specs.Rules.{chunk_map}

pub record Fit (m : Map) : Type 0 where
  pub from : m.region.start.0 % 4096 ≡ 0
  pub to : m.region.end.0 % 4096 ≡ 0
  pub some : m.region.start.0 ≤ m.region.end.0
  pub frame : m.frame.0 % 4096 ≡ 0
  pub room : m.frame.0 + (m.region.end.0 - m.region.start.0) ≤ 2 ^ 48
  pub flags : Plain m.flags

-- a frame and flags make a word: nothing carries
pub word_fits : (frame f : ℕ) → frame % 4096 ≡ 0 → frame < 2 ^ 48 → Plain f → frame + f + 2 < 2 ^ 64
unfolding flags_of
word_fits frame f p h q = omega (arith, q.wide, q.bits, q.clear)

-- the words of a split fit 64 bits too, in steps that stay below 2^48
pub steps_fit : (frame f step : ℕ) → frame % 4096 ≡ 0 → frame + 512 * step ≤ 2 ^ 48 → 4096 ≤ step → Plain f
    → frame + f + 2 + 511 * step < 2 ^ 64
unfolding flags_of
steps_fit frame f step p h l q = omega (arith, q.wide, q.bits, q.clear)

-- ---- the word that is written, by its three cases

pub leaf_hole : (level frame f : ℕ) → (f % 2 ≡ 1 → ⊥) → f ≡ leaf_word level frame f
unfolding leaf_word valid
leaf_hole level frame f n = rw (ne_eqb (f % 2) 1 n)

pub leaf_page : (level frame f : ℕ) → f % 2 ≡ 1 → 3 ≤ level → frame + f + 2 ≡ leaf_word level frame f
unfolding leaf_word valid
leaf_page level frame f v h = rw (eq-eqb (f % 2) 1 v, le-leb 3 level h)

pub leaf_block : (level frame f : ℕ) → f % 2 ≡ 1 → level < 3 → frame + f ≡ leaf_word level frame f
unfolding leaf_word valid
leaf_block level frame f v h = rw (eq-eqb (f % 2) 1 v, lt-leb 3 level h)

-- at most two more than frame and flags
pub leaf_most : (level frame f : ℕ) → leaf_word level frame f ≤ frame + f + 2
unfolding leaf_word
leaf_most level frame f = most (valid f) (leb 3 level)
  where
    most : (v p : Bool) → cond v (cond p (frame + f + 2) (frame + f)) f ≤ frame + f + 2
    most true true = omega arith
    most true false = omega arith
    most false p = omega arith

-- ---- a map's chunks fit

-- a chunk ends at a whole page
pub chunk_paged : (level s e : ℕ) → e % 4096 ≡ 0 → chunk_end level s e % 4096 ≡ 0
unfolding chunk_end entry_last
chunk_paged level s e h =
    let p = size_pos level in
    let d = down_paged level s in
    let z : size_at level % 4096 ≡ 0 = ap (λ (g : ℕ). g % 4096) (size_pages level) ∙ mul-mod_left (2 ^ (9 * (3 - level))) 4096 in
    omega arith

-- the chunk's own map fits, and so does what remains
module _ (level at end frame : ℕ) (m : Map) (fit : Fit m) (low : at < end) (from : at % 4096 ≡ 0) (to : end % 4096 ≡ 0)
    (paged : frame % 4096 ≡ 0) (room : frame + (end - at) ≤ 2 ^ 48) where
  pub chunk_fit : Fit (chunk_map m (region at (chunk_end level at end)) frame)
  chunk_fit =
      let c = chunk-fits level at end low in
      record {
        from = from;
        to = chunk_paged level at end to;
        some = omega (arith, c.0);
        frame = paged;
        room = omega (arith, c.0, c.1);
        flags = fit.flags;
      }

  pub rest_paged : (frame + (chunk_end level at end - at)) % 4096 ≡ 0
  rest_paged = let c = chunk-fits level at end low in let z = chunk_paged level at end to in omega (arith, c.0)
