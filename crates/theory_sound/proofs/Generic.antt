-- Document 01's clauses say the same as theory_forest's `Sound` for the codec of the handle, so all that is proved of forests holds of
-- sound pools. And a leaf's clauses say what the test `leafb` computes.
use Rattle.std.specs.Prelude.{◌≡◌, refl, ◌&&◌, ◌⊎◌, ◌≢◌, ℕ, zero, suc, ◌+◌, ◌*◌, ◌/◌, ◌%◌, ◌≤◌, ◌<◌, T, eqb, ltb, length}
use Rattle.std.proofs.Common.{sym, ap, ◌∙◌, subst, inl, inr, eqb→eq, ltb→lt, lt→ltb, T_not}
use Rattle.std.proofs.Math.Path.{subst⁻¹}
use native.Mathlib.Omega.{arith}
use Rattle.std.proofs.Math.Dec.{not_T}
use Rattle.std.proofs.Math.ListN.{get_or-eq_default}
use Rattle.laws.specs.Bit.{SubBits}
use Rattle.laws.specs.Size.{size_at}
use Rattle.laws.specs.Test.{le_or, and_l, and_r, and_i, eq→eqb}
use Rattle.entry.specs.Word.{address_of, only, plain_flags}
use Rattle.pool.specs.State.{St, tables, word_at, number_at, used_in}
use Rattle.pool.specs.Number.{root_number, number_of, level_of, parent_of, slot_of, Names, number-whole}
use Rattle.pool.specs.Sound.{flag_set, fits, leafb}
use Rattle.pool.specs.declared.Handle.{Handle}
use Rattle.theory_forest.specs.Sound.{IsTable, Hangs, Refers, Sound}
use Rattle.theory_sound.specs.Codec.{Placed, over_of, over_names, root_unnamed, codec_of, slot_word, view, word_in, word_out, table_in}
use Rattle.theory_sound.specs.Clauses.{InUse, level_at, NamesSlot, HangsIn, LinksTo, LeafWord, SoundPool}

-- ---- a leaf

pub leaf_says : (set level w : ℕ) → level ≤ 3 → T (leafb set level w) → LeafWord set level w
unfolding leafb only fits
leaf_says set level w low t =
    let flags = eqb→eq _ (plain_flags w) (and_l (only set (plain_flags w)) (fits level w) t) in
    shape flags level low (and_r (only set (plain_flags w)) (fits level w) t)
  where
    block : SubBits (plain_flags w) set → (level : ℕ) → 0 < level → level < 3 → T (ltb (w % 4) 2 && eqb (address_of w % size_at level) 0)
        → LeafWord set level w
    block flags level some high t =
        let both : w % 4 < 2 = ltb→lt (w % 4) 2 (and_l (ltb (w % 4) 2) (eqb (address_of w % size_at level) 0) t) in
        let address : address_of w % size_at level ≡ 0 =
        eqb→eq (address_of w % size_at level) 0 (and_r (ltb (w % 4) 2) (eqb (address_of w % size_at level) 0) t) in
        record {
          flags = flags;
          clear = λ l. omega arith;
          aligned = λ a b. address;
          top = λ e. absurd (omega arith);
          page = λ e. absurd (omega arith);
        }

    shape : SubBits (plain_flags w) set → (level : ℕ) → level ≤ 3 → T (fits level w) → LeafWord set level w
    shape flags zero low t =
        let both : w % 4 ≡ 0 = eqb→eq (w % 4) 0 (and_l (eqb (w % 4) 0) (eqb (address_of w) 0) t) in
        let address : address_of w ≡ 0 = eqb→eq (address_of w) 0 (and_r (eqb (w % 4) 0) (eqb (address_of w) 0) t) in
        record {
          flags = flags;
          clear = λ l. omega arith;
          aligned = λ a b. absurd (omega arith);
          top = λ e. (omega arith, address);
          page = λ e. absurd (omega arith);
        }
    shape flags (suc zero) low t = block flags 1 (omega arith) (omega arith) t
    shape flags (suc (suc zero)) low t = block flags 2 (omega arith) (omega arith) t
    shape flags (suc (suc (suc l))) low t =
        let both : w % 4 ≢ 1 = λ e. T_not (eqb (w % 4) 1) t (eq→eqb (w % 4) 1 e) in
        record {
          flags = flags;
          clear = λ l. absurd (omega arith);
          aligned = λ a b. absurd (omega arith);
          top = λ e. absurd (omega arith);
          page = λ e v. omega arith;
        }

pub says_leaf : (set level w : ℕ) → level ≤ 3 → LeafWord set level w → T (leafb set level w)
unfolding leafb only fits
says_leaf set level w low leaf =
    and_i (only set (plain_flags w)) (fits level w) (eq→eqb _ (plain_flags w) leaf.flags) (shape level low leaf)
  where
    block : (level : ℕ) → 0 < level → level < 3 → LeafWord set level w → T (ltb (w % 4) 2 && eqb (address_of w % size_at level) 0)
    block level some high leaf =
        let clear = leaf.clear high in
        and_i (ltb (w % 4) 2) (eqb (address_of w % size_at level) 0) (lt→ltb (w % 4) 2 (omega arith))
        (eq→eqb (address_of w % size_at level) 0 (leaf.aligned (omega arith) (omega arith)))

    shape : (level : ℕ) → level ≤ 3 → LeafWord set level w → T (fits level w)
    shape zero low leaf =
        let clear = leaf.clear (omega arith) in
        let top = leaf.top refl in
        and_i (eqb (w % 4) 0) (eqb (address_of w) 0) (eq→eqb (w % 4) 0 (omega arith)) (eq→eqb (address_of w) 0 top.1)
    shape (suc zero) low leaf = block 1 (omega arith) (omega arith) leaf
    shape (suc (suc zero)) low leaf = block 2 (omega arith) (omega arith) leaf
    shape (suc (suc (suc l))) low leaf =
        not_T (eqb (w % 4) 1)
        (λ t. let one : w % 4 ≡ 1 = eqb→eq (w % 4) 1 t in let page = leaf.page (omega arith) (omega arith) in omega arith)

-- ---- numbers that name a slot

module _ {x p i : ℕ} (names : NamesSlot x p i) where
  pub slot_names : Names x
  unfolding number_of
  slot_names = omega arith

  slot_place : x / 8 ≡ 512 * p + i + 1
  unfolding number_of
  slot_place = omega arith

  pub slot_parent : parent_of x ≡ p
  slot_parent = omega (arith, slot_place)

  pub slot_slot : slot_of x ≡ i
  slot_slot = omega (arith, slot_place)

-- a number that names a slot names its own
pub names_slot : (x : ℕ) → Names x → NamesSlot x (parent_of x) (slot_of x)
names_slot x names = record { slot = omega arith; number = number-whole x names }

-- ---- from the clauses to the forest

module _ {h : Handle} (placed : Placed h) {s : St} where
  hangs_to : {k p i : ℕ} → HangsIn h s k p i → Hangs (codec_of h placed) (view s) k
  hangs_to {k} {p} {i} hangs =
      let x = number_at s k in
      let from : over_of k x ≡ p = over_names k x (slot_names hangs.names) ∙ slot_parent hangs.names in
      let at : slot_of x ≡ i = slot_slot hangs.names in
      record {
        well = slot_names hangs.names;
        used = subst⁻¹ (λ (q : ℕ). InUse s q) from hangs.used;
        below = subst⁻¹ (λ (q : ℕ). level_of x ≡ suc (level_at s q)) from (omega (arith, hangs.higher));
        refers = ap (λ (q : ℕ). slot_word s q (slot_of x)) from ∙ ap (slot_word s p) at ∙ word_in s p i hangs.names.slot ∙ hangs.refers;
      }

  pub pool_sound : SoundPool h s → Sound (codec_of h placed) (view s)
  pool_sound P = record {
    rooted = λ k x root. ap (number_at s) root.0 ∙ P.root ∙ sym root.1;
    hangs = hang;
    names = λ k i used table. name k i used (table_in s k i table.1) table;
    leaves = λ k i used inside other.
        subst⁻¹ (λ (w : ℕ). T (leafb (flag_set h) (level_at s k) w)) (word_in s k i inside)
        (says_leaf (flag_set h) (level_at s k) (word_at s k i) (omega arith)
        (P.leaves k i inside used (λ table. other (table.0, ap (λ (w : ℕ). w % 4) (word_in s k i inside) ∙ table.1))));
    free = λ k i none. empty k i none (le_or 512 i) (le_or (tables s) k);
    wide = λ k i past. word_out s k i past;
  }
    where
      hang : (k : ℕ) → InUse s k → ((k ≡ 0) × (number_at s k ≡ root_number h.level)) ⊎ Hangs (codec_of h placed) (view s) k
      hang zero used = inl (refl, P.root)
      hang (suc k) used = let at = P.hangs (suc k) (λ e. omega arith) used in inr (hangs_to at.2)

      name : (k i : ℕ) → InUse s k → i < 512 → IsTable (codec_of h placed) (view s) k i
          → (c : ℕ) × Refers (codec_of h placed) (view s) k i c
      name k i used inside table =
          let to = P.links k i inside used (omega (arith, table.0), ap (λ (w : ℕ). w % 4) (sym (word_in s k i inside)) ∙ table.1) in
          (to.0, refer to.0 to.1)
        where
          hung : (c : ℕ) → Names (number_at s c) → ((c ≡ 0) × (number_at s c ≡ root_number h.level)) ⊎ Hangs (codec_of h placed) (view s) c
              → Hangs (codec_of h placed) (view s) c
          hung c names (inl root) = absurd (root_unnamed h placed.level (number_at s c) root.1 names)
          hung c names (inr hangs) = hangs

          refer : (c : ℕ) → LinksTo h s k i c → Refers (codec_of h placed) (view s) k i c
          refer c links =
              let x = number_at s c in
              let names = slot_names links.names in
              let used : InUse s c = omega (arith, names) in
              record {
                says = word_in s k i inside ∙ links.says;
                used = used;
                from = over_names c x names ∙ slot_parent links.names;
                at = slot_slot links.names;
                hung = hung c names (hang c used);
              }

      empty : (k i : ℕ) → number_at s k ≡ 0 → (512 ≤ i) ⊎ (i < 512) → (tables s ≤ k) ⊎ (k < tables s) → slot_word s k i ≡ 0
      empty k i none (inl past) at = word_out s k i past
      empty k i none (inr inside) (inl past) = word_in s k i inside ∙ get_or-eq_default s.words 0 (omega (arith, P.sized))
      empty k i none (inr inside) (inr at) = word_in s k i inside ∙ P.free k i at inside none

  -- ---- from the forest to the clauses

  hangs_of : {k : ℕ} → Hangs (codec_of h placed) (view s) k → HangsIn h s k (parent_of (number_at s k)) (slot_of (number_at s k))
  hangs_of {k} hangs =
      let x = number_at s k in
      let from : over_of k x ≡ parent_of x = over_names k x hangs.well in
      record {
        names = names_slot x hangs.well;
        used = subst (λ (q : ℕ). InUse s q) from hangs.used;
        higher = subst (λ (q : ℕ). level_of x ≡ level_at s q + 1) from (omega (arith, hangs.below));
        refers = sym (word_in s (parent_of x) (slot_of x) (omega arith)) ∙ ap (λ (q : ℕ). slot_word s q (slot_of x)) (sym from)
            ∙ hangs.refers;
      }

  pub sound_pool : length s.words ≡ 512 * tables s → Sound (codec_of h placed) (view s) → SoundPool h s
  sound_pool sized S = record {
    sized = sized;
    root = S.rooted 0 (root_number h.level) (refl, refl);
    hangs = λ k other used. (parent_of (number_at s k), slot_of (number_at s k), hangs_of (hung k other (S.hangs k used)));
    links = λ k i inside used table.
        let to = S.names k i used (omega (arith, table.0), ap (λ (w : ℕ). w % 4) (word_in s k i inside) ∙ table.1) in
        (to.0, link k i inside to.0 to.1);
    leaves = λ k i inside used other.
        leaf_says (flag_set h) (level_at s k) (word_at s k i) (omega arith)
        (subst (λ (w : ℕ). T (leafb (flag_set h) (level_at s k) w)) (word_in s k i inside)
        (S.leaves k i used inside (λ table. other (table.0, ap (λ (w : ℕ). w % 4) (sym (word_in s k i inside)) ∙ table.1))));
    free = λ k i at inside none. sym (word_in s k i inside) ∙ S.free k i none;
  }
    where
      hung : (k : ℕ) → k ≢ 0 → ((k ≡ 0) × (number_at s k ≡ root_number h.level)) ⊎ Hangs (codec_of h placed) (view s) k
          → Hangs (codec_of h placed) (view s) k
      hung k other (inl root) = absurd (other root.0)
      hung k other (inr hangs) = hangs

      link : (k i : ℕ) → i < 512 → (c : ℕ) → Refers (codec_of h placed) (view s) k i c → LinksTo h s k i c
      link k i inside c r =
          let x = number_at s c in
          let from : parent_of x ≡ k = sym (over_names c x r.hung.well) ∙ r.from in
          record {
            inside = used_in s c r.used;
            says = sym (word_in s k i inside) ∙ r.says;
            names = rw (← from, ← r.at) (names_slot x r.hung.well);
          }
