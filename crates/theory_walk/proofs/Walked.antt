-- In a sound pool the Arm walk never leads away, and is the walk of the root's tree. Leans on `Any`.
use Rattle.std.proofs.Math.Path.{◌≡◌, ap}
use Rattle.std.proofs.Common.{sym, ◌∙◌, le-leb, lt-ltb}
use Rattle.std.specs.Prelude.{true, ◌≢◌}
use Prim.Native.Nat.{ℕ, suc, ◌+◌, ◌*◌, ◌-◌, ◌/◌, ◌%◌, ◌≤◌, ◌<◌}
use native.Mathlib.Omega.{arith}
use Rattle.entry.specs.Word.{address_of}
use Rattle.entry.specs.Sub.{Found, sub_found}
use Rattle.pool.specs.State.{St, tables, word_at}
use Rattle.pool.specs.Refuse.{Shaped}
use Rattle.pool.specs.declared.Handle.{Handle}
use Rattle.theory_forest.proofs.Under.{refers_child, refers_level}
use Rattle.theory_forest.specs.Walk.{walk_tree}
use Rattle.theory_sound.specs.Clauses.{InUse, level_at, SoundPool}
use Rattle.theory_sound.specs.Codec.{shaped_placed, child_of, slot_word, word_in, root_tree}
use Rattle.theory_sound.specs.Hanging.{Leads}
use Rattle.theory_sound.proofs.Hanging.{root_used, root_left, table-leads, leads_refers}
use Rattle.arm.specs.Arm.{index, table_address, away, says, reach, walk}
use Rattle.arm.specs.Walk.{slot_below, table_address_lem}
use Rattle.theory_walk.specs.Any.{slots_taken, reached_at, has_table, table_of}
use Rattle.theory_walk.proofs.Any.{word, reach_reading}

-- where the code finds a table, there the Arm walk goes on
found_in : (base n : ℕ) {level x w c : ℕ} → x ≡ w → Found base n level w c → (has_table base n x ≡ true) × (table_of base x ≡ c)
unfolding has_table table_of
found_in base n {x = x} is found =
    let a = table_address_lem x ∙ ap address_of is in
    let from : base ≤ table_address x = omega (arith, a, found.from) in
    let to : table_address x < base + 4096 * n = omega (arith, a, found.from, found.below, found.place) in (
      rw (le-leb base (table_address x) from, lt-ltb (table_address x) (base + 4096 * n) to),
      ap (λ (y : ℕ). (y - base) / 4096) a
          ∙ found.place,
    )

module _ {h : Handle} {s : St} (shape : Shaped h s) (P : SoundPool h s) (va : ℕ) where
  abbrev base : ℕ
  base = h.base.0

  -- where the walk comes to: a used table with so many levels below its own
  abbrev On : ℕ → ℕ → Type 0
  On depth k = (level_at s k + depth ≡ 3) × InUse s k

  -- the table words of a used table lead to used tables one level down
  on : (depth k : ℕ) → On (suc depth) k → let x = word base (tables s) s va (suc depth) k in
      x % 4 ≡ 3 → (has_table base (tables s) x ≡ true) × (table_of base x ≡ child_of base x) × On depth (child_of base x)
  unfolding slots_taken
  on depth k o both = go (table-leads shape P k i o.1 inside (omega (arith, o.0), ap (λ (w : ℕ). w % 4) (sym is) ∙ both))
    where
      i : ℕ
      i = index (3 - suc depth) va

      inside : i < 512
      inside = slot_below (3 - suc depth) va

      x : ℕ
      x = slot_word s k i

      is : x ≡ word_at s k i
      is = word_in s k i inside

      go : (c : ℕ) × Leads h s k i c → (has_table base (tables s) x ≡ true) × (table_of base x ≡ child_of base x)
          × On depth (child_of base x)
      go (c, leads) =
          let r = leads_refers shape P leads in
          let child : child_of base x ≡ c = refers_child r in
          let below = refers_level r in
          let found = found_in base (tables s) is (sub_found base (tables s) (level_at s k) (word_at s k i) c leads.leads) in
          (found.0, found.1 ∙ sym child, rw child (omega (arith, o.0, below), r.used))

  -- the walk of an address is the walk of the root's tree, and so never leads away
  pub reach_tree : reach base (tables s) s.words va h.level ≡ reached_at (walk_tree (slots_taken va) (suc (3 - h.level)) (root_tree h s))
  unfolding reach
  reach_tree =
      reach_reading base (tables s) s va (child_of base) On on (3 - h.level) 0 (root_left (shaped_placed shape) P, root_used P)

  pub never_away : reach base (tables s) s.words va h.level ≢ away
  unfolding reached_at
  never_away e = cc (sym reach_tree ∙ e)

  pub walk_of_tree : walk base (tables s) s.words va h.level
      ≡ says va (reached_at (walk_tree (slots_taken va) (suc (3 - h.level)) (root_tree h s)))
  unfolding walk
  walk_of_tree = ap (says va) reach_tree
