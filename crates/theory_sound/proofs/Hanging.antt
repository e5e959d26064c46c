-- Theorems about the definitions of specs/Hanging.
use Rattle.std.specs.Prelude.{◌≡◌, refl, List, [], ◌⊎◌, ◌≢◌, ℕ, ◌+◌, ◌-◌, ◌%◌, ◌<◌}
use Rattle.std.proofs.Common.{sym, ◌∙◌, subst, inl, inr, arith}
use Rattle.std.proofs.Math.Path.{ap}
use Rattle.entry.specs.Word.{address_of, link_of, link_address}
use Rattle.entry.specs.Sub.{sub_found, sub_link}
use Rattle.pool.specs.State.{St, tables, word_at, number_at, used_in}
use Rattle.pool.specs.Number.{root_number, used}
use Rattle.pool.specs.Refuse.{Shaped}
use Rattle.pool.specs.declared.Handle.{Handle}
use Rattle.theory_forest.specs.Sound.{TableWord, parent, slot_in, Refers, Hangs}
use Rattle.theory_forest.specs.Under.{Under}
use Rattle.theory_forest.proofs.Under.{hangs_refers, refers_table}
use Rattle.theory_forest.specs.Hang.{here as at_last, down as by, Points, Reaches, path}
use Rattle.theory_forest.proofs.Hang.{grounded, reached, once, root_free}
use Rattle.theory_forest.proofs.Hang.{one-path as one_way}
use Rattle.theory_forest.specs.Nodes.{nodes, in_use as countInUse}
use Rattle.theory_forest.proofs.Nodes.{used-nodes}
use Rattle.theory_sound.specs.Alloc.{used-sum}
use Rattle.theory_sound.specs.Codec.{Placed, shaped_placed, child_of, child_link, codec_of, view, word_in, table_in, root_tree}
use Rattle.theory_sound.specs.Clauses.{InUse, level_at, SoundPool}
use Rattle.theory_sound.proofs.Generic.{pool_sound}
use Rattle.theory_sound.specs.Hanging.{Leads, Follows, OneSlot, here, down}

-- ---- every used table hangs from the root, by the ledger

pub root_used : {h : Handle} {s : St} → SoundPool h s → InUse s 0
unfolding root_number
root_used P = omega (arith, P.root)

pub root_left : {h : Handle} {s : St} → Placed h → SoundPool h s → level_at s 0 + (3 - h.level) ≡ 3
unfolding root_number
root_left placed P = omega (arith, placed.level, P.root)

pub root_under : {h : Handle} {s : St} (placed : Placed h) → SoundPool h s → {j : ℕ} → InUse s j
    → (d : ℕ) × Under (codec_of h placed) (view s) 0 d j
root_under {h} {s} placed P {j} in_use =
    let g = grounded (pool_sound placed P) in_use in
    (g.deep, subst (λ (k : ℕ). Under (codec_of h placed) (view s) k g.deep j) g.is_root.0 g.under)

module _ {h : Handle} {s : St} (shape : Shaped h s) (P : SoundPool h s) where
  -- ---- what the code sees is what the forest sees

  pub refers_leads : {k i c : ℕ} → InUse s k → Refers (codec_of h (shaped_placed shape)) (view s) k i c → Leads h s k i c
  refers_leads {k} {i} {c} in_use r =
      let table = refers_table r in
      let inside = table_in s k i table.1 in
      record {
        used = in_use;
        slot = inside;
        leads =
            rw (sym (word_in s k i inside) ∙ r.says)
            (sub_link h.base.0 (tables s) c (level_at s k) table.0 shape.paged shape.ended (used_in s c r.used));
      }

  leads_points : {k i c : ℕ} → Leads h s k i c → Points (codec_of h (shaped_placed shape)) (view s) k i c
  unfolding link_of
  leads_points {k} {i} {c} leads =
      let found = sub_found h.base.0 (tables s) (level_at s k) (word_at s k i) c leads.leads in
      let word = word_in s k i leads.slot in
      let to = P.links k i leads.slot leads.used (found.high, found.low) in
      let address = link_address h.base.0 to.0 shape.paged (omega (arith, to.1.inside, shape.ended)) in
      let is : to.0 ≡ c = omega (arith, address, found.place, ap address_of to.1.says) in
      record {
        used = leads.used;
        table = (found.high, ap (λ (w : ℕ). w % 4) word ∙ found.low);
        names = ap (child_of h.base.0) (word ∙ to.1.says) ∙ child_link h.base.0 to.0 ∙ is;
      }

  pub leads_refers : {k i c : ℕ} → Leads h s k i c → Refers (codec_of h (shaped_placed shape)) (view s) k i c
  leads_refers leads = once (pool_sound (shaped_placed shape) P) (leads_points leads)

  -- a table word of a used table refers to a table of the pool; a slot that refers to none holds no table word
  pub table-leads : (k i : ℕ) → InUse s k → i < 512 → TableWord (level_at s k) (word_at s k i) → (c : ℕ) × Leads h s k i c
  table-leads k i in_use inside table =
      let to = (pool_sound (shaped_placed shape) P).names k i in_use (table.0, ap (λ (w : ℕ). w % 4) (word_in s k i inside) ∙ table.1) in
      (to.0, refers_leads in_use to.1)

  -- ---- every used table is reached from the root by following slots

  pub reach : {j : ℕ} → InUse s j → (slots : List ℕ) × Follows h s 0 slots j
  reach {j} in_use =
      let under = root_under (shaped_placed shape) P in_use in
      (path (codec_of h (shaped_placed shape)) (view s) under.0 j [], follow (reached (pool_sound (shaped_placed shape) P) under.1))
    where
      follow : {k j : ℕ} {slots : List ℕ} → Reaches (codec_of h (shaped_placed shape)) (view s) k slots j → Follows h s k slots j
      follow at_last = here
      follow (by at rest) = down (refers_leads at.used (once (pool_sound (shaped_placed shape) P) at)) (follow rest)

  -- a table is reached from the root by one path alone
  pub one-path : {j : ℕ} {slots slots' : List ℕ} → Follows h s 0 slots j → Follows h s 0 slots' j → slots ≡ slots'
  one-path a b = one_way (pool_sound (shaped_placed shape) P) (points a) (points b)
    where
      points : {k j : ℕ} {slots : List ℕ} → Follows h s k slots j → Reaches (codec_of h (shaped_placed shape)) (view s) k slots j
      points here = at_last
      points (down leads rest) = by (leads_points leads) (points rest)

  -- ---- exactly one slot of a used table refers to a used table other than the root

  pub refer_once : {c : ℕ} → c ≢ 0 → InUse s c → OneSlot h s c
  refer_once {c} other in_use = go ((pool_sound (shaped_placed shape) P).hangs c in_use)
    where
      go : ((c ≡ 0) × (number_at s c ≡ root_number h.level)) ⊎ Hangs (codec_of h (shaped_placed shape)) (view s) c → OneSlot h s c
      go (inl root) = absurd (other root.0)
      go (inr hung) =
          let r = hangs_refers in_use hung in
          record {
            table = parent (codec_of h (shaped_placed shape)) (view s) c;
            slot = slot_in (codec_of h (shaped_placed shape)) (view s) c;
            leads = refers_leads hung.used r;
            only = λ k i leads. let r' = leads_refers leads in (sym r'.from, sym r'.at);
          }

  -- nothing refers to the root
  pub root_unreferred : {k i : ℕ} → ¬ (Leads h s k i 0)
  root_unreferred leads = root_free (pool_sound (shaped_placed shape) P) (refl, P.root) (leads_points leads)

  -- what is referred to is in use: a free table is referred to by nobody
  pub referred_used : {k i c : ℕ} → Leads h s k i c → InUse s c
  referred_used leads = (leads_refers leads).used

  pub free_unreferred : {k i c : ℕ} → number_at s c ≡ 0 → ¬ (Leads h s k i c)
  free_unreferred free leads = omega (arith, free, referred_used leads)

  -- ---- the tables in use are the nodes of the tree

  pub used_tree : used s.ledger ≡ nodes (root_tree h s)
  unfolding countInUse
  used_tree =
      used-sum s.ledger
      ∙ used-nodes (pool_sound (shaped_placed shape) P) (tables s) (used_in s) (3 - h.level) 0 (refl, P.root) (λ k root. root.0)
      (root_left (shaped_placed shape) P)
