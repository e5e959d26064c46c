-- One chunk of a table of a sound pool: what the rules do on lists is what they do on the tree of its slot, and takes no more tables than
-- that needs.
use Rattle.std.specs.Prelude.{◌≡◌, refl, ℕ, suc, ◌+◌, ◌-◌, ◌≤◌, ◌<◌, Some}
use Rattle.std.proofs.Common.{sym, ap, subst, subst₂, ◌∙◌, arith}
use Rattle.entry.specs.Sub.{sub_of}
use Rattle.entry.specs.declared.Sub.TheVariants.{Table}
use Rattle.address_slot.specs.Slot.{entry_index}
use Rattle.pool.specs.State.{St, tables, word_at, store_at}
use Rattle.pool.specs.Number.{free}
use Rattle.pool.specs.declared.Handle.{Handle}
use Rattle.pool_table.specs.Table.{taken, free_tree}
use Rattle.map_rules.specs.declared.Map.{Map}
use Rattle.map_rules.specs.declared.Rule.TheVariants.{Down}
use Rattle.map_rules.specs.Rules.{rule_of}
use Rattle.map_rules.specs.Laws.{rule_page}
use Rattle.map_split.specs.Split.{below}
use Rattle.map_count_spec.specs.Needed.{slot_below}
use Rattle.map_put.specs.Put.{map_range}
use Rattle.map_put.specs.Laws.{drop-table}
use Rattle.map_put.specs.Range.{map_step, chunk_write, chunk_keep, chunk-drop, chunk-into}
use Rattle.theory_forest.specs.Tree.{Tree, leaf, node}
use Rattle.theory_forest.specs.Sound.{Refers}
use Rattle.theory_sound.specs.Clauses.{level_at}
use Rattle.theory_sound.specs.Codec.{Placed, codec_of, view, tree_from}
use Rattle.theory_sound.specs.Step.{Ready}
use Rattle.theory_sound.specs.Slot.{slot_shows, HoldsLeaf, SlotHolds, holds_table, holds_leaf}
use Rattle.theory_sound.proofs.Slot.{page_holds, holds}
use Rattle.theory_tree.specs.Visit.{down as goDown, opened, splits, fill_tree}
use Rattle.theory_tree.specs.Shown.{FineTree}
use Rattle.theory_map.specs.Leaf.{slot_fine, holds_fine}
use Rattle.theory_map.specs.Rule.{says_of, LeafRule, keeps, writes, splits as leaf-splits, TableRule, drops, enters, page_rule}
use Rattle.theory_map.specs.Rule.{leaf_rule, table-rule}
use Rattle.theory_map.specs.Stand.{Allowed, Piece, write_stands}
use Rattle.theory_map.specs.Moves.{StepWithin, WorkedWithin, kept, stored, dropped}
use Rattle.theory_map.specs.Down.{opens}
use Rattle.theory_map.specs.Pieces.{done_to, takes, done_table, takes_table, done_keep, done_write, done_down, takes-down, Area, piece_area}

-- what opening a leaf or a table takes
pub takes-split : (m : Map) (depth w : ℕ) → says_of m (suc depth) (leaf w) ≡ goDown
    → takes m (suc depth) (leaf w) ≡ 1 + takes_table m depth (fill_tree depth w)
unfolding splits opened
takes-split m depth w e = takes-down m depth (leaf w) e

pub takes_enter : (m : Map) (depth : ℕ) (f : ℕ → Tree) → says_of m (suc depth) (node f) ≡ goDown
    → takes m (suc depth) (node f) ≡ takes_table m depth (node f)
unfolding splits opened
takes_enter m depth f e =
    let z : takes m (suc depth) (node f) ≡ 0 + takes_table m depth (node f) = takes-down m depth (node f) e in omega arith

module _ {h : Handle} (placed : Placed h) where
  -- a map of a table with `depth` levels below its own does on lists what it does on the table's tree
  abbrev pub Works : ℕ → Type 0
  Works depth =
      (q k : ℕ) (m : Map) (s : St) → Allowed h m.flags → Area depth q m → Ready h s depth k
      → takes_table m depth (tree_from h s depth k) ≤ free s.ledger
      → WorkedWithin placed s (map_range depth h k m s) depth k (done_table m depth (tree_from h s depth k))
      (takes_table m depth (tree_from h s depth k))

  module _ (q k : ℕ) (m : Map) (s : St) (depth : ℕ) (allowed : Allowed h m.flags) (piece : Piece depth q m)
      (R : Ready h s depth k) where
    abbrev pub level : ℕ
    level = 3 - depth

    abbrev pub i : ℕ
    i = entry_index level m.region.start.0

    abbrev w : ℕ
    w = word_at s k i

    -- what is to be shown, if the slot shows t
    abbrev pub Done : Tree → Type 0
    Done t = StepWithin placed s (map_step h k level m s) depth k i (done_to m depth t) (takes m depth t)

    inside : i < 512
    inside = slot_below level m.region.start.0

    -- ---- the slot holds no table

    module _ (plain : HoldsLeaf h s depth k i) where
      by_leaf : LeafRule level m depth w → (rule_of level m w ≡ Down → says_of m depth (leaf w) ≡ goDown → Done (leaf w)) → Done (leaf w)
      by_leaf (keeps r e) down =
          subst₂ (λ (s' : St) (t : Tree). StepWithin placed s s' depth k i t (takes m depth (leaf w)))
          (chunk_keep h k level m s refl refl r) (plain.shows ∙ sym (done_keep m depth (leaf w) e))
          (kept placed R i (takes m depth (leaf w)))
      by_leaf (writes x r e) down =
          subst₂ (λ (s' : St) (t : Tree). StepWithin placed s s' depth k i t (takes m depth (leaf w)))
          (chunk_write h k level m s refl refl x r) (sym (done_write m depth x (leaf w) e))
          (stored placed R i (takes m depth (leaf w)) x inside plain.plain
          (write_stands h depth q (level_at s k) x m (leaf w) allowed piece R.low (holds_fine placed R i inside plain) e))
      by_leaf (leaf-splits r e) down = down r e

  -- ---- above the lowest level

  module _ (q k : ℕ) (m : Map) (s : St) (depth : ℕ) (works : Works depth) (allowed : Allowed h m.flags) (piece : Piece (suc depth) q m)
      (R : Ready h s (suc depth) k) where
    abbrev l : ℕ
    l = 3 - suc depth

    abbrev j : ℕ
    j = entry_index l m.region.start.0

    abbrev x : ℕ
    x = word_at s k j

    abbrev Goal : Tree → Type 0
    Goal t = StepWithin placed s (map_step h k l m s) (suc depth) k j (done_to m (suc depth) t) (takes m (suc depth) t)

    slot : j < 512
    slot = slot_below l m.region.start.0

    high : l < 3
    high = omega arith

    last : 3 - (l + 1) ≡ depth
    last = omega (arith, R.low)

    -- on in table c of the state t
    goes_in : {c : ℕ} {t : St} → rule_of l m x ≡ Down → taken (Some c) t ≡ below h k l j s → map_range depth h c m t ≡ map_step h k l m s
    goes_in {c} {t} r found = ap (λ (d : ℕ). map_range d h c m t) (sym last) ∙ chunk-into h k l m s refl refl r found c refl high

    -- ---- down, after a split if there is no table

    by_down : let t = slot_shows h s (suc depth) k j in takes m (suc depth) t ≤ free s.ledger → rule_of l m x ≡ Down
        → says_of m (suc depth) t ≡ goDown → Goal t
    by_down room r e =
        let t : Tree = slot_shows h s (suc depth) k j in
        let all = takes-down m depth t e in
        let O = opens placed R j slot (omega arith) in
        let fewer = O.room in
        let W = works q O.table m O.state allowed (piece_area piece) O.ready
        (subst (λ (u : Tree). takes_table m depth u ≤ free O.state.ledger) (sym O.shows) (omega arith)) in
        let W' = subst
        (λ (u : Tree). WorkedWithin placed O.state (map_range depth h O.table m O.state) depth O.table (done_table m depth u)
        (takes_table m depth u))
        O.shows W in
        subst (λ (s' : St). StepWithin placed s s' (suc depth) k j (done_to m (suc depth) t) (takes m (suc depth) t)) (goes_in r O.found)
        (subst₂ (λ (u : Tree) (c : ℕ). StepWithin placed s (map_range depth h O.table m O.state) (suc depth) k j u c)
        (sym (done_down m depth t e)) (sym all) (O.back W'))

    -- ---- a table

    module _ (e : ℕ) (r : Refers (codec_of h placed) (view s) k j e) (leads : sub_of h.base.0 (tables s) l x ≡ Table e) where
      abbrev g : ℕ → Tree
      g i = slot_shows h s depth e i

      by_table : slot_shows h s (suc depth) k j ≡ node g → TableRule l m (suc depth) x g
          → takes m (suc depth) (slot_shows h s (suc depth) k j) ≤ free s.ledger
          → Goal (slot_shows h s (suc depth) k j)
      by_table shows (drops rule says) room =
          let fine = subst (FineTree (suc depth)) shows (slot_fine placed R j slot) in
          let put : free_tree depth h e (store_at k j m.flags s) ≡ map_step h k l m s =
          ap (λ (d : ℕ). free_tree d h e (store_at k j m.flags s)) (sym last)
          ∙ drop-table h l x (store_at k j m.flags s) refl e leads
          ∙ chunk-drop h k l m s refl refl m.flags rule in
          subst Goal (sym shows)
          (subst₂ (λ (s' : St) (t : Tree). StepWithin placed s s' (suc depth) k j t (takes m (suc depth) (node g))) put
          (sym (done_write m (suc depth) m.flags (node g) says))
          (dropped placed R j slot (takes m (suc depth) (node g)) m.flags r
          (write_stands h (suc depth) q (level_at s k) m.flags m (node g) allowed piece R.low fine says)))
      by_table shows (enters rule says) room = by_down room rule (ap (says_of m (suc depth)) shows ∙ says)

    up_works : takes m (suc depth) (slot_shows h s (suc depth) k j) ≤ free s.ledger → Goal (slot_shows h s (suc depth) k j)
    up_works room = go (holds placed R j slot)
      where
        go : SlotHolds placed s depth k j → Goal (slot_shows h s (suc depth) k j)
        go (holds_table e r both leads shows) =
            by_table e r leads shows (table-rule m depth x (omega (arith, R.low)) (λ i. slot_shows h s depth e i) both) room
        go (holds_leaf other plain) =
            let shows = plain.shows in
            subst Goal (sym shows) (by_leaf q k m s (suc depth) allowed piece R plain (leaf_rule m depth x (omega (arith, R.low)) other)
            (λ r e. subst Goal shows (by_down room r (ap (says_of m (suc depth)) shows ∙ e))))

  -- ---- ONE CHUNK

  abbrev pub ChunkWorks : ℕ → Type 0
  ChunkWorks depth =
      (q k : ℕ) (m : Map) (s : St) → Allowed h m.flags → Piece depth q m → Ready h s depth k
      → let i = entry_index (3 - depth) m.region.start.0 in
      takes m depth (slot_shows h s depth k i) ≤ free s.ledger
      → StepWithin placed s (map_step h k (3 - depth) m s) depth k i (done_to m depth (slot_shows h s depth k i))
      (takes m depth (slot_shows h s depth k i))

  -- at the lowest level nothing goes down
  pub page_works : ChunkWorks 0
  page_works q k m s allowed piece R room =
      let x : ℕ = word_at s k (entry_index 3 m.region.start.0) in
      let plain = page_holds placed R (i q k m s 0 allowed piece R) (inside q k m s 0 allowed piece R) in
      subst (Done q k m s 0 allowed piece R) (sym plain.shows)
      (by_leaf q k m s 0 allowed piece R plain (page_rule m x) (λ r e. absurd (never x r)))
    where
      never : (x : ℕ) → rule_of 3 m x ≡ Down → ⊥
      never x r = cc (rule_page 3 m x (omega arith), r)

  pub chunk_works : (depth : ℕ) → Works depth → ChunkWorks (suc depth)
  chunk_works depth works q k m s allowed piece R room = up_works q k m s depth works allowed piece R room
