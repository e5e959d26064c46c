-- Refusal 9's count without a walk of the region: what an entry that is no table needs, from its chunk's two ends. `Count` proves it equal
-- to `Needed`.
use Rattle.std.specs.Prelude.{◌≡◌, refl, Bool, true, false, not, cond, ◌&&◌, ◌⊎◌, ℕ, zero, suc, ◌+◌, ◌*◌, ◌-◌, ◌%◌, ◌≤◌, ◌<◌, eqb, ltb}
use Rattle.std.proofs.Common.{sym, ap, ◌∙◌, inl, inr, suc-mul, arith, eq-eqb, ne_eqb, lt-ltb, le-ltb}
use Rattle.laws.specs.Size.{size_at, size_next, add_multiple, between_multiples}
use Rattle.laws.specs.Test.{le_or, eq_or}
use Rattle.address_slot.specs.Slot.{entry_last, chunk_end}
use Rattle.region.specs.Region.{region}
use Rattle.region.specs.Chunks.{met, met_none, met-one, met_most, met-split, met-step, chunk-fits, chunk_stops}
use Rattle.pool.specs.State.{St}
use Rattle.pool.specs.declared.Handle.{Handle}
use Rattle.map_rules.specs.declared.Map.{Map}
use Rattle.map_rules.specs.declared.Rule.{Rule}
use Rattle.map_rules.specs.declared.Rule.TheVariants.{Write, Keep, Drop, Down}
use Rattle.map_rules.specs.Rules.{rule_of, chunk_map}
use Rattle.map_count_spec.specs.Needed.{if_down, child_word, need_table, first_chunk, after_first}

abbrev pub start_of : Map → ℕ
start_of m = m.region.start.0

abbrev pub end_of : Map → ℕ
end_of m = m.region.end.0

abbrev pub first_frame : Map → ℕ
first_frame m = m.frame.0

-- the last entry of this level that the region meets, if it is met in part
unfoldable pub last_part : ℕ → ℕ → ℕ → ℕ
last_part level s e = cond (ltb s e && not (eqb (e % size_at level) 0)) 1 0

-- the entries of this level that are split in a region that begins with one, where rule 2 fits nothing: where rule 3 takes the whole ones
-- the part at the end, else all
unfoldable pub rest_at : ℕ → Map → ℕ
rest_at level m =
    cond (m.blocks && eqb (first_frame m % size_at level) 0) (last_part level (start_of m) (end_of m)) (met level (start_of m) (end_of m))

-- the entries that are split, where rule 2 fits nothing, in a region that begins with one: of the level with `depth` levels below
-- its tables, and of all lower ones
unfoldable pub rests : ℕ → Map → ℕ
rests zero m = 0
rests (suc depth) m = rest_at (3 - suc depth) m + rests depth m

-- the entries of those levels that a region meets: no map of it needs more tables
unfoldable pub mets : ℕ → ℕ → ℕ → ℕ
mets zero s e = 0
mets (suc depth) s e = met (3 - suc depth) s e + mets depth s e

-- as `needed_leaf`, but only the first of the chunks below is looked into: in the others rule 2 fits nothing
unfoldable pub closed_leaf : ℕ → Map → ℕ → ℕ
closed_leaf zero m w = 0
closed_leaf (suc depth) m w =
    let level = 3 - suc depth in
    let more = 1 + closed_leaf depth (first_chunk (3 - depth) m) (child_word level w (start_of m)) + rests depth (after_first (3 - depth) m) in
    if_down (rule_of level m w) more

unfoldable pub closed : ℕ → Handle → St → ℕ → Map → ℕ
closed depth h s k m = need_table closed_leaf depth h s k m

-- ---- the part at the end

pub part_none : (level s e : ℕ) → e ≤ s → last_part level s e ≡ 0
unfolding last_part
part_none level s e h = rw (le-ltb s e h)

pub part_whole : (level s e : ℕ) → e % size_at level ≡ 0 → last_part level s e ≡ 0
unfolding last_part
part_whole level s e h = rw (eq-eqb (e % size_at level) 0 h) (both (ltb s e))
  where
    both : (b : Bool) → ◌≡◌ {A = ℕ} (cond (b && false) 1 0) 0
    both true = refl
    both false = refl

pub part_some : (level s e : ℕ) → s < e → (e % size_at level ≡ 0 → ⊥) → last_part level s e ≡ 1
unfolding last_part
part_some level s e h n = rw (lt-ltb s e h, ne_eqb (e % size_at level) 0 n)

-- wherever the region begins
part_end : (level s x e : ℕ) → s < e → x < e → last_part level s e ≡ last_part level x e
unfolding last_part
part_end level s x e h k = rw (lt-ltb s e h, lt-ltb x e k)

part_one_lem : (level s e : ℕ) → last_part level s e ≤ 1
unfolding last_part
part_one_lem level s e = go (ltb s e && not (eqb (e % size_at level) 0))
  where
    go : (b : Bool) → cond b 1 0 ≤ 1
    go true = omega arith
    go false = omega arith

-- ---- one level

abbrev choose : Bool → ℕ → ℕ → ℕ → ℕ
choose b level s e = cond b (last_part level s e) (met level s e)

pub rest_none : (level : ℕ) (m : Map) → end_of m ≤ start_of m → rest_at level m ≡ 0
unfolding rest_at
rest_none level m h = go (m.blocks && eqb (first_frame m % size_at level) 0)
  where
    go : (b : Bool) → choose b level (start_of m) (end_of m) ≡ 0
    go true = part_none level (start_of m) (end_of m) h
    go false = met_none level (start_of m) (end_of m) h

rest_met : (level : ℕ) (m : Map) → rest_at level m ≤ met level (start_of m) (end_of m)
unfolding rest_at
rest_met level m = go (m.blocks && eqb (first_frame m % size_at level) 0)
  where
    part : (end_of m ≤ start_of m) ⊎ (start_of m < end_of m) → last_part level (start_of m) (end_of m) ≤ met level (start_of m) (end_of m)
    part (inl h) = let z = part_none level (start_of m) (end_of m) h in omega arith
    part (inr h) = let k = met-step level (start_of m) (end_of m) h in let o = part_one_lem level (start_of m) (end_of m) in omega arith

    go : (b : Bool) → choose b level (start_of m) (end_of m) ≤ met level (start_of m) (end_of m)
    go true = part (le_or (end_of m) (start_of m))
    go false = omega arith

-- where rule 3 fits none is split
pub rest_blocks : (level : ℕ) (m : Map) → m.blocks ≡ true → first_frame m % size_at level ≡ 0 → end_of m % size_at level ≡ 0
    → rest_at level m ≡ 0
unfolding rest_at
rest_blocks level m b p e = rw (b, eq-eqb (first_frame m % size_at level) 0 p) (part_whole level (start_of m) (end_of m) e)

-- a chunk of one entry where it doesn't: one
pub rest_one : (level : ℕ) (m : Map) → start_of m < end_of m → end_of m ≤ entry_last level (start_of m) + 1
    → (m.blocks ≡ false) ⊎ ((first_frame m % size_at level ≡ 0 → ⊥) ⊎ (end_of m % size_at level ≡ 0 → ⊥)) → rest_at level m ≡ 1
unfolding rest_at
rest_one level m h l why = go m.blocks (eq_or (first_frame m % size_at level) 0) refl why
  where
    one : met level (start_of m) (end_of m) ≡ 1
    one = met-one level (start_of m) (end_of m) h l

    go : (b : Bool) → (first_frame m % size_at level ≡ 0) ⊎ (first_frame m % size_at level ≡ 0 → ⊥) → m.blocks ≡ b
        → (m.blocks ≡ false) ⊎ ((first_frame m % size_at level ≡ 0 → ⊥) ⊎ (end_of m % size_at level ≡ 0 → ⊥))
        → choose (m.blocks && eqb (first_frame m % size_at level) 0) level (start_of m) (end_of m) ≡ 1
    go b f q (inl n) = rw n one
    go b f q (inr (inl n)) = rw (ne_eqb (first_frame m % size_at level) 0 n) (both m.blocks)
      where
        both : (b : Bool) → choose (b && false) level (start_of m) (end_of m) ≡ 1
        both true = one
        both false = one
    go false f q (inr (inr n)) = rw q one
    go true (inl z) q (inr (inr n)) = rw (q, eq-eqb (first_frame m % size_at level) 0 z) (part_some level (start_of m) (end_of m) h n)
    go true (inr z) q (inr (inr n)) = rw (q, ne_eqb (first_frame m % size_at level) 0 z) one

-- the map m from its start to x, and from x on
abbrev pub up_to : Map → ℕ → Map
up_to m x = chunk_map m (region (start_of m) x) (first_frame m)

abbrev pub on_from : Map → ℕ → Map
on_from m x = chunk_map m (region x (end_of m)) (first_frame m + (x - start_of m))

-- x is a place to cut: the end, or where an entry of the level begins
abbrev pub CutsAt : ℕ → Map → ℕ → Type 0
CutsAt level m x = (x ≡ end_of m) ⊎ ((x < end_of m) × (x % size_at level ≡ 0))

rest_inside : (level : ℕ) (m : Map) (x : ℕ) → start_of m < x → start_of m % size_at level ≡ 0 → x < end_of m → x % size_at level ≡ 0
    → rest_at level m ≡ rest_at level (up_to m x) + rest_at level (on_from m x)
unfolding rest_at
rest_inside level m x h z l a =
    let same : (first_frame m + (x - start_of m)) % size_at level ≡ first_frame m % size_at level
    = add_multiple (first_frame m) (x - start_of m) (size_at level) (between_multiples (start_of m) x (size_at level) (omega arith) z a) in
    rw same (go (m.blocks && eqb (first_frame m % size_at level) 0))
  where
    go : (b : Bool) → choose b level (start_of m) (end_of m) ≡ choose b level (start_of m) x + choose b level x (end_of m)
    go true = let p = part_whole level (start_of m) x a in let q = part_end level (start_of m) x (end_of m) (omega arith) l in omega arith
    go false = met-split level (start_of m) x (end_of m) h l a

pub rest_cut : (level : ℕ) (m : Map) (x : ℕ) → start_of m < x → start_of m % size_at level ≡ 0 → CutsAt level m x
    → rest_at level m ≡ rest_at level (up_to m x) + rest_at level (on_from m x)
rest_cut level m x h z (inl e) =
    let r : rest_at level (on_from m x) ≡ 0 = rest_none level (on_from m x) (omega arith) in
    let q : rest_at level (up_to m x) ≡ rest_at level m = ap (λ (y : ℕ). rest_at level (up_to m y)) e in
    omega arith
rest_cut level m x h z (inr c) = rest_inside level m x h z c.0 c.1

-- ---- all levels from one on

-- the level with `depth` levels below its table's, and the next
pub level_next : (depth : ℕ) → suc depth ≤ 3 → 3 - suc depth + 1 ≡ 3 - depth
level_next depth h = omega arith

-- a multiple at the level is one at the next
pub left_next : (depth x : ℕ) → suc depth ≤ 3 → x % size_at (3 - suc depth) ≡ 0 → x % size_at (3 - depth) ≡ 0
left_next depth x h z = ap (λ (l : ℕ). x % size_at l) (sym (level_next depth h)) ∙ size_next (3 - suc depth) x (omega arith) z

pub rests_none : (depth : ℕ) (m : Map) → end_of m ≤ start_of m → rests depth m ≡ 0
unfolding rests
rests_none zero m h = refl
rests_none (suc depth) m h = let a = rest_none (3 - suc depth) m h in let b = rests_none depth m h in omega arith

pub rests_blocks : (depth : ℕ) (m : Map) → depth ≤ 3 → m.blocks ≡ true → first_frame m % size_at (3 - depth) ≡ 0
    → end_of m % size_at (3 - depth) ≡ 0 → rests depth m ≡ 0
unfolding rests
rests_blocks zero m l b p e = refl
rests_blocks (suc depth) m l b p e =
    let a = rest_blocks (3 - suc depth) m b p e in
    let r = rests_blocks depth m (omega arith) b (left_next depth (first_frame m) l p) (left_next depth (end_of m) l e) in
    omega arith

pub rests_cut : (depth : ℕ) (m : Map) (x : ℕ) → depth ≤ 3 → start_of m < x → start_of m % size_at (3 - depth) ≡ 0 → CutsAt (3 - depth) m x
    → rests depth m ≡ rests depth (up_to m x) + rests depth (on_from m x)
unfolding rests
rests_cut zero m x l h z c = refl
rests_cut (suc depth) m x l h z c =
    let a = rest_cut (3 - suc depth) m x h z c in
    let b = rests_cut depth m x (omega arith) h (left_next depth (start_of m) l z) (deeper c) in
    omega arith
  where
    deeper : CutsAt (3 - suc depth) m x → CutsAt (3 - depth) m x
    deeper (inl e) = inl e
    deeper (inr d) = inr (d.0, left_next depth x l d.1)

-- ---- no more tables than entries met

mets_none : (depth s e : ℕ) → e ≤ s → mets depth s e ≡ 0
unfolding mets
mets_none zero s e h = refl
mets_none (suc depth) s e h = let a = met_none (3 - suc depth) s e h in let b = mets_none depth s e h in omega arith

-- cut where the region ends, or where an entry begins
pub mets_cut : (depth s x e : ℕ) → depth ≤ 3 → s < x → (x ≡ e) ⊎ ((x < e) × (x % size_at (3 - depth) ≡ 0))
    → mets depth s e ≡ mets depth s x + mets depth x e
unfolding mets
mets_cut depth s x e l h (inl q) =
    let z = mets_none depth x e (omega arith) in let r : mets depth s x ≡ mets depth s e = ap (λ (y : ℕ). mets depth s y) q in omega arith
mets_cut zero s x e l h (inr c) = refl
mets_cut (suc depth) s x e l h (inr c) =
    let a = met-split (3 - suc depth) s x e h c.0 c.1 in
    let b = mets_cut depth s x e (omega arith) h (inr (c.0, left_next depth x l c.1)) in
    omega arith

-- no more than levels times addresses, so that the count fits 64 bits
pub mets_most : (depth s e : ℕ) → mets depth s e ≤ depth * (e - s)
unfolding mets
mets_most zero s e = omega arith
mets_most (suc depth) s e =
    let a = met_most (3 - suc depth) s e in let b = mets_most depth s e in let c = suc-mul depth (e - s) in omega arith

rests-met : (depth : ℕ) (m : Map) → rests depth m ≤ mets depth (start_of m) (end_of m)
unfolding rests mets
rests-met zero m = omega arith
rests-met (suc depth) m = let a = rest_met (3 - suc depth) m in let b = rests-met depth m in omega arith

pub rests_most : (depth : ℕ) (m : Map) → rests depth m ≤ depth * (end_of m - start_of m)
rests_most depth m = let a = rests-met depth m in let b = mets_most depth (start_of m) (end_of m) in omega arith

pub down_most : (r : Rule) (n : ℕ) → if_down r n ≤ n
unfolding if_down
down_most (Write x) n = omega arith
down_most Keep n = omega arith
down_most (Drop x) n = omega arith
down_most Down n = omega arith

pub leaf_met : (depth : ℕ) (m : Map) (w : ℕ) → depth ≤ 3 → start_of m < end_of m
    → closed_leaf depth m w ≤ mets depth (start_of m) (end_of m)
unfolding closed_leaf mets
leaf_met zero m w l h = omega arith
leaf_met (suc depth) m w l h =
    let f = chunk-fits (3 - depth) (start_of m) (end_of m) h in
    let stop = chunk_end (3 - depth) (start_of m) (end_of m) in
    let a = leaf_met depth (first_chunk (3 - depth) m) (child_word (3 - suc depth) w (start_of m)) (omega arith) f.0 in
    let b = rests-met depth (after_first (3 - depth) m) in
    let t = mets_cut depth (start_of m) stop (end_of m) (omega arith) f.0 (chunk_stops (3 - depth) (start_of m) (end_of m)) in
    let d = down_most (rule_of (3 - suc depth) m w)
    (1 + closed_leaf depth (first_chunk (3 - depth) m) (child_word (3 - suc depth) w (start_of m))
    + rests depth (after_first (3 - depth) m)) in
    let c = met-step (3 - suc depth) (start_of m) (end_of m) h in
    omega arith

pub leaf_most : (depth : ℕ) (m : Map) (w : ℕ) → depth ≤ 3 → start_of m < end_of m → closed_leaf depth m w ≤ depth * (end_of m - start_of m)
leaf_most depth m w l h = let a = leaf_met depth m w l h in let b = mets_most depth (start_of m) (end_of m) in omega arith
