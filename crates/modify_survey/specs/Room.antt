-- What is counted fits: no more than three splits, and no more than three numbers, for each byte of the region. Leans on `Survey`.
use Rattle.std.specs.Prelude.{◌≡◌, Bool, true, false, cond, ℕ, zero, suc, ◌+◌, ◌*◌, ◌-◌, ◌^◌, ◌≤◌, ◌<◌, eqb}
use Rattle.std.proofs.Common.{mul-suc, mul-le-mul_left, arith}
use Rattle.entry.specs.Word.{kind_of}
use Rattle.entry.specs.Sub.{sub_of}
use Rattle.entry.specs.declared.Kind.{Kind}
use Rattle.entry.specs.declared.Kind.TheVariants.{Table as table, Block, Page, Hole}
use Rattle.entry.specs.declared.Sub.{Sub}
use Rattle.entry.specs.declared.Sub.TheVariants.{Table, Outside, Leaf}
use Rattle.address_slot.specs.Slot.{entry_index}
use Rattle.region.specs.Region.{region, whole}
use Rattle.region.specs.Each.{each_chunk, each_most}
use Rattle.region.specs.declared.MemoryRegion.{MemoryRegion}
use Rattle.pool.specs.State.{St, tables, word_at}
use Rattle.pool.specs.declared.Handle.{Handle}
use Rattle.modify_entry.specs.declared.Edit.{Edit}
use Rattle.modify_entry.specs.Word.{chunk_edit, edit_word}
use Rattle.modify_survey.specs.declared.Survey.{Survey}
use Rattle.modify_survey.specs.House.{may_change}
use Rattle.modify_survey.specs.Survey.{adding, splits_in, breach, if_block}
use Rattle.modify_survey.specs.Survey.{survey_part, survey_whole, survey_entry, survey_sub, survey_chunk}
use Rattle.modify_survey.specs.Survey.{survey_range}

abbrev pub length_of : MemoryRegion → ℕ
length_of r = r.end.0 - r.start.0

-- there is room for what the region adds
pub record Room (r : MemoryRegion) (v : Survey) : Type 0 where
  pub span : length_of r ≤ 2 ^ 48
  pub splits : v.splits + length_of r * 3 < 2 ^ 64
  pub numbers : v.numbers + length_of r * 3 < 2 ^ 64

either : (b : Bool) (x y n : ℕ) → x ≤ n → y ≤ n → cond b x y ≤ n
either true x y n h k = h
either false x y n h k = k

splits_levels : (depth : ℕ) (r : MemoryRegion) → r.start.0 < r.end.0 → splits_in depth r ≤ length_of r * depth
unfolding splits_in adding
splits_levels zero r h = omega arith
splits_levels (suc depth) r h =
    let most = each_most (λ (n : ℕ). n) depth (3 - depth) (adding (λ c. splits_in depth c))
    (λ c n l. omega (arith, splits_levels depth c l)) r 1 in
    let e = mul-suc (length_of r) depth in
    either (whole (3 - suc depth) r) 0 _ _ (omega arith) (omega arith)

pub splits_most : (level : ℕ) (r : MemoryRegion) → r.start.0 < r.end.0 → splits_in (3 - level) r ≤ length_of r * 3
splits_most level r h =
    let a = splits_levels (3 - level) r h in
    let b : length_of r * (3 - level) ≤ length_of r * 3 = mul-le-mul_left (length_of r) (omega arith) in
    omega arith

-- ---- what a survey adds

pub record Adds (r : MemoryRegion) (v x : Survey) : Type 0 where
  pub splits : x.splits ≤ v.splits + length_of r * 3
  pub numbers : x.numbers ≤ v.numbers + length_of r * 3

module _ {r : MemoryRegion} {v : Survey} where
  choose : (b : Bool) {x y : Survey} → Adds r v x → Adds r v y → Adds r v (cond b x y)
  choose true a c = a
  choose false a c = c

  same : Adds r v v
  same = record { splits = omega arith; numbers = omega arith }

  breached : (w : ℕ) {x : Survey} → Adds r v x → Adds r v (breach w x)
  unfolding breach
  breached w a = record { splits = a.splits; numbers = a.numbers }

  block : (k : Kind) {x y : Survey} → Adds r v x → Adds r v y → Adds r v (if_block k x y)
  unfolding if_block
  block table a c = c
  block Block a c = a
  block Page a c = c
  block Hole a c = c

  below : (y : Sub) {rec : ℕ → Survey} {x : Survey} → ((j : ℕ) → Adds r v (rec j)) → Adds r v x → Adds r v (survey_sub y rec x v)
  unfolding survey_sub
  below (Table j) a c = a j
  below Outside a c = same
  below Leaf a c = c

part_adds : (level : ℕ) (r : MemoryRegion) (w : ℕ) (v : Survey) → r.start.0 < r.end.0 → Adds r v (survey_part level r w v)
unfolding survey_part
part_adds level r w v h =
    let n = splits_most level r h in
    block (kind_of level w) (breached w (record { splits = omega arith; numbers = omega arith }))
    (record { splits = omega arith; numbers = omega arith })

whole_adds : (h : Handle) (level : ℕ) (e : Edit) (w : ℕ) (v : Survey) → e.region.start.0 < e.region.end.0
    → Adds e.region v (survey_whole h level e w v)
unfolding survey_whole
whole_adds h level e w v l =
    choose (eqb (edit_word level e w) w) same
    (choose (may_change h w (edit_word level e w)) (record { splits = omega arith; numbers = omega arith })
    (breached w (record { splits = omega arith; numbers = omega arith })))

pub same_adds : (r : MemoryRegion) (v : Survey) → Adds r v v
same_adds r v = same

pub entry_adds : (h : Handle) (level : ℕ) (e : Edit) (w : ℕ) (v : Survey) → e.region.start.0 < e.region.end.0
    → Adds e.region v (survey_entry h level e w v)
unfolding survey_entry
entry_adds h level e w v l = choose (whole level e.region) (whole_adds h level e w v l) (part_adds level e.region w v l)

chunk_adds : (rec : ℕ → Edit → Survey → Survey) → ((j : ℕ) (n : Edit) (x : Survey) → Adds n.region x (rec j n x))
    → (h : Handle) (s : St) (k level : ℕ) (e : Edit) (c : MemoryRegion) (v : Survey) → c.start.0 < c.end.0
    → Adds c v (survey_chunk rec h s k level e c v)
unfolding survey_chunk
chunk_adds rec a h s k level e c v l =
    let w = word_at s k (entry_index level c.start.0) in
    below (sub_of h.base.0 (tables s) level w) (λ j. a j (chunk_edit e c) v) (entry_adds h level (chunk_edit e c) w v l)

each_adds : (level : ℕ) (f : MemoryRegion → Survey → Survey)
    → ((c : MemoryRegion) (v : Survey) → c.start.0 < c.end.0 → Adds c v (f c v))
    → (r : MemoryRegion) (v : Survey) → Adds r v (each_chunk level f r v)
each_adds level f a r v = record {
  splits = each_most (λ (x : Survey). x.splits) 3 level f (λ c x l. (a c x l).splits) r v;
  numbers = each_most (λ (x : Survey). x.numbers) 3 level f (λ c x l. (a c x l).numbers) r v;
}

pub range_adds : (depth : ℕ) (h : Handle) (s : St) (k : ℕ) (e : Edit) (v : Survey) → Adds e.region v (survey_range depth h s k e v)
unfolding survey_range
range_adds zero h s k e v = each_adds 3 _ (λ c x l. chunk_adds _ (λ j n y. same) h s k 3 e c x l) e.region v
range_adds (suc depth) h s k e v =
    each_adds (3 - suc depth) _ (λ c x l. chunk_adds _ (λ j n y. range_adds depth h s j n y) h s k (3 - suc depth) e c x l) e.region v

-- ---- room for a chunk, and for what remains after it

module _ {r c : MemoryRegion} (from : c.start.0 ≡ r.start.0) (above : c.start.0 < c.end.0) (under : c.end.0 ≤ r.end.0) (v : Survey)
    (room : Room r v) where
  pub room_chunk : Room c v
  room_chunk = record { span = omega (arith, room.span); splits = omega (arith, room.splits); numbers = omega (arith, room.numbers) }

  pub room_after : (x : Survey) → Adds c v x → Room (region c.end.0 r.end.0) x
  room_after x adds = record {
    span = omega (arith, room.span);
    splits = omega (arith, room.splits, adds.splits);
    numbers = omega (arith, room.numbers, adds.numbers);
  }
