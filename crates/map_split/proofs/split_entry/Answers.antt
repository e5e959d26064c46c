-- `split_entry`: each way through the code by its law.
use Rattle.std.proofs.Common.{◌≡◌, ℕ, ◌+◌, ◌*◌, ◌-◌, ◌%◌, ◌^◌, ◌<◌, ap, ap₂, ◌∙◌}
use mathlib.Core.Path.{subst⁻¹}
use Rattle.std.proofs.Common.{bit_and, get_or, arith}
use Rattle.laws.specs.Size.{size_at, size_pos, size_low, size_step, size_room, size-down, down, down_paged}
use Rattle.entry.specs.Word.{address_of, flags_of, address_below, mask_address, leaf_word, Plain, flags_plain}
use Rattle.pool.specs.Lent.{lent}
use Rattle.pool_table.specs.Table.{rising}
use Rattle.map_rules.specs.Fit.{leaf_most, steps_fit}
use Rattle.map_rules.specs.Laws.{fill_leaf}
use Rattle.map_split.specs.Split.{split_is}
use Rattle.map_split.proofs.split_entry.Goals.{After-granularity_at_level, After-leaf_word-first}
use Rattle.map_split.proofs.split_entry.Goals as goal

wide : (w : ℕ) → address_of w < 2 ^ 64
wide w = omega (arith, address_below w)

-- the entry's own address lies below 2^48
top_below : (level w : ℕ) → down (address_of w) (size_at level) < 2 ^ 48
top_below level w = omega (arith, size_room level (address_of w) (address_below w), size_low level)

-- the last word of the new table fits
last_fits : (level w : ℕ) → level < 3 → Plain (flags_of w)
    → leaf_word (level + 1) (down (address_of w) (size_at level)) (flags_of w) + 511 * size_at (level + 1) < 2 ^ 64
last_fits level w low plain =
    let top = down (address_of w) (size_at level) in
    let room = size_room level (address_of w) (address_below w) in
    let part = size_step level low in
    let most = leaf_most (level + 1) top (flags_of w) in
    let paged = down_paged level (address_of w) in
    let fits = steps_fit top (flags_of w) (size_at (level + 1)) paged (omega arith) (size_low (level + 1)) plain in
    omega arith

-- the old word's address, cleared below the entry's size by masks
cleared : (level w : ℕ) {g : ℕ} → g ≡ size_at level
    → bit_and (bit_and w 0xFFFF_FFFF_F000) (2 ^ 64 - 1 - (g - 1)) ≡ down (address_of w) (size_at level)
cleared level w e =
    ap₂ (λ (x g : ℕ). bit_and x (2 ^ 64 - 1 - (g - 1))) (mask_address w) e ∙ size-down level (address_of w) (wide w)

-- the old word's flags fit
plain : (c : After-granularity_at_level) → Plain (flags_of (get_or c.args.pool.now.words.now (512 * c.args.k + c.args.i) 0))
plain c = flags_plain _ (omega arith) (omega (arith, c.requires.4))

-- the new table's first word
first : (c : After-leaf_word-first) → let w = get_or c.args.pool.now.words.now (512 * c.args.k + c.args.i) 0 in
    c.leaf_word-first.result ≡ leaf_word (c.args.level + 1) (down (address_of w) (size_at c.args.level)) (flags_of w)
first c =
    c.leaf_word-first.ensures
    ∙ ap₂ (leaf_word (c.args.level + 1)) (cleared c.args.level _ c.granularity_at_level.ensures) c.flags-flags.ensures

pub overflow_sub-address : goal.overflow_sub-address
overflow_sub-address c = omega (arith, c.granularity_at_level.ensures, size_pos c.args.level)

pub leaf_word-first-requires : goal.leaf_word-first-requires
leaf_word-first-requires c =
    let level = c.args.level in
    let w = get_or c.args.pool.now.words.now (512 * c.args.k + c.args.i) 0 in
    let at = cleared level w c.granularity_at_level.ensures in (
      ap (λ (x : ℕ). x % 4096) at ∙ down_paged level (address_of w),
      subst⁻¹ (λ (x : ℕ). x < 2 ^ 48) at (top_below level w),
      subst⁻¹ Plain c.flags-flags.ensures (plain (goal.at.leaf_word-first-requires c).After-granularity_at_level),
    )

pub take_table-requires-2 : goal.take_table-requires-2
take_table-requires-2 c =
    let p = c.requires in
    let at = goal.at.take_table-requires-2 c in
    let last = ap₂ (λ (x s : ℕ). x + 511 * s) (first at.After-leaf_word-first) c.granularity_at_level-step.ensures in
    let most = last_fits c.args.level _ p.1 (plain at.After-granularity_at_level) in
    let fits = subst⁻¹ (λ (n : ℕ). n < 2 ^ 64) last most in
    (p.0, omega arith, p.2, p.3, fits)

pub returns-clause-leaves : goal.returns-clause-leaves
returns-clause-leaves c =
    let a = c.args in
    let s = lent a.pool.now in
    let valid : get_or a.pool.now.words.now (512 * a.k + a.i) 0 % 2 ≡ 1 = omega arith in
    let filled = ap₂ (rising 512) (first (goal.at.returns-clause-leaves c).After-leaf_word-first) c.granularity_at_level-step.ensures in
    c.take_table-2.ensures.leaves
    ∙ split_is a.pool.now.handle a.k a.level a.i s _ (filled ∙ fill_leaf a.level _ valid)
