-- The document's loop over chunks is a visit, for any rule that looks at an entry's own part of the region alone.
use Rattle.std.specs.Prelude.{◌≡◌, Bool, false, ◌⊎◌, ◌≢◌}
use Rattle.std.proofs.Math.Path.{refl}
use Rattle.std.proofs.Common.{inl, inr, arith}
use Prim.Native.Nat.{ℕ, ◌+◌, ◌-◌, ◌≤◌, ◌<◌}
use Rattle.laws.specs.Test.{eq_or, le_or}
use Rattle.theory_tree.specs.Page.{first, child, child_order}
use Rattle.theory_tree.specs.Rules.{meets}
use Rattle.theory_tree.specs.Local.{Agree, meets_no}
use Rattle.theory_tree.specs.Chunks.{in_pages, FirstCut}

-- ---- a region of table q, cut into its first chunk, from s to z in slot i, and the rest

-- what slot j has of it: nothing, the first chunk, or a part of the rest
pub data Shares (flags : ℕ) (blocks : Bool) (depth q s e p z i j : ℕ) : Type 0 where
  nothing : j ≢ i → meets depth (first depth (child q j)) (in_pages flags blocks s e p) ≡ false
      → meets depth (first depth (child q j)) (in_pages flags blocks z e (p + (z - s))) ≡ false → Shares flags blocks depth q s e p z i j
  chunk : j ≡ i → meets depth (first depth (child q i)) (in_pages flags blocks z e (p + (z - s))) ≡ false
      → Agree depth (first depth (child q i)) (in_pages flags blocks s z p) (in_pages flags blocks s e p)
      → Shares flags blocks depth q s e p z i j
  rest : j ≢ i → Agree depth (first depth (child q j)) (in_pages flags blocks z e (p + (z - s))) (in_pages flags blocks s e p)
      → Shares flags blocks depth q s e p z i j

pub shares : (flags : ℕ) (blocks : Bool) (depth q s e p z i : ℕ) → FirstCut depth q s e p z i → (j : ℕ)
    → Shares flags blocks depth q s e p z i j
shares flags blocks depth q s e p z i c j = go (eq_or j i) (le_or i j)
  where
    go : (j ≡ i) ⊎ (j ≢ i) → (i ≤ j) ⊎ (j < i) → Shares flags blocks depth q s e p z i j
    go (inl at) k =
        chunk at (meets_no depth (first depth (child q i)) (in_pages flags blocks z e (p + (z - s))) (omega (arith, c.ends, c.within)))
        (record { starts = refl; stops = omega (arith, c.ends); frames = refl; same_flags = refl; same_blocks = refl })
    go (inr other) (inl k) =
        let o = child_order depth q i j (omega arith) in
        rest other (record {
          starts = omega (arith, c.ends, c.more);
          stops = refl;
          frames = omega (arith, c.more, c.chunk.start_page, c.chunk.end_page, c.chunk.frame_page);
          same_flags = refl;
          same_blocks = refl;
        })
    go (inr other) (inr k) =
        let o = child_order depth q j i k in
        nothing other (meets_no depth (first depth (child q j)) (in_pages flags blocks s e p) (omega (arith, c.chunk.low)))
        (meets_no depth (first depth (child q j)) (in_pages flags blocks z e (p + (z - s))) (omega (arith, c.chunk.low, c.more)))
