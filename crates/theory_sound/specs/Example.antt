-- The clauses are not empty: two pools that satisfy them, by computing the test, and one that a step makes of them.
use Rattle.std.specs.Prelude.{[], ◌∷◌, set, replicate}
use Rattle.pool.specs.State.{St, st}
use Rattle.pool.specs.declared.Handle.{Handle}
use Rattle.pool.specs.declared.VaRange.TheVariants.{Lower}

-- document 01, "Bench cases"
unfoldable pub handle : Handle
handle = record { base = record { 0 = 0x8000_0000 }; level = 1; range = Lower }

-- n = 2, fresh: the root alone
unfoldable pub fresh_example : St
fresh_example = st (replicate 1024 0) (5 ∷ 0 ∷ [])

-- case B with n = 3: three tables, two links, two pages
unfoldable pub mapped : St
mapped =
    st (set (set (set (set (replicate 1536 0) 0 0x8000_1003) 512 0x8000_2003) 1025 0x9403) 1026 0xA403)
    (5 ∷ 14 ∷ 4111 ∷ [])
