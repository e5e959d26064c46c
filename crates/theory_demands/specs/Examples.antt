-- The theorems are not empty: calls of the starred table that meet what they ask. Leans on theory_case_rows.
use Rattle.std.specs.Prelude.{refl, true, [], ◌∷◌}
use Rattle.std.proofs.Common.{arith}
use Rattle.laws.specs.Size.{down, up}
use Rattle.address.specs.Address.{align_up}
use Rattle.region.specs.Region.{rounded}
use Rattle.pool.specs.State.{St}
use Rattle.theory_map.specs.Terms.{MapArguments, Maps, RegionsApart, InTurn, none, next}
use Rattle.theory_map.specs.Mapped.{EitherOrder}
use Rattle.theory_map.proofs.Mapped.{maps_commute}
use Rattle.theory_modify.specs.Terms.{Modifies, modify_accepted}
use Rattle.theory_case_rows.specs.Bench.{handle, fresh_row, word, pool_a, pool_aA, RowHolds, A, AA, quick}
use Rattle.theory_case_rows.specs.Edited.{Sets, case_I}

-- case A's call, and the like of it for the next GiB
abbrev lower : MapArguments
lower = record { start = 0; end = 0x4000_0000; frame = 0x4000_0000; flags = 0x401; constraints = 0 }

abbrev upper : MapArguments
upper = record { start = 0x4000_0000; end = 0x8000_0000; frame = 0x8000_0000; flags = 0x401; constraints = 0 }

-- an accepted map
pub maps_A : Maps (handle 1) lower (fresh_row 1 8) 1 pool_a
unfolding RowHolds A
maps_A = record { answers = quick.0 }

-- an accepted live modify
pub modifies_I : Modifies (handle 1) (record { start = 0; end = 0x4000_0000; set = 0x80; clear = 0; live = true }) pool_a (7 ∷ 7 ∷ []) 1 1
    (word 0 0 0x4000_0481 (fresh_row 1 8)) (0 ∷ 7 ∷ [])
unfolding Sets modify_accepted
modifies_I = record { answers = case_I.0 }

-- two VALID maps that share no page, in turn; so in the other turn too, with the same walk
no_page : RegionsApart lower upper
unfolding rounded down align_up up
no_page va a b = omega (arith, a.below, b.from)

pub both_in_turn : InTurn (handle 1) (lower ∷ upper ∷ []) (fresh_row 1 8) pool_aA
unfolding RowHolds AA
both_in_turn = next maps_A (next (record { answers = quick.8 }) none)

pub either_order : EitherOrder (handle 1) (lower ∷ upper ∷ []) (upper ∷ lower ∷ []) (fresh_row 1 8)
either_order = maps_commute (handle 1) lower upper (fresh_row 1 8) no_page refl refl

pub other_turn : (s : St) × InTurn (handle 1) (upper ∷ lower ∷ []) (fresh_row 1 8) s
other_turn = either_order.accepted.0 (pool_aA, both_in_turn)
