-- Theorems about the definitions of specs/Example.
use Rattle.std.specs.Prelude.{◌≡◌, refl, T, Some}
use Rattle.std.proofs.Common.{arith}
use Rattle.laws.specs.Size.{size_at}
use Rattle.laws.specs.Test.{all_below, all_from}
use Rattle.entry.specs.Word.{address_of, link_of, only, el1_flags, plain_flags}
use Rattle.pool.specs.Number.{root_number, first_from, lowest_free}
use Rattle.pool.specs.State.{word_at}
use Rattle.pool_table.specs.Table.{zeros, take_at, length-zeros, zeros_at}
use Rattle.pool.specs.Refuse.{max_tables, shaped, Shaped, shaped-says}
use Rattle.pool.specs.Sound.{flag_set, fits, leafb, namesb, hangsb, tableb, linkb, refersb, slotb, soundb}
use Rattle.theory_sound.specs.Codec.{shaped_placed}
use Rattle.theory_sound.specs.Clauses.{InUse, level_at, SoundPool}
use Rattle.theory_sound.proofs.Decide.{decide_sound}
use Rattle.theory_sound.proofs.Step.{zero_stands, step_pool}
use Rattle.theory_sound.proofs.Take.{take_step}
use Rattle.theory_sound.specs.Example.{handle, fresh_example, mapped}

-- what refusals 1 and 8 compute with: to unfold this is to unfold all that its line names
unfoldable checks : Unit {0}
unfolding handle shaped max_tables soundb all_below tableb hangsb namesb all_from slotb refersb linkb leafb fits only flag_set plain_flags
    root_number link_of address_of el1_flags size_at
checks = tt

fresh-shaped : Shaped handle fresh_example
unfolding checks fresh_example
fresh-shaped = shaped-says handle fresh_example tt

fresh_test : T (soundb handle fresh_example)
unfolding checks fresh_example
fresh_test = tt

pub fresh_sound : SoundPool handle fresh_example
fresh_sound = decide_sound fresh-shaped fresh_test

mapped-shaped : Shaped handle mapped
unfolding checks mapped
mapped-shaped = shaped-says handle mapped tt

mapped_test : T (soundb handle mapped)
unfolding checks mapped
mapped_test = tt

pub mapped_sound : SoundPool handle mapped
mapped_sound = decide_sound mapped-shaped mapped_test

-- what a step asks holds of a pool: an empty table is taken for slot 0 of the fresh root
found : lowest_free fresh_example.ledger ≡ Some 1
unfolding fresh_example lowest_free first_from
found = refl

facts : InUse fresh_example 0 × (level_at fresh_example 0 ≡ 1) × (word_at fresh_example 0 0 ≡ 0)
unfolding fresh_example
facts = (omega arith, refl, refl)

pub taken_sound : SoundPool handle (take_at handle 0 2 0 zeros 1 fresh_example)
taken_sound =
    step_pool fresh_sound
    (take_step (shaped_placed fresh-shaped) fresh_sound 0 2 0 zeros 1 facts.0 (omega arith) (omega (arith, facts.1))
    (omega arith) length-zeros found
    (λ j small. rw (zeros_at j) (zero_stands handle 2 (omega arith))) 1 refl (λ table. omega (arith, table.1, facts.2)))
