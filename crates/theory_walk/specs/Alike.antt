-- What look up answers at two addresses of one entry: the same kind, level and flags and, where they are mapped, frames that differ as
-- their pages do. In any pool, sound or not. Leans on arm's `Page`, look_up's `Call`.
use Rattle.std.specs.Prelude.{◌≡◌, ℕ, ◌+◌, Ok}
use Rattle.laws.specs.Size.{down}
use Rattle.address.specs.declared.PhysicalAddress.{PhysicalAddress}
use Rattle.look_up.specs.Call.{LookUpAnswer}
use Rattle.look_up.specs.declared.Looked.TheVariants.{Hole, Block, Page}

pub data Alike (a b : ℕ) : LookUpAnswer → LookUpAnswer → Type 0 where
  holes : {level flags : ℕ} → Alike a b (Ok (Hole level flags)) (Ok (Hole level flags))
  blocks : {level flags : ℕ} {f g : PhysicalAddress} → f.0 + down b 4096 ≡ g.0 + down a 4096
      → Alike a b (Ok (Block level flags f)) (Ok (Block level flags g))
  pages : {level flags : ℕ} {f g : PhysicalAddress} → f.0 + down b 4096 ≡ g.0 + down a 4096
      → Alike a b (Ok (Page level flags f)) (Ok (Page level flags g))
