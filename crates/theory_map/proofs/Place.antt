-- Theorems about the definitions of specs/Place.
use Rattle.std.specs.Prelude.{◌≡◌, ℕ, ◌+◌, ◌*◌, ◌-◌, ◌/◌}
use native.Mathlib.Omega.{arith}
use Rattle.laws.specs.Size.{down}
use Rattle.region.specs.Region.{rounded}
use Rattle.pool.specs.State.{St}
use Rattle.pool.specs.declared.Handle.{Handle}
use Rattle.map_verify.specs.Verify.{asked_map}
use Rattle.theory_map.specs.Terms.{MapArguments, MapPassed, InMapRegion, frame_for, map_pages_of}
use Rattle.theory_map.specs.Call.{area}
use Rattle.theory_map.specs.Place.{Paged, paged}

-- ---- the call's region

module _ {h : Handle} {c : MapArguments} {s : St} (passed : MapPassed h c s) where
  pub region_paged : Paged h (InMapRegion c) (map_pages_of c).from (map_pages_of c).upto
  unfolding asked_map
  region_paged = paged h (rounded c.start c.end) (area passed).inside

  pub frame_is : (va : ℕ) → InMapRegion c va → ((map_pages_of c).frame + (va / 4096 - (map_pages_of c).from)) * 4096 ≡ frame_for c va
  unfolding asked_map down
  frame_is va at =
      let I = (area passed).inside in
      let a = I.start_page in
      let b = I.frame_page in
      let f = at.from in
      omega arith
