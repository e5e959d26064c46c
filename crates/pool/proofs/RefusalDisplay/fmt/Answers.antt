use Rattle.std.proofs.Common.{rules, sym, ap}
use Rattle.pool.specs.Words.{carried_text}
use Rattle.pool.proofs.Told.{told}
use Rattle.pool.proofs.RefusalDisplay.fmt.Goals as goal

pub returns-in-End-clause-writes : goal.returns-in-End-clause-writes
returns-in-End-clause-writes g c plain ok =
    told _ c.args.self.now c.number.ensures c.meaning.ensures (sym (ap carried_text c.in-End.is))
    (c.write.ensures.writes plain (search rules))
    (λ p. (rw c.in_radix.ensures at c.write-in-End.ensures.writes) p ok)

pub returns-in-InvalidFlags-clause-writes : goal.returns-in-InvalidFlags-clause-writes
returns-in-InvalidFlags-clause-writes g c plain ok =
    told _ c.args.self.now c.number.ensures c.meaning.ensures (sym (ap carried_text c.in-InvalidFlags.is))
    (c.write.ensures.writes plain (search rules))
    (λ p. (rw c.in_radix-in-InvalidFlags.ensures at c.write-in-InvalidFlags.ensures.writes) p ok)

pub returns-in-FlagSet-clause-writes : goal.returns-in-FlagSet-clause-writes
returns-in-FlagSet-clause-writes g c plain ok =
    told _ c.args.self.now c.number.ensures c.meaning.ensures (sym (ap carried_text c.in-FlagSet.is))
    (c.write.ensures.writes plain (search rules))
    (λ p. (rw c.in_radix-in-FlagSet.ensures at c.write-in-FlagSet.ensures.writes) p ok)

pub returns-in-RegionBackwards-clause-writes : goal.returns-in-RegionBackwards-clause-writes
returns-in-RegionBackwards-clause-writes g c plain ok =
    told _ c.args.self.now c.number.ensures c.meaning.ensures (sym (ap carried_text c.in-RegionBackwards.is))
    (c.write.ensures.writes plain (search rules))
    (λ p.
    let start = c.in_radix-in-RegionBackwards.ensures in
    let end = c.in_radix-in-RegionBackwards-2.ensures in
    (rw (start, end) at c.write-in-RegionBackwards.ensures.writes) p ok)

pub returns-in-AddressRange-clause-writes : goal.returns-in-AddressRange-clause-writes
returns-in-AddressRange-clause-writes g c plain ok =
    told _ c.args.self.now c.number.ensures c.meaning.ensures (sym (ap carried_text c.in-AddressRange.is))
    (c.write.ensures.writes plain (search rules))
    (λ p. (rw c.in_radix-in-AddressRange.ensures at c.write-in-AddressRange.ensures.writes) p ok)

pub returns-in-Frame-clause-writes : goal.returns-in-Frame-clause-writes
returns-in-Frame-clause-writes g c plain ok =
    told _ c.args.self.now c.number.ensures c.meaning.ensures (sym (ap carried_text c.in-Frame.is))
    (c.write.ensures.writes plain (search rules))
    (λ p. (rw c.in_radix-in-Frame.ensures at c.write-in-Frame.ensures.writes) p ok)

pub returns-in-WantOfRoom-clause-writes : goal.returns-in-WantOfRoom-clause-writes
returns-in-WantOfRoom-clause-writes g c plain ok =
    told _ c.args.self.now c.number.ensures c.meaning.ensures (sym (ap carried_text c.in-WantOfRoom.is))
    (c.write.ensures.writes plain (search rules))
    (λ p. c.write-in-WantOfRoom.ensures.writes p ok)

pub returns-in-HouseRule-clause-writes : goal.returns-in-HouseRule-clause-writes
returns-in-HouseRule-clause-writes g c plain ok =
    told _ c.args.self.now c.number.ensures c.meaning.ensures (sym (ap carried_text c.in-HouseRule.is))
    (c.write.ensures.writes plain (search rules))
    (λ p. (rw c.in_radix-in-HouseRule.ensures at c.write-in-HouseRule.ensures.writes) p ok)

pub returns-in-Short-clause-writes : goal.returns-in-Short-clause-writes
returns-in-Short-clause-writes g c plain ok =
    told _ c.args.self.now c.number.ensures c.meaning.ensures (sym (ap carried_text c.in-Short.is))
    (c.write.ensures.writes plain (search rules))
    (λ p. c.write-in-Short.ensures.writes p ok)
