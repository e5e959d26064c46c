-- The refusal slip in words: when each refusal is given, and the whole text of one. Leans on `Refuse`.
use Rattle.std.specs.Prelude.{List, ◌++◌, ℕ, false, codes, decimal}
use Rattle.std.specs.Fmt.{digits}
use Rattle.pool.specs.Refuse.{number}
use Rattle.pool.specs.declared.Refusal.{Refusal}
use Rattle.pool.specs.declared.Refusal.TheVariants.{Shape, End, InvalidFlags, FlagSet, RegionBackwards, AddressRange, Frame, Unsound}
use Rattle.pool.specs.declared.Refusal.TheVariants.{WantOfRoom, HouseRule, Short}

-- document 01, "The refusal slip": Given when
abbrev pub meaning : Refusal → List ℕ
meaning Shape =
    codes "n is 0 or above 4096, lengths disagree, base not a multiple of 4096 or its end above 2^48, root level above 3, "
    ++ codes "or table number not below n"
meaning (End end) = codes "end is 0 or above 2^64 - 4096"
meaning (InvalidFlags flags) = codes "a flag argument has bit 1"
meaning (FlagSet flags) = codes "a flag outside the set, bit 0 to set, or a bit both set and cleared"
meaning (RegionBackwards region) = codes "rounded end below rounded start"
meaning (AddressRange address) = codes "an address outside the root's span"
meaning (Frame frame) = codes "frame not a multiple of 4096, or frame + length above 2^48"
meaning Unsound = codes "pool not sound"
meaning (WantOfRoom needed free) = codes "more new tables needed than are free"
meaning (HouseRule word) = codes "live house rule broken"
meaning (Short needed) = codes "list shorter than needed, or page image not 4096 bytes"

-- a number behind 0x, in hexadecimal
abbrev pub hexadecimal : ℕ → List ℕ
hexadecimal n = codes "0x" ++ digits 16 false n

-- Carries: nothing, or a name and a number for each, in parentheses
abbrev pub carried_text : Refusal → List ℕ
carried_text Shape = codes ""
carried_text (End end) = codes " (end " ++ hexadecimal end ++ codes ")"
carried_text (InvalidFlags flags) = codes " (flags " ++ hexadecimal flags ++ codes ")"
carried_text (FlagSet flags) = codes " (flags " ++ hexadecimal flags ++ codes ")"
carried_text (RegionBackwards region) =
    codes " (start " ++ (hexadecimal region.start.0 ++ (codes ", end " ++ (hexadecimal region.end.0 ++ codes ")")))
carried_text (AddressRange address) = codes " (address " ++ hexadecimal address.0 ++ codes ")"
carried_text (Frame frame) = codes " (frame " ++ hexadecimal frame.0 ++ codes ")"
carried_text Unsound = codes ""
carried_text (WantOfRoom needed free) = codes " (needed " ++ (decimal needed ++ (codes ", free " ++ (decimal free ++ codes ")")))
carried_text (HouseRule word) = codes " (word " ++ hexadecimal word ++ codes ")"
carried_text (Short needed) = codes " (needed " ++ decimal needed ++ codes ")"

-- a refusal in full: `refused N: `, when it is given, and what it carries
abbrev pub refusal_text : Refusal → List ℕ
refusal_text r = codes "refused " ++ (decimal (number r) ++ (codes ": " ++ (meaning r ++ carried_text r)))
