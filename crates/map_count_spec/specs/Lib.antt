-- Refusal 9: the new tables that a map needs, by recursion over the rules and without a walk of the region.
pub mod Needed
pub mod Closed
pub mod Missed
pub mod Count
pub mod SoundCount
pub mod Ends
