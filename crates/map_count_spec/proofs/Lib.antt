-- The theorems about what specs/ defines, in the order of specs/Lib.
pub mod Closed
pub mod Count
pub mod SoundCount
