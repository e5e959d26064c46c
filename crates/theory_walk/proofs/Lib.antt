-- The theorems about what specs/ defines, in the order of specs/Lib.
pub mod Any
pub mod Walked
pub mod Alike
pub mod Listed
