-- The theorems about what specs/ defines, in the order of specs/Lib.
pub mod Decided
pub mod Refused
pub mod Modify
pub mod Demands
