-- The demands, in the user's words, about the definitions that the public contracts cite.
pub mod Slip
pub mod Told
pub mod Decided
pub mod Refused
pub mod Unchanged
pub mod Demands
pub mod ShutOut
pub mod Gathered
pub mod Examples
