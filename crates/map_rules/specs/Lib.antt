-- The five rules of a map, for one chunk.
pub mod Rules
pub mod Fit
pub mod Laws
