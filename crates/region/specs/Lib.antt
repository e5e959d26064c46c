-- Definitions that the contracts of `region` cite, their laws, and the loop over a region's chunks.
pub mod Region
pub mod Chunks
pub mod Each
