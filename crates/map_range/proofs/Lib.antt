-- `Chunk`: what one step of the loop over a map's chunks leaves to do.
pub mod Chunk
