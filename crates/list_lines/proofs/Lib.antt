-- What both walks of a region know of its chunks; the theorems about what specs/ defines, in the order of specs/Lib.
pub mod Chunk
pub mod Cover
