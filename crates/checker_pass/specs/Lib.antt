-- The pass of the pool check, and its laws.
pub mod Pass
pub mod Tables
