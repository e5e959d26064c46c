-- Compact of a sound pool. Read `Compacted`: it says what holds; the rest leads there.
pub mod Empty
pub mod Run
pub mod Tight
pub mod Compacted
