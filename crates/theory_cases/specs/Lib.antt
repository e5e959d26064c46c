-- Document 01, "Bench cases": the starred ones, proved about the definitions; `Long` has those that go over whole tables.
pub mod Long
pub mod Compacted
pub mod Starred
