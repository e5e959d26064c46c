-- Compact: what is done to each entry on lists, one table after the other, and the call.
pub mod Compact
pub mod Call
