-- Document 01, "Bench cases": the starred ones as rows, and those that compute in a second.
pub mod Computes
pub mod Bench
pub mod Edited
pub mod Listed
