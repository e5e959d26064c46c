-- The Arm walk of a pool and of its tree; list and look up against it.
pub mod Any
pub mod Alike
pub mod Listed
pub mod AsBefore
