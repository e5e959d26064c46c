-- One table of the pool as lists.
pub mod Table
