-- Definitions that the contracts of `address` cite.
pub mod Address
