-- Definitions that the contracts of `entry` cite, and their laws.
pub mod Word
pub mod Sub
