-- A word edited, and a table's own entries.
pub mod Word
pub mod Own
