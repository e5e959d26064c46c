-- The lines of a region, and what they cover.
pub mod Lines
pub mod Cover
