-- A match on a rule, and the laws that the check takes.
pub mod Tags
pub mod Ways
