-- An entry split, and the table below a slot.
pub mod Split
