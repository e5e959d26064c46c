-- A table that hangs from the slot that its number names.
pub mod Hang
