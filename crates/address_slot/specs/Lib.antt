-- The entry of a level that holds an address.
pub mod Slot
