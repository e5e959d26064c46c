-- The calls with numbers alone.
pub mod Calls
