-- The call list.
pub mod Call
