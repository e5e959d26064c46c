-- Make: the whole call.
pub mod Call
