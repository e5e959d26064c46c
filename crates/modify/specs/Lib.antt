-- Modify: the call.
pub mod Call
