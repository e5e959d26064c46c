-- Map: the call.
pub mod Call
