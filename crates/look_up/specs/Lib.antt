-- Look up: the whole call.
pub mod Call
