-- One table as the bytes of a page: the whole call.
pub mod Call
