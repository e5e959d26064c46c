-- What modify asks before anything is written: of its arguments, and of what it would do.
pub mod Verify
