-- Numbers for a handle.
pub mod Handle
