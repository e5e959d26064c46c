-- A table's words as bytes.
pub mod Image
