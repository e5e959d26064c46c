-- `Front`: values written over the front of a list.
pub mod Front
