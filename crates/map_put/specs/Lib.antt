-- What the rules do on lists: one chunk, and one table after the other.
pub mod Put
pub mod Laws
pub mod Range
