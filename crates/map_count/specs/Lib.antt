-- The count over the tables.
pub mod Laws
