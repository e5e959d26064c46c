-- Modify on lists: a table with those below it.
pub mod Range
