-- The pool of document 01 is a forest. Read `Clauses` first: it is what must be believed; the rest follows from it.
pub mod Clauses
pub mod Codec
-- what a sound pool is like
pub mod Alloc
pub mod Hanging
-- the four steps on lists
pub mod Lists
pub mod Step
pub mod Slot
pub mod Take
pub mod FreeRun
-- none of it is empty
pub mod Example
