-- The theorems about what specs/ defines, in the order of specs/Lib.
pub mod Generic
pub mod Decide
-- what a sound pool is like
pub mod Made
pub mod Hanging
-- the four steps on lists
pub mod Step
pub mod Slot
pub mod Store
pub mod Take
pub mod Free
-- none of it is empty
pub mod Example
