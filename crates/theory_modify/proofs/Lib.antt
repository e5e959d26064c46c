-- The theorems about what specs/ defines, in the order of specs/Lib.
pub mod Range
-- the list
pub mod Counted
pub mod Once
pub mod Listed
-- the call
pub mod Call
-- the house rule
pub mod Lowest
pub mod Change
-- what follows
pub mod Modified
