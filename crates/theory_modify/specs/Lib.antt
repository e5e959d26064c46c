-- What document 01 says of a modify, of the call itself. Read `Terms`, `House` and `Modified`; the rest leads from the lists to the trees.
pub mod Numbers
pub mod Terms
pub mod House
-- a modify on lists is a modify on trees: one word, the two passes over a table, one slot, one table
pub mod Word
pub mod Passes
pub mod Entry
pub mod Gathered
pub mod Notes
pub mod Pass
pub mod Own
pub mod Range
pub mod Splits
-- the list
pub mod Counted
pub mod Once
pub mod Listed
-- the call
pub mod Asked
pub mod Call
-- the house rule
pub mod Found
pub mod Stays
pub mod Change
