-- The theorems about what specs/ defines, in the order of specs/Lib.
pub mod Place
pub mod Order
-- the demands
pub mod Mapped
