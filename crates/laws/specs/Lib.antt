-- The library of laws: each stands once, at its natural generality.
pub mod Test
pub mod Sum
pub mod Bit
pub mod Size
pub mod Slot
pub mod Part
