-- The pool as lists: what its calls do, when it is sound, and what a refusal says.
pub mod State
pub mod Number
pub mod Refuse
pub mod Sound
pub mod Lent
pub mod Words
