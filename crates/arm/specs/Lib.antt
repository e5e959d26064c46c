-- The table walk of the Arm manual, and its laws.
pub mod Arm
pub mod Walk
pub mod Page
