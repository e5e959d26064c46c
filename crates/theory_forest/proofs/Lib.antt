-- The theorems about what specs/ defines, in the order of specs/Lib.
pub mod Under
pub mod Hang
pub mod Frame
pub mod Keep
-- the steps, as relations between states
pub mod Store
pub mod Split
pub mod Free
-- how steps compose
pub mod Place
pub mod Move
pub mod Compact
-- what layer 3 sees
pub mod Nodes
