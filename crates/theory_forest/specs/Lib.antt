-- Sound pools are forests: the theory over a codec. Read `Sound` first; the rest follows from it.
pub mod Tree
pub mod Sound
-- what hangs where, and what a change does to trees
pub mod Under
pub mod Hang
pub mod Frame
pub mod Keep
-- the steps, as relations between states
pub mod Store
pub mod Split
pub mod Free
-- how steps compose
pub mod Place
pub mod Move
pub mod Compact
-- what layer 3 sees
pub mod Walk
pub mod CompactWalk
pub mod Nodes
