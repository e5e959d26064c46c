-- The demands of document 01 on a map, of the call itself. Read `Terms` and `Mapped`; the rest leads from the lists to the trees.
pub mod Terms
-- words and rules
pub mod Leaf
pub mod Rule
pub mod Stand
-- a map on lists is a map on trees: one slot, one chunk, one table
pub mod Moves
pub mod Pieces
pub mod Down
pub mod Chunk
pub mod Loop
pub mod Range
pub mod Need
-- the call and the walk
pub mod Asked
pub mod Shown
pub mod Call
pub mod Place
pub mod Order
-- the demands
pub mod Mapped
