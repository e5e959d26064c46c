-- The demands on the tree that a sound pool shows. Read `Demands`; the definitions it cites stand in `Walk`, `Visit`, `Rules`, `Root`,
-- `Order`, `Modify`.

-- pages, words, the walk
pub mod Page
pub mod Word
pub mod Fine
pub mod Walk
-- visits of a tree
pub mod Visit
pub mod Slots
pub mod Count
pub mod Shown
pub mod Forest
-- the map
pub mod Rules
pub mod After
pub mod Commute
pub mod Root
pub mod Order
-- the document's loop over chunks
pub mod Local
pub mod Chunks
pub mod Sweep
pub mod Document
pub mod Needed
-- modify and compact
pub mod Edit
pub mod Modify
pub mod DocumentModify
pub mod Compact
-- what follows
pub mod Demands
pub mod Cases
