-- The theorems about what specs/ defines, in the order of specs/Lib.
-- pages, words, the walk
pub mod Fine
pub mod Walk
-- visits of a tree
pub mod Visit
pub mod Slots
pub mod Count
pub mod Shown
-- the map
pub mod Rules
pub mod After
pub mod Commute
pub mod Root
pub mod Order
-- the document's loop over chunks
pub mod Local
pub mod Sweep
pub mod Document
pub mod Needed
pub mod Split
-- modify and compact
pub mod Modify
pub mod DocumentModify
-- what follows
pub mod Demands
pub mod Cases
