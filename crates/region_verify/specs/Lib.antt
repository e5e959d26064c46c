-- What list, map and modify ask of a region.
pub mod Verify
