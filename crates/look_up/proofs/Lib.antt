-- `Tags`: what stands in an entry where a match on `Sub` or `Kind` takes the last arm.
pub mod Tags
