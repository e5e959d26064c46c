-- `Tags`: what stands in an entry where a match on `Sub` takes the other arms. Proofs of other crates cite it.
pub mod Tags
