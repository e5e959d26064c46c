-- The pool check: the soundness test as it is run is the soundness test.
pub mod Row
pub mod Named
pub mod Counted
pub mod Scan
pub mod Call
