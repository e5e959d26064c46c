-- `Room`: refusal 9, and what is known past it.
pub mod Room
