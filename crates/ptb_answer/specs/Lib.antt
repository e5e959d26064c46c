-- What a caller outside sees of an answer.
pub mod Answer
