-- A run of words: the soundness test word by word, by unions, and that they agree.
pub mod Words
pub mod Mask
pub mod Answer
