-- Definitions that the contracts of `text_words` cite.
pub mod Says
