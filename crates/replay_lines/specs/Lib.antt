-- Definitions that the contracts of `replay_lines` cite.
pub mod Letters
