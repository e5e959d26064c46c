-- What an edit would do: splits, breaches of the house rule, numbers.
pub mod House
pub mod Survey
pub mod Room
