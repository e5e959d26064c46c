-- What both loops over a map's chunks know of a step.
pub mod Step
