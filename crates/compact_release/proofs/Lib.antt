-- `Empty`: whether all words of a table are 0.
mod Empty
