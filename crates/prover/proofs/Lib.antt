mod Marks
mod Pieces
mod Splits
mod Joins
mod Searches
mod Clears
mod Decisions
