pub mod Pieces
pub mod Names
pub mod Limits
pub mod Sorts
pub mod Loads
pub mod Text
