pub mod Written
pub mod Pairs
pub mod Parts
mod RawStates
mod ConPlaces
mod RawValues
mod RawTrees
pub mod Reloading
