mod Arguments
mod Declaring
mod Filling
pub mod LawfulTrees
mod Limits
mod OperatorRows
pub mod Places
pub mod Read
mod Rising
mod Rows
mod StrayNumbers
pub mod There
mod Told
