pub mod Plain
pub mod Lists
mod Slices
mod OperatorTable
pub mod Trees
mod UniqueTrees
mod TreeShapes
mod PartShapes
mod ItemShapes
pub mod UniqueItems
mod Misfits
pub mod OneEnd
pub mod Turns
pub mod Loadings
pub mod Taking
pub mod Firsts
