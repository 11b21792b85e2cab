pub mod Ground
pub mod Kinds
pub mod Found
