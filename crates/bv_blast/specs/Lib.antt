pub mod Inputs
pub mod Free
pub mod Places
pub mod Circuits
