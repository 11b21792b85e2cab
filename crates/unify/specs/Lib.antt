pub mod Binds
pub mod Scopes
pub mod Places
pub mod Equations
pub mod Meets
pub mod Constants
pub mod Branches
pub mod Matchings
