pub mod Differing
pub mod Holding
pub mod Lengthened
pub mod Probing
pub mod Turns
