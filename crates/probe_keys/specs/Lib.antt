pub mod Cases
pub mod Probed
