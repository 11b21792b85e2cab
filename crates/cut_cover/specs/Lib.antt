pub mod Conditions
pub mod Outside
