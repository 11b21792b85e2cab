pub mod Values
pub mod States
pub mod Lines
pub mod Reports
pub mod Refusals
pub mod Runs
pub mod Again
