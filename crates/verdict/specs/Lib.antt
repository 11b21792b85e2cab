pub mod Decided
pub mod Examined
pub mod Explored
pub mod Failing
pub mod Findings
pub mod Kinds
pub mod Shown
