pub mod Giving
pub mod Reaching
pub mod Opening
pub mod Kept
pub mod Searching
pub mod Simplifying
