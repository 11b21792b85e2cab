pub mod Judged
pub mod Keeping
pub mod Pairs
pub mod Tests
pub mod Turns
