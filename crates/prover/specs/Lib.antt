pub mod Answers
pub mod Parts
pub mod Splitting
pub mod Usage
pub mod Questions
