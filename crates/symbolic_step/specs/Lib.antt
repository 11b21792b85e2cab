pub mod OneStep
pub mod Ends
