mod Passing
mod Read
mod Said
mod Kept
pub mod Drafts
