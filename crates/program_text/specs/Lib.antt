pub mod Grounds
pub mod Rows
pub mod States
pub mod Text
