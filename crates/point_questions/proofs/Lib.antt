pub mod Excluding
pub mod Showing
pub mod Fresh
pub mod Asking
pub mod Growing
