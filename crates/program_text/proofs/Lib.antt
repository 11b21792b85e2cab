mod Checks
mod Keys
mod RowChecks
mod StartChecks
pub mod Programs
