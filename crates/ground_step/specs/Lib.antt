pub mod Fit
pub mod GroundBinds
pub mod Reach
pub mod Ready
pub mod Shows
pub mod Steps
pub mod VerdictLaws
