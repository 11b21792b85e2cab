pub mod Demands
pub mod Drafts
pub mod Lifted
pub mod Placing
pub mod Reduced
pub mod Tied
