mod Said
mod Checking
mod Counts
pub mod Drafts
pub mod OneText
mod RuleParts
