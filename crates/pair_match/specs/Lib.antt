pub mod Bound
pub mod Clash
pub mod Determines
pub mod Matches
pub mod MoreCases
pub mod Related
pub mod Sameness
pub mod Unmatched
