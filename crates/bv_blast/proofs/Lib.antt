pub mod ArityLemmas
pub mod CircuitLemmas
pub mod FreeLemmas
pub mod ModelLemmas
pub mod PlaceLemmas
