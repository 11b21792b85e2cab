pub mod KeyLemmas
pub mod Grown
pub mod Fresh
pub mod Meanings
