pub mod TakenLemmas
pub mod RuleLemmas
pub mod StepLemmas
