pub mod Steps
mod Fetched
mod Stops
mod TaskEnds
mod FirstOpen
mod Whole
mod Held
mod Outcomes
mod OneVerdict
mod OneRun
mod OneOutcome
