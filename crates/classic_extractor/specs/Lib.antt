pub mod Outcome
pub mod State
pub mod Action
pub mod Step
