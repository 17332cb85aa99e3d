pub mod Step
pub mod Fit
