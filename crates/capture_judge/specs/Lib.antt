pub mod Step
pub mod Capture
pub mod Input
