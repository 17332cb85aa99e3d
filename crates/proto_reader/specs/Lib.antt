pub mod Gathered
pub mod Refusal
pub mod Walk
