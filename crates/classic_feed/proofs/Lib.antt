pub mod Loop
pub mod Decisions
pub mod Onwards
