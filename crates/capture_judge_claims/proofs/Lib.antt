pub mod Rest
pub mod Runs
pub mod Continuing
pub mod Right
pub mod Captures
pub mod Inside
pub mod Example
