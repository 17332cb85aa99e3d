pub mod Run
pub mod Joined
pub mod Stopping
pub mod Premises
pub mod Example
