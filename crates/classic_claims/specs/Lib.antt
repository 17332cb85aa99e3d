pub mod Run
pub mod Recovery
pub mod Premises
pub mod Example
