pub mod Lawful
pub mod Right
pub mod Inside
pub mod Example
