pub mod Walks
pub mod Strings
pub mod Steps
