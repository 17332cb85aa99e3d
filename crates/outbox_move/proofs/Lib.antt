pub mod Passing
pub mod Deciding
