pub mod Claims
pub mod Versions
