pub mod Sequences
pub mod Places
