pub mod Filling
pub mod FastPath
