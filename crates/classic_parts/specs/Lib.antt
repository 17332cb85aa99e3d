pub mod State
pub mod Byte
pub mod Fill
pub mod FastPath
pub mod Writer
