pub mod Writer
pub mod Sending
