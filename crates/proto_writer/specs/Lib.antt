pub mod Varint
pub mod Writer
pub mod Message
