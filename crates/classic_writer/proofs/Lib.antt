pub mod Escaping
pub mod Sending
