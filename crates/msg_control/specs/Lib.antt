pub mod Response
pub mod Envelope
