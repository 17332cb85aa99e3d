pub mod Buffer
pub mod Receiver
pub mod Ack
pub mod Outcome
