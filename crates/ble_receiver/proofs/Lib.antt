pub mod Parts
pub mod Accepting
pub mod Apart
pub mod Outcomes
mod Copies
pub mod Acks
