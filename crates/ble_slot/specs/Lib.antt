pub mod Answer
pub mod Slot
