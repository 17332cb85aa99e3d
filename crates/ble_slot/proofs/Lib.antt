pub mod Slots
pub mod Lanes
