pub mod Lanes
pub mod Instance
