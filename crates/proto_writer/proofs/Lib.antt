pub mod Varints
pub mod Runs
pub mod Messages
pub mod Rooms
