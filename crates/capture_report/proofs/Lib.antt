pub mod Counting
pub mod Reading
pub mod Moving
pub mod Lanes
pub mod Runs
pub mod Adding
pub mod Turning
