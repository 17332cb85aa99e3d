pub mod Stores
pub mod Parts
pub mod Runs
pub mod Tests
pub mod Tables
pub mod Streams
pub mod Limits
pub mod ByteLists
