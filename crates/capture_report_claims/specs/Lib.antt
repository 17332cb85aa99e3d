pub mod Captures
pub mod Added
pub mod Sent
pub mod Worked
pub mod Orders
