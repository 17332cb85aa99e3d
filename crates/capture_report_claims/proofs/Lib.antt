pub mod Worked
pub mod Orders
pub mod LeftOpen
pub mod Balancing
pub mod Contents
pub mod Ordering
pub mod Added
pub mod Sent
