pub mod Costs
pub mod Report
pub mod Turns
