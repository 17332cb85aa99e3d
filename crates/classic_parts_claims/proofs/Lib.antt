pub mod Left
pub mod Filled
pub mod Joined
pub mod Stopping
pub mod Premises
pub mod Example
