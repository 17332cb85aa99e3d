pub mod Walking
pub mod Captured
pub mod Placed
