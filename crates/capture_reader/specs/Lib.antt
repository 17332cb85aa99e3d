pub mod Capture
pub mod Captured
