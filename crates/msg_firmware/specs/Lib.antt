pub mod Segment
pub mod Component
pub mod Information
pub mod Apply
