pub mod More
pub mod Segment
pub mod Apply
pub mod FieldRow
