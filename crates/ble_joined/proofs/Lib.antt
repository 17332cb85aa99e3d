pub mod Pieces
pub mod Counting
pub mod Joining
pub mod Guards
