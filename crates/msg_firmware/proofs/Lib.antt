pub mod Parts
pub mod Components
pub mod Segments
pub mod Insides
pub mod Reached
