pub mod Numbers
pub mod Rebuilt
pub mod FilesMove
pub mod Premises
pub mod Sizes
mod Instances
