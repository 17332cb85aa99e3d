pub mod Feed
pub mod FastPath
