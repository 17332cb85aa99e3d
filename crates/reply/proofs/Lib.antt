pub mod Replies
pub mod Puts
pub mod Tables
