pub mod Versions
pub mod Number
pub mod Record
pub mod Place
pub mod Walk
pub mod Stored
