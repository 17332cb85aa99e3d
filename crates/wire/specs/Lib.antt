pub mod Told
pub mod Bytes
pub mod Scan
pub mod Stream
pub mod Limit
pub mod Those
pub mod Put
