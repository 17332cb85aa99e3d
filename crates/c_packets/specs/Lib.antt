pub mod Convert
pub mod Calls
