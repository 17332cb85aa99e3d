pub mod Signed
pub mod Mapped
pub mod Readings
pub mod Information
