pub mod Information
pub mod Features
