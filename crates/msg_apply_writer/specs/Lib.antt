pub mod Information
pub mod Apply
